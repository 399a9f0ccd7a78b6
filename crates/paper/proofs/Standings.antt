-- Setting statuses one by one, and skipping preferences.
use Rattle.std.proofs.Common.{◌⊎◌, ap, ◌≡◌, ℕ, suc, zero, ◌+◌, ◌<◌, nat_eq, Bool, true, false, not, cond, ◌||◌, List, [], ◌∷◌, length, take, drop, set, replicate, slice_index, inl, inr}
use Rattle.std.proofs.Common.{refl, ◌∙◌, arith, get_or-set_other, get_or-set_same}
use Rattle.std.specs.List.{list_any, find, prefix_len, slice_get}
use Rattle.std.proofs.lemmas.Bool.{eq-eqb, ne_eqb, cases_eq, cases_lt, or_right}
use Rattle.std.proofs.lemmas.List.Folds.{list_any_more}
use Rattle.paper.specs.declared.standing.CandidateStatus.{CandidateStatus}
use Rattle.paper.specs.declared.standing.CandidateStatus.TheVariants.{Continuing, Elected, Excluded, Absent}
use Rattle.paper.specs.Columns.{max_candidates, IsColumn}
use Rattle.paper.specs.Standing.{status_of, status_among, is_continuing_status, is_continuing, from_first}

or_none : (b c : Bool) → c ≡ false → (b || c) ≡ b
or_none true c none = refl
or_none false c none = none

-- setting the status of a number
pub status_of-set : (old now : List CandidateStatus) (s : CandidateStatus) (xs : List ℕ) (i k : ℕ) → i < length xs → slice_index xs i < length now →
    status_of now k ≡ cond (list_any (nat_eq k) (take i xs)) s (status_of old k) →
    status_of (set now (slice_index xs i) s) k ≡ cond (list_any (nat_eq k) (take (i + 1) xs)) s (status_of old k)
status_of-set old now s xs i k here within given =
    let more = list_any_more (nat_eq k) xs i 0 here in
    elim (cases_eq k (slice_index xs i)) [
      | inl same ↦
          rw (more, or_right (list_any (nat_eq k) (take i xs)) (nat_eq k (slice_index xs i)) (eq-eqb k (slice_index xs i) same), same)
          (get_or-set_same now (slice_index xs i) s _ within)
      | inr other ↦
          rw (more, or_none (list_any (nat_eq k) (take i xs)) (nat_eq k (slice_index xs i)) (ne_eqb k (slice_index xs i) other))
          (get_or-set_other now (slice_index xs i) k s _ other ∙ given)
    ]

-- skipping the elements that fail a test leaves the rest of the list, starting at the first element that passes
pub drop-passed : {X : Type 0} (p : X → Bool) (xs : List X) → drop (prefix_len (λ x. not (p x)) xs) xs ≡ from_first p xs
drop-passed p [] = refl
drop-passed p (x ∷ xs) = by_test (p x) refl (drop-passed p xs)
  where
    by_test : (b : Bool) → p x ≡ b → drop (prefix_len (λ y. not (p y)) xs) xs ≡ from_first p xs →
        drop (prefix_len (λ y. not (p y)) (x ∷ xs)) (x ∷ xs) ≡ from_first p (x ∷ xs)
    by_test true passes others = rw passes refl
    by_test false fails others =
        let e : 1 + prefix_len (λ y. not (p y)) xs ≡ suc (prefix_len (λ y. not (p y)) xs) = omega arith in
        rw (fails, e) others

-- the first element of the rest is the first element that passes
pub find-from_first : {X : Type 0} (p : X → Bool) (xs : List X) → slice_get (from_first p xs) 0 ≡ find p xs
find-from_first p [] = refl
find-from_first p (x ∷ xs) = by_test (p x) refl (find-from_first p xs)
  where
    by_test : (b : Bool) → p x ≡ b → slice_get (from_first p xs) 0 ≡ find p xs → slice_get (from_first p (x ∷ xs)) 0 ≡ find p (x ∷ xs)
    by_test true passes others = rw passes refl
    by_test false fails others = rw fails others

-- before any status is set, every number is absent
pub status_of-absent : (n k : ℕ) → status_of (replicate n Absent) k ≡ Absent
status_of-absent zero k = refl
status_of-absent (suc n) zero = refl
status_of-absent (suc n) (suc k) = status_of-absent n k

-- the continuing candidates are those in the first set
pub is_continuing-among : (standing : List CandidateStatus) (continuing elected excluded : List ℕ) (c : ℕ) →
    status_of standing c ≡ status_among continuing elected excluded c → is_continuing standing c ≡ list_any (nat_eq c) continuing
is_continuing-among standing continuing elected excluded c is =
    ap is_continuing_status is ∙ by_sets (list_any (nat_eq c) continuing) (list_any (nat_eq c) elected) (list_any (nat_eq c) excluded)
  where
    by_sets : (a b d : Bool) → is_continuing_status (cond a Continuing (cond b Elected (cond d Excluded Absent))) ≡ a
    by_sets true b d = refl
    by_sets false true d = refl
    by_sets false false true = refl
    by_sets false false false = refl

pub column_or_not : (c : ℕ) → IsColumn c ⊎ ¬ IsColumn c
column_or_not c =
    elim (cases_lt 0 c) [
      | inl some ↦ elim (cases_lt max_candidates c) [ inl many ↦ inr (λ column. omega (arith, column.1, many)) | inr few ↦ inl (some, few) ]
      | inr none ↦ inr (λ column. omega (arith, column.0, none))
    ]
