-- The agreed papers of a batch.
use Rattle.std.proofs.Common.{◌≡◌, ◌&&◌, ◌||◌, Bool, true, false, cond, List, [], ◌∷◌, map, filter, Option, Some, None, refl, sym, ap, ◌∙◌}
use Rattle.std.specs.List.{list_all, list_any}
use Rattle.std.specs.Ordering.{nat_cmp, is_lt}
use Rattle.std.proofs.lemmas.Bool.{and_parts}
use Rattle.register.specs.Offices.{BatchEntry, ThirdEntry, KeyedEntry, OfficeState, third_at, keying_of}
use Rattle.register.specs.Agreement.{is_keyed, of_three, same_marks, agreed, are_taken, clerks, taken_papers, is_taken}
use Rattle.register.specs.Polls.{settled_with, settled_papers}

-- ---- two and three keyings

-- the first of two keyings, either of which may be missing, is agreed if they are equal
agreed_two : (b c : List KeyedEntry) → agreed (filter is_keyed (b ∷ c ∷ [])) ≡ cond (is_keyed b && same_marks b c) b []
unfolding same_marks
agreed_two [] [] = refl
agreed_two [] (z ∷ zs) = refl
agreed_two (y ∷ ys) [] = refl
agreed_two (y ∷ ys) (z ∷ zs) = elim (same_marks (y ∷ ys) (z ∷ zs)) as (λ e. cond (e || false) (y ∷ ys) [] ≡ cond e (y ∷ ys) []) [ true ↦ refl | false ↦ refl ]

-- whether an existing keying equals either of the two after it
equal_behind : (k : KeyedEntry) (ks b c : List KeyedEntry) → list_any (same_marks (k ∷ ks)) (filter is_keyed (b ∷ c ∷ [])) ≡ (same_marks (k ∷ ks) b || same_marks (k ∷ ks) c)
unfolding same_marks
equal_behind k ks [] [] = refl
equal_behind k ks [] (z ∷ zs) = elim (same_marks (k ∷ ks) (z ∷ zs)) as (λ e. (e || false) ≡ e) [ true ↦ refl | false ↦ refl ]
equal_behind k ks (y ∷ ys) [] = refl
equal_behind k ks (y ∷ ys) (z ∷ zs) = ap (λ e. same_marks (k ∷ ks) (y ∷ ys) || e) (elim (same_marks (k ∷ ks) (z ∷ zs)) as (λ e. (e || false) ≡ e) [ true ↦ refl | false ↦ refl ])

-- the first of three keyings is agreed if a later one equals it; otherwise the result is the same as for the
-- other two
pub agreed_three : (a b c : List KeyedEntry) → agreed (of_three a b c) ≡ cond (is_keyed a && (same_marks a b || same_marks a c)) a (cond (is_keyed b && same_marks b c) b [])
agreed_three [] b c = agreed_two b c
agreed_three (k ∷ ks) b c =
    ap (λ (e : Bool). cond e (k ∷ ks) (agreed (filter is_keyed (b ∷ c ∷ [])))) (equal_behind k ks b c)
    ∙ ap (λ (js : List KeyedEntry). cond (same_marks (k ∷ ks) b || same_marks (k ∷ ks) c) (k ∷ ks) js) (agreed_two b c)

-- if a batch with two keyings is taken, the first keying is agreed
two_taken : (b c : List KeyedEntry) → are_taken (filter is_keyed (b ∷ c ∷ [])) ≡ true → agreed (filter is_keyed (b ∷ c ∷ [])) ≡ b
two_taken b c taken = agreed_two b c ∙ go (is_keyed b && same_marks b c) (ap is_keyed (sym (agreed_two b c)) ∙ taken)
  where
    go : (e : Bool) → is_keyed (cond e b []) ≡ true → cond e b [] ≡ b
    go true keyed = refl
    go false keyed = absurd (cc)

-- ---- any number of keyings

-- the agreed keying passes a test if every keying does and, if no two keyings agree, the empty keying does too
pub agreed_passes : (p : List KeyedEntry → Bool) (ks : List (List KeyedEntry)) → list_all p ks ≡ true → (are_taken ks ≡ false → p [] ≡ true) → p (agreed ks) ≡ true
agreed_passes p [] all none = none refl
agreed_passes p (k ∷ ks) all none = go (list_any (same_marks k) ks) (λ left. agreed_passes p ks (and_parts (p k) (list_all p ks) all).1 left) none
  where
    go : (b : Bool) → ((are_taken ks ≡ false → p [] ≡ true) → p (agreed ks) ≡ true) → (is_keyed (cond b k (agreed ks)) ≡ false → p [] ≡ true) → p (cond b k (agreed ks)) ≡ true
    go true later left = (and_parts (p k) (list_all p ks) all).0
    go false later left = later left

-- ---- the papers in a taken batch

-- without a third clerk, the agreed papers are those keyed by the lower-numbered clerk
pub taken_settled : (s : OfficeState) (b : BatchEntry) → is_taken s b ≡ true → taken_papers s b ≡ settled_papers s b
taken_settled s b taken = go (third_at s b.number) refl
  where
    papers_by : Option ThirdEntry → List (List KeyedEntry)
    papers_by o = filter is_keyed (map (keying_of s b.number b.round) (clerks b o))

    lower : (e : Bool) → (let two = filter is_keyed (map (keying_of s b.number b.round) (cond e (b.first_clerk ∷ b.second_clerk ∷ []) (b.second_clerk ∷ b.first_clerk ∷ []))) in
        are_taken two ≡ true → agreed two ≡ keying_of s b.number b.round (cond e b.first_clerk b.second_clerk))
    lower true both = two_taken (keying_of s b.number b.round b.first_clerk) (keying_of s b.number b.round b.second_clerk) both
    lower false both = two_taken (keying_of s b.number b.round b.second_clerk) (keying_of s b.number b.round b.first_clerk) both

    go : (o : Option ThirdEntry) → third_at s b.number ≡ o → taken_papers s b ≡ settled_with s b o
    go (Some t) is = refl
    go None is =
        ap (λ (o : Option ThirdEntry). agreed (papers_by o)) is ∙ lower (is_lt (nat_cmp b.first_clerk b.second_clerk)) (ap (λ (o : Option ThirdEntry). are_taken (papers_by o)) (sym is) ∙ taken)
