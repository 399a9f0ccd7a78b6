-- The line of withdrawn candidates, number by number.
use Rattle.std.proofs.Common.{◌≡◌, ℕ, ◌+◌, ◌<◌, ◌≤◌, Bool, true, false, cond, arith, is_none, List, [], ◌∷◌, ◌++◌, length, take, drop, get_or, codes, Option, Result, Ok, Err, IsErr, refl}
use Rattle.std.proofs.Common.{sym, ap, ◌∙◌, subst, append_assoc, append-nil}
use Rattle.std.specs.List.{flat_map, filter}
use Rattle.std.proofs.lemmas.Grind.{flat_map-append}
use Rattle.std.proofs.lemmas.List.{take-append-drop, take_more, take_all}
use Rattle.std.proofs.lemmas.List.FromFn.{length-range_with_len, get_or-range_with_len}
use Rattle.std.proofs.lemmas.List.Elements.{filter-append}
use Rattle.sheet.specs.Entries.{SheetEntry}
use Rattle.sheet.specs.Ballots.{highest_number, name_at, numbers_of, withdrawn, withdrawn_number, withdrawn_line}
use Rattle.sheet.specs.Lines.{line}
use Rattle.sheet.specs.Writing.{Writes}
use Rattle.sheet.proofs.Writing.{Writes-then, Writes-failed, Writes-front}

-- whether there is no number yet
abbrev pub is_none_yet : List ℕ → Bool
is_none_yet [] = true
is_none_yet (c ∷ cs) = false

-- the numbers in a line of withdrawn candidates, without its newline
abbrev pub joined : List ℕ → List ℕ
joined [] = []
joined (c ∷ cs) = withdrawn_number true c ++ flat_map (withdrawn_number false) cs

-- another number
pub joined-more : (xs : List ℕ) (c : ℕ) → joined (xs ++ c ∷ []) ≡ joined xs ++ withdrawn_number (is_none_yet xs) c
joined-more [] c = append-nil (withdrawn_number true c)
joined-more (x ∷ xs) c =
    ap (λ l. withdrawn_number true x ++ l) (flat_map-append (withdrawn_number false) xs (c ∷ []) ∙ ap (λ l. flat_map (withdrawn_number false) xs ++ l) (append-nil (withdrawn_number false c)))
    ∙ sym (append_assoc (withdrawn_number true x) (flat_map (withdrawn_number false) xs) (withdrawn_number false c))

-- what follows the given numbers in a line that contains them and others
abbrev behind : List ℕ → List ℕ → List ℕ
behind [] ys = withdrawn_line ys
behind (x ∷ xs) ys = flat_map (withdrawn_number false) ys ++ codes "\n"

line_is : (c : ℕ) (cs : List ℕ) → withdrawn_line (c ∷ cs) ≡ joined (c ∷ cs) ++ codes "\n"
unfolding line
line_is c cs = ap (λ l. (withdrawn_number true c ++ l) ++ codes "\n") (append-nil (flat_map (withdrawn_number false) cs))

pub line-parted : (xs ys : List ℕ) → withdrawn_line (xs ++ ys) ≡ joined xs ++ behind xs ys
line-parted [] ys = refl
line-parted (x ∷ xs) ys =
    line_is x (xs ++ ys)
    ∙ ap (λ l. (withdrawn_number true x ++ l) ++ codes "\n") (flat_map-append (withdrawn_number false) xs ys)
    ∙ ap (λ l. l ++ codes "\n") (sym (append_assoc (withdrawn_number true x) (flat_map (withdrawn_number false) xs) (flat_map (withdrawn_number false) ys)))
    ∙ append_assoc (joined (x ∷ xs)) (flat_map (withdrawn_number false) ys) (codes "\n")

-- the whole line, depending on whether there is a number
pub line_of_none : (xs : List ℕ) → is_none_yet xs ≡ true → withdrawn_line xs ≡ []
line_of_none [] none = refl
line_of_none (x ∷ xs) none = absurd (cc)

pub line_of_some : (xs : List ℕ) → is_none_yet xs ≡ false → withdrawn_line xs ≡ joined xs ++ codes "\n"
line_of_some [] some = absurd (cc)
line_of_some (x ∷ xs) some = line_is x xs

pub joined_none : (xs : List ℕ) → is_none_yet xs ≡ true → joined xs ≡ []
joined_none [] none = refl
joined_none (x ∷ xs) none = absurd (cc)

pub none_more : (xs : List ℕ) (c : ℕ) → is_none_yet (xs ++ c ∷ []) ≡ false
none_more [] c = refl
none_more (x ∷ xs) c = refl

-- ---- the numbers of a ward, up to a bound

module _ (ward : SheetEntry) where
  abbrev pub is_missing : ℕ → Bool
  is_missing c = is_none (name_at ward.candidates c)

  -- the withdrawn candidates among the first n numbers
  abbrev pub so_far : ℕ → List ℕ
  so_far n = filter is_missing (take n (numbers_of ward))

  -- the number at a position
  pub number_at : (n d : ℕ) → n < highest_number ward.candidates → n + 1 ≡ get_or (numbers_of ward) n d
  number_at n d within = omega (arith, get_or-range_with_len 1 (highest_number ward.candidates) n d within)

  pub number_within : (n : ℕ) → n < highest_number ward.candidates → n < length (numbers_of ward)
  number_within n within = omega (arith, length-range_with_len 1 (highest_number ward.candidates), within)

  pub all_within : (n : ℕ) → highest_number ward.candidates ≤ n → length (numbers_of ward) ≤ n
  all_within n above = omega (arith, length-range_with_len 1 (highest_number ward.candidates), above)

  -- the withdrawn candidates so far, with the next number
  pub so_far-more : (n : ℕ) (b : Bool) → n < highest_number ward.candidates → is_missing (n + 1) ≡ b → so_far (n + 1) ≡ so_far n ++ cond b ((n + 1) ∷ []) []
  so_far-more n b within is =
      ap (filter is_missing) (take_more (numbers_of ward) n 0 (number_within n within))
      ∙ filter-append is_missing (take n (numbers_of ward)) (get_or (numbers_of ward) n 0 ∷ [])
      ∙ ap (λ c. so_far n ++ filter is_missing (c ∷ [])) (sym (number_at n 0 within))
      ∙ ap (λ b. so_far n ++ cond b ((n + 1) ∷ []) []) is

  -- all withdrawn candidates
  pub so_far-all : (n : ℕ) → highest_number ward.candidates ≤ n → so_far n ≡ withdrawn ward
  so_far-all n above = ap (filter is_missing) (take_all n (numbers_of ward) (all_within n above))

  so_far-parted : (n : ℕ) → withdrawn ward ≡ so_far n ++ filter is_missing (drop n (numbers_of ward))
  so_far-parted n = ap (filter is_missing) (sym (take-append-drop n (numbers_of ward))) ∙ filter-append is_missing (take n (numbers_of ward)) (drop n (numbers_of ward))

  module _ {W : Type 0} {taken : W → Option (List ℕ)} {failed : W → ℕ} {X E : Type 0} where
    -- another number has been written
    pub Writes-withdrawn : {Y F : Type 0} {old mid new : W} {x : X} (n : ℕ) (r : Result Y F) → n < highest_number ward.candidates → is_missing (n + 1) ≡ true →
        Writes {E = E} taken failed old mid (joined (so_far n)) (Ok x) → Writes taken failed mid new (withdrawn_number (is_none_yet (so_far n)) (n + 1)) r →
        Writes taken failed old new (joined (so_far (n + 1))) r
    Writes-withdrawn {old = old} {mid = mid} {new = new} n r within missing front next =
        subst (λ text. Writes taken failed old new text r) (sym (ap joined (so_far-more n true within missing) ∙ joined-more (so_far n) (n + 1))) (Writes-then r front next)

    -- writing another number failed, and the failure is passed on
    pub Writes-withdrawn_cut : {old mid new : W} {x : X} {e : E} (n : ℕ) (r : Result X E) → n < highest_number ward.candidates → is_missing (n + 1) ≡ true →
        Writes {E = E} taken failed old mid (joined (so_far n)) (Ok x) → Writes {X = X} taken failed mid new (withdrawn_number (is_none_yet (so_far n)) (n + 1)) (Err e) → IsErr r →
        Writes taken failed old new (withdrawn_line (withdrawn ward)) r
    Writes-withdrawn_cut {old = old} {new = new} {e = e} n r within missing front next failure =
        let cut = Writes-failed r failure (Writes-withdrawn {F = E} n (Err e) within missing front next) in
        let line = ap withdrawn_line (so_far-parted (n + 1)) ∙ line-parted (so_far (n + 1)) (filter is_missing (drop (n + 1) (numbers_of ward))) in
        subst (λ text. Writes taken failed old new text r) (sym line) (Writes-front (behind (so_far (n + 1)) (filter is_missing (drop (n + 1) (numbers_of ward)))) r failure cut)
