-- Marks paired with candidates, and the candidates who have each mark.
use Rattle.std.proofs.Common.{◌≡◌, ℕ, suc, zero, ◌+◌, ◌<◌, ◌≤◌, ◌==◌, Bool, true, false, cond, List, [], ◌∷◌, ◌++◌, length, take, drop, set, replicate, get_or, map, inl, inr, refl, sym, ap}
use Rattle.std.proofs.Common.{◌∙◌, arith, append-nil, get_or-set_same, get_or-set_other}
use Rattle.std.specs.List.{zip, filter}
use Rattle.std.proofs.lemmas.Bool.{eq-eqb, ne_eqb, cases_eq}
use Rattle.std.proofs.lemmas.List.{take_all}
use Rattle.paper.specs.Bearers.{AreBearers, bearers_of, one_more}
use Rattle.paper.specs.Columns.{max_candidates}
use Rattle.paper.specs.Marking.{Marking, candidates_of, marked_with}
use Rattle.paper.specs.declared.marked.Bearers.{Bearers}
use Rattle.paper.specs.declared.marked.Bearers.TheVariants.{Nobody}

-- the first pairs of two lists, and the next pair
zip-take_more : (xs ys : List ℕ) (i : ℕ) → i < length xs → i < length ys → take (i + 1) (zip xs ys) ≡ take i (zip xs ys) ++ (get_or xs i 0, get_or ys i 0) ∷ []
zip-take_more [] ys i here there = absurd (omega (arith, here))
zip-take_more (x ∷ xs) [] i here there = absurd (omega (arith, there))
zip-take_more (x ∷ xs) (y ∷ ys) zero here there = refl
zip-take_more (x ∷ xs) (y ∷ ys) (suc i) here there =
    let e : suc i + 1 ≡ suc (i + 1) = omega arith in
    ap (λ n. take n ((x, y) ∷ zip xs ys)) e ∙ ap (λ l. (x, y) ∷ l) (zip-take_more xs ys i (omega (arith, here)) (omega (arith, there)))

-- adding a candidate whose mark is, or isn't, the given number
marked_with-append : (n : ℕ) (ms : Marking) (c mark : ℕ) → marked_with n (ms ++ (c, mark) ∷ []) ≡ marked_with n ms ++ cond (mark == n) (c ∷ []) []
marked_with-append n [] c mark = by_mark (mark == n)
  where
    by_mark : (b : Bool) → map (λ (m : ℕ × ℕ). m.0) (cond b ((c, mark) ∷ []) []) ≡ cond b (c ∷ []) []
    by_mark true = refl
    by_mark false = refl
marked_with-append n (m ∷ ms) c mark = by_mark (m.1 == n) (marked_with-append n ms c mark)
  where
    by_mark : (b : Bool) → marked_with n (ms ++ (c, mark) ∷ []) ≡ marked_with n ms ++ cond (mark == n) (c ∷ []) [] →
        map (λ (k : ℕ × ℕ). k.0) (cond b (m ∷ filter (λ (k : ℕ × ℕ). k.1 == n) (ms ++ (c, mark) ∷ [])) (filter (λ (k : ℕ × ℕ). k.1 == n) (ms ++ (c, mark) ∷ [])))
        ≡ map (λ (k : ℕ × ℕ). k.0) (cond b (m ∷ filter (λ (k : ℕ × ℕ). k.1 == n) ms) (filter (λ (k : ℕ × ℕ). k.1 == n) ms)) ++ cond (mark == n) (c ∷ []) []
    by_mark true others = ap (λ l. m.0 ∷ l) others
    by_mark false others = others

bearers_of-append : (cs : List ℕ) (c : ℕ) → bearers_of (cs ++ c ∷ []) ≡ one_more (bearers_of cs) c
bearers_of-append [] c = refl
bearers_of-append (d ∷ []) c = refl
bearers_of-append (d ∷ e ∷ cs) c = refl

-- there are at least as many marks as candidates
pub zip-within : (xs ys : List ℕ) → candidates_of (zip xs ys) ≡ xs → length xs ≤ length ys
zip-within [] ys same = omega arith
zip-within (x ∷ xs) [] same = cc
zip-within (x ∷ xs) (y ∷ ys) same = omega (arith, zip-within xs ys (ap (drop 1) same))

-- the bearers among the first candidates after adding the next candidate, who may or may not be a bearer
bearers-yes : (n : ℕ) (xs ys : List ℕ) (i : ℕ) (found more : Bearers) → found ≡ bearers_of (marked_with n (take i (zip xs ys))) → i < length xs → i < length ys →
    get_or ys i 0 ≡ n → more ≡ one_more found (get_or xs i 0) → more ≡ bearers_of (marked_with n (take (i + 1) (zip xs ys)))
bearers-yes n xs ys i found more so_far here there same one =
    one ∙ ap (λ b. one_more b (get_or xs i 0)) so_far ∙ sym (bearers_of-append (marked_with n (take i (zip xs ys))) (get_or xs i 0))
    ∙ ap (λ b. bearers_of (marked_with n (take i (zip xs ys)) ++ cond b (get_or xs i 0 ∷ []) [])) (sym (eq-eqb (get_or ys i 0) n same))
    ∙ ap bearers_of (sym (marked_with-append n (take i (zip xs ys)) (get_or xs i 0) (get_or ys i 0)))
    ∙ ap (λ ms. bearers_of (marked_with n ms)) (sym (zip-take_more xs ys i here there))

bearers-no : (n : ℕ) (xs ys : List ℕ) (i : ℕ) (found : Bearers) → found ≡ bearers_of (marked_with n (take i (zip xs ys))) → i < length xs → i < length ys →
    (get_or ys i 0 ≡ n → ⊥) → found ≡ bearers_of (marked_with n (take (i + 1) (zip xs ys)))
bearers-no n xs ys i found so_far here there other =
    so_far ∙ ap bearers_of (sym (append-nil (marked_with n (take i (zip xs ys)))))
    ∙ ap (λ b. bearers_of (marked_with n (take i (zip xs ys)) ++ cond b (get_or xs i 0 ∷ []) [])) (sym (ne_eqb (get_or ys i 0) n other))
    ∙ ap bearers_of (sym (marked_with-append n (take i (zip xs ys)) (get_or xs i 0) (get_or ys i 0)))
    ∙ ap (λ ms. bearers_of (marked_with n ms)) (sym (zip-take_more xs ys i here there))

-- at the start, no candidate has any of the numbers
pub nobody-yet : (k n : ℕ) → get_or (replicate k Nobody) n Nobody ≡ Nobody
nobody-yet zero n = refl
nobody-yet (suc k) zero = refl
nobody-yet (suc k) (suc n) = nobody-yet k n

-- the next candidate is added to the bearers of the number in the candidate's field
pub AreBearers-more : (xs ys : List ℕ) (i mark : ℕ) (bearers after : List Bearers) (more : Bearers) → AreBearers (take i (zip xs ys)) bearers → i < length xs → i < length ys → mark ≡ get_or ys i 0 →
    mark < max_candidates + 1 →
    length bearers ≡ max_candidates + 1 → more ≡ one_more (get_or bearers mark Nobody) (get_or xs i 0) → after ≡ set bearers mark more → AreBearers (take (i + 1) (zip xs ys)) after
AreBearers-more xs ys i mark bearers after more so_far here there is few size one put n small =
    ap (λ all. get_or all n Nobody) put
    ∙ elim (cases_eq n mark) as (λ _. get_or (set bearers mark more) n Nobody ≡ bearers_of (marked_with n (take (i + 1) (zip xs ys)))) [
      | inl same ↦
          let found = ap (λ k. get_or bearers k Nobody) (sym same) ∙ so_far n small in
          ap (λ k. get_or (set bearers mark more) k Nobody) same ∙ get_or-set_same bearers mark more Nobody (omega (arith, few, size))
          ∙ bearers-yes n xs ys i (get_or bearers mark Nobody) more found here there (sym is ∙ sym same) one
      | inr other ↦ get_or-set_other bearers mark n more Nobody other ∙ bearers-no n xs ys i (get_or bearers n Nobody) (so_far n small) here there (λ same. other (sym same ∙ sym is))
    ]

-- if the next candidate's number is too large, the bearers are unchanged
pub AreBearers-past : (xs ys : List ℕ) (i mark : ℕ) (bearers after : List Bearers) → AreBearers (take i (zip xs ys)) bearers → i < length xs → i < length ys → mark ≡ get_or ys i 0 →
    max_candidates + 1 ≤ mark → after ≡ bearers →
    AreBearers (take (i + 1) (zip xs ys)) after
AreBearers-past xs ys i mark bearers after so_far here there is large same n small =
    ap (λ all. get_or all n Nobody) same ∙ bearers-no n xs ys i (get_or bearers n Nobody) (so_far n small) here there (λ at. omega (arith, at, is, large, small))

-- once there are no further pairs, the first pairs are all of them
pub zip-all : (xs ys : List ℕ) (i : ℕ) → length xs ≤ i → take i (zip xs ys) ≡ zip xs ys
zip-all xs ys i all = take_all i (zip xs ys) (omega (arith, zip-short xs ys, all))
  where
    zip-short : (ks vs : List ℕ) → length (zip ks vs) ≤ length ks
    zip-short [] vs = omega arith
    zip-short (k ∷ ks) [] = omega arith
    zip-short (k ∷ ks) (v ∷ vs) = omega (arith, zip-short ks vs)
