-- Lists stored in arrays and followed by zeros.
use borrow.Rule.Slice.PartMut.{put_mid}
use Rattle.std.proofs.Common.{set, drop, append_assoc, length-append, ◌≡◌, ℕ, suc, zero, ◌+◌, ◌-◌, ◌<◌, ◌≤◌, ◌==◌, Bool, true, false, not, cond, List, [], ◌∷◌, ◌++◌, length, take, replicate}
use Rattle.std.proofs.Common.{refl, sym, ap, ◌∙◌, arith}
use Rattle.std.specs.List.{AllByRecursion}
use Rattle.std.proofs.lemmas.List.{set_at, take_at, drop_at, drop-replicate}
use Rattle.std.proofs.lemmas.List.Sums.{take_while-cons}
use Rattle.std.proofs.lemmas.List.Folds.{length-prefix_len}
use Rattle.std.proofs.lemmas.Bool.{eqb-true}
use Rattle.paper.specs.Columns.{max_candidates}
use Rattle.paper.specs.Padded.{listed, padded}

-- a number other than 0 is part of the list
listed-cons : (x : ℕ) (xs : List ℕ) → 1 ≤ x → listed (x ∷ xs) ≡ x ∷ listed xs
listed-cons x xs some = take_while-cons (λ n. not (n == 0)) x xs ∙ kept (x == 0) refl
  where
    kept : (b : Bool) → (x == 0) ≡ b → cond (not b) (x ∷ listed xs) [] ≡ x ∷ listed xs
    kept true is = absurd (omega (arith, eqb-true x 0 is, some))
    kept false is = refl

-- an array of zeros stores the empty list
listed-zeros : (n : ℕ) → listed (replicate n 0) ≡ []
listed-zeros zero = refl
listed-zeros (suc n) = refl

-- the list consists of the numbers before the zeros, provided that none of them is 0
pub listed-append_zeros : (xs : List ℕ) (n : ℕ) → AllByRecursion (λ x. 1 ≤ x) xs → listed (xs ++ replicate n 0) ≡ xs
listed-append_zeros [] n some = listed-zeros n
listed-append_zeros (x ∷ xs) n some = listed-cons x (xs ++ replicate n 0) some.0 ∙ ap (λ l. x ∷ l) (listed-append_zeros xs n some.1)

-- the list stored in an array is a prefix of the array
pub listed-take : (numbers : List ℕ) → take (length (listed numbers)) numbers ≡ listed numbers
listed-take numbers = ap (λ n. take n numbers) (length-prefix_len (λ n. not (n == 0)) numbers)

pub ruleset listed_by_length = listed-take

-- writing a list over the front of what follows another list
put_over : (front mid behind : List ℕ) (n k : ℕ) → length front ≡ n → put_mid n k (front ++ behind) mid ≡ front ++ (mid ++ drop k behind)
put_over front mid behind n k size =
    ap (λ l. l ++ (mid ++ drop k (drop n (front ++ behind)))) (take_at front behind n size) ∙ ap (λ l. front ++ (mid ++ drop k l)) (drop_at front behind n size)

-- writing a list over zeros that follow another list and a number
put_over_zeros : (below : List ℕ) (c : ℕ) (above mid : List ℕ) (k zeros left : ℕ) → mid ≡ above → zeros - k ≡ left →
    put_mid (length below + 1) k (below ++ c ∷ replicate zeros 0) mid ≡ (below ++ c ∷ above) ++ replicate left 0
put_over_zeros below c above mid k zeros left same len =
    ap (λ l. put_mid (length below + 1) k l mid) (sym (append_assoc below (c ∷ []) (replicate zeros 0)))
    ∙ put_over (below ++ c ∷ []) mid (replicate zeros 0) (length below + 1) k (length-append below (c ∷ []))
    ∙ ap (λ l. (below ++ c ∷ []) ++ (mid ++ l)) (drop-replicate k zeros 0 ∙ ap (λ n. replicate n 0) len)
    ∙ ap (λ l. (below ++ c ∷ []) ++ (l ++ replicate left 0)) same
    ∙ append_assoc below (c ∷ []) (above ++ replicate left 0)
    ∙ sym (append_assoc below (c ∷ above) (replicate left 0))

-- writing a number and another list after a list that is stored in an array
pub padded-inserted : (below : List ℕ) (c : ℕ) (above mid : List ℕ) (k : ℕ) → length below + length above < max_candidates → mid ≡ above → k ≡ length above →
    put_mid (length below + 1) k (set (padded below) (length below) c) mid ≡ padded (below ++ c ∷ above)
padded-inserted below c above mid k room same len =
    let e : max_candidates - length below ≡ suc (max_candidates - 1 - length below) = omega (arith, room) in
    let one : set (padded below) (length below) c ≡ below ++ c ∷ replicate (max_candidates - 1 - length below) 0 =
    ap (λ n. set (below ++ replicate n 0) (length below) c) e ∙ set_at below 0 (replicate (max_candidates - 1 - length below) 0) c (length below) refl in
    ap (λ l. put_mid (length below + 1) k l mid) one
    ∙ put_over_zeros below c above mid k (max_candidates - 1 - length below) (max_candidates - length (below ++ c ∷ above)) same (omega (arith, len, length-append below (c ∷ above)))
