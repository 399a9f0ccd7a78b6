-- The first element that passes a test, if none before it does.
use Rattle.std.proofs.Common.{◌≡◌, ◌≢◌, ◌==◌, ◌<◌, ◌∙◌, ℕ, suc, Bool, true, not, cond, List, Some, length, get_or, drop, find, map, ap, arith}
use Rattle.std.proofs.Math.Seq.{drop-cons}

-- of a list from an index on: the element there, if it passes
pub first_at : {X : Type 0} (test : X → Bool) (xs : List X) (i : ℕ) (d : X) → i < length xs → test (get_or xs i d) ≡ true → find test (drop i xs) ≡ Some (get_or xs i d)
first_at test xs i d within passes =
    ap (find test) (drop-cons xs i d within) ∙ ap (λ b. cond b (Some (get_or xs i d)) (find test (drop (suc i) xs))) passes

-- ... of such a list, mapped
pub first_mapped : {X Y : Type 0} (f : X → Y) (test : Y → Bool) (xs : List X) (i : ℕ) (d : X) → i < length xs → test (f (get_or xs i d)) ≡ true
    → find test (map f (drop i xs)) ≡ Some (f (get_or xs i d))
first_mapped f test xs i d within passes =
    ap (λ l. find test (map f l)) (drop-cons xs i d within) ∙ ap (λ b. cond b (Some (f (get_or xs i d))) (find test (map f (drop (suc i) xs)))) passes

pub is_not_one : (n : ℕ) → n ≢ 1 → not (n == 1) ≡ true
is_not_one n differs = grind (arith, differs)
