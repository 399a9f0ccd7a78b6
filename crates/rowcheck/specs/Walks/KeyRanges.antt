-- Rows and their owners, walked side by side, with both lists in key order.
use Rattle.std.specs.Prelude.{ℕ, Bool, ◌&&◌, ◌==◌, if◌then◌else◌, List, [], ◌∷◌, length, take_while}

-- the rest of a list, starting at the first element that fails a test
abbrev pub skip_while : {X : Type 0} → (X → Bool) → List X → List X
skip_while p [] = []
skip_while p (x ∷ xs) = if p x then skip_while p xs else x ∷ xs

-- Whether every owner passes a test together with the run of its rows, and no rows are left over. Each owner's rows are taken from the front of
-- the remaining rows.
abbrev pub pass_by_run : {W X : Type 0} → (W → ℕ) → (X → ℕ) → (W → List X → Bool) → List W → List X → Bool
pass_by_run own key test [] xs = length xs == 0
pass_by_run own key test (w ∷ ws) xs = test w (take_while (λ x. key x == own w) xs) && pass_by_run own key test ws (skip_while (λ x. key x == own w) xs)
