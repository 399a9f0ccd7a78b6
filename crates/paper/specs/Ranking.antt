-- Lists of candidates without duplicates.
use Rattle.std.specs.Prelude.{◌≡◌, ℕ, ◌≤◌, List, [], ◌∷◌, false, ◌==◌, ⊤}
use Rattle.std.specs.List.{list_any}
use Rattle.paper.specs.Columns.{max_candidates}

-- candidate numbers without duplicates
abbrev pub IsRanking : List ℕ → Type 0
IsRanking [] = ⊤
IsRanking (x ∷ xs) = (1 ≤ x) × (x ≤ max_candidates) × (list_any (λ y. y == x) xs ≡ false) × IsRanking xs
