-- Candidate numbers, and sets of them.
use Rattle.std.specs.Prelude.{ℕ, ◌≤◌, nat_lt, List, ◌∷◌, ◌++◌, EachIndex, slice_index}
use Rattle.std.specs.List.{filter}
use Rattle.std.specs.List.Sorted.{IsStrictlyIncreasing}

-- the maximum number of candidates in a ward
abbrev pub max_candidates : ℕ
max_candidates = 30

-- a candidate's number on a ballot paper, starting at 1
abbrev pub IsColumn : ℕ → Type 0
IsColumn c = (1 ≤ c) × (c ≤ max_candidates)

-- a set of candidate numbers, represented by a list in ascending order
pub record IsCandidateSet (columns : List ℕ) : Type 0 where
  pub ascending : IsStrictlyIncreasing columns
  pub within : EachIndex columns (λ k. IsColumn (slice_index columns k))

-- a set with a number added: the numbers below it, the number itself, and the numbers above it
abbrev pub with_column : List ℕ → ℕ → List ℕ
with_column columns c = filter (λ d. nat_lt d c) columns ++ c ∷ filter (λ d. nat_lt c d) columns
