-- Which candidates have each mark.
use Rattle.std.specs.Prelude.{◌≡◌, ℕ, ◌≤◌, List, [], ◌∷◌, slice_index_or}
use Rattle.paper.specs.Columns.{max_candidates}
use Rattle.paper.specs.Marking.{Marking, marked_with}
use Rattle.paper.specs.declared.marked.Bearers.{Bearers}
use Rattle.paper.specs.declared.marked.Bearers.TheVariants.{Nobody, One, Several}

-- which candidates a list contains: none, exactly one, or several
abbrev pub bearers_of : List ℕ → Bearers
bearers_of [] = Nobody
bearers_of (c ∷ []) = One c
bearers_of (c ∷ d ∷ cs) = Several

-- the bearers with another candidate added
abbrev pub one_more : Bearers → ℕ → Bearers
one_more Nobody c = One c
one_more (One d) c = Several
one_more Several c = Several

-- the bearers of each number from 0 to the maximum number of candidates
abbrev pub AreBearers : Marking → List Bearers → Type 0
AreBearers marking bearers = (n : ℕ) → n ≤ max_candidates → slice_index_or bearers n Nobody ≡ bearers_of (marked_with n marking)
