-- The wards whose texts can be printed.
use Rattle.std.specs.Prelude.{ℕ, ◌<◌, ◌≤◌, List, [], ◌∷◌, map, Option, IfSome, ⊤}
use Rattle.paper.specs.Columns.{max_candidates, IsCandidateSet}
use Rattle.votes.specs.Units.{max_papers, max_seats}
use Rattle.sheet.specs.declared.ward.Ward.{Ward}
use Rattle.sheet.specs.declared.ward.Poll.{Poll}

-- numbers in ascending order, the first above the given bound, and the last at most the maximum number of candidates
abbrev pub Ascend : ℕ → List ℕ → Type 0
Ascend low [] = ⊤
Ascend low (c ∷ cs) = (low < c) × (c ≤ max_candidates) × Ascend c cs

-- at most as many valid papers as a ward can have
abbrev pub HasFewPapers : Option Poll → Type 0
HasFewPapers poll = IfSome poll (λ poll. poll.valid ≤ max_papers)

-- a ward that can be printed: its seats are within the limits, its candidates are in ascending order of their numbers, which are 1 to the maximum,
-- and its papers are within the limit
pub record CanBePrinted (ward : Ward) : Type 0 where
  pub some_seats : 1 ≤ ward.seats
  pub few_seats : ward.seats ≤ max_seats
  pub candidate_set : IsCandidateSet (map (λ candidate. candidate.0) ward.candidates.now)
  pub few_papers : HasFewPapers ward.poll
