-- The terms on which a count is held, and the list of its stages.
use Rattle.std.specs.Prelude.{◌≡◌, ℕ, ◌-◌, ◌<◌, ◌≤◌, List, [], ◌∷◌, length, slice_index}
use Rattle.std.specs.List.{AllByRecursion, list_any, range_with_len}
use Rattle.std.specs.Prelude.{nat_eq, true}
use Rattle.paper.specs.Columns.{max_candidates, IsCandidateSet}
use Rattle.votes.specs.Units.{max_papers, max_seats, quota_of}
use Rattle.count.specs.declared.stages.Stage.{Stage}

-- A contest: its candidates in ascending order, its seats, its quota in units, and the preferences on each valid paper.
pub record Contest : Type 0 where
  pub candidates : List ℕ
  pub seats : ℕ
  pub quota : ℕ
  pub papers : List (List ℕ)

-- Quota: the contest for the given candidates, seats and papers, with the quota that results from them.
abbrev pub contest_for : List ℕ → ℕ → List (List ℕ) → Contest
contest_for candidates seats papers =
    record { candidates = candidates; seats = seats; quota = quota_of (length papers) seats; papers = papers }

-- c is in the given list of candidates
abbrev pub In : ℕ → List ℕ → Type 0
In c candidates = list_any (nat_eq c) candidates ≡ true

-- each preference on each paper is for one of the candidates
abbrev pub AreForCandidates : List ℕ → List (List ℕ) → Type 0
AreForCandidates candidates papers = AllByRecursion (λ paper. AllByRecursion (λ c. In c candidates) paper) papers

-- A contest to which the rules apply: it has more candidates than seats, its seats and papers are within the limits, its preferences are only for
-- candidates, and its quota is the one for these papers and seats.
pub record IsContest (contest : Contest) : Type 0 where
  pub candidate_set : IsCandidateSet contest.candidates
  pub some_seats : 1 ≤ contest.seats
  pub few_seats : contest.seats ≤ max_seats
  pub contested : contest.seats < length contest.candidates
  pub few_papers : length contest.papers ≤ max_papers
  pub for_candidates : AreForCandidates contest.candidates contest.papers
  pub quota_is : contest.quota ≡ quota_of (length contest.papers) contest.seats

-- A history is the list of the stages so far, newest first.
abbrev pub History : Type 0
History = List Stage

-- the numbers that a candidate can have
abbrev pub numbers : List ℕ
numbers = range_with_len 1 max_candidates

-- a candidate's recorded votes at a stage
abbrev pub votes_at : Stage → ℕ → ℕ
votes_at s c = slice_index s.votes (c - 1)

-- a candidate's recorded votes at the newest stage; none before the first
abbrev pub newest_votes : History → ℕ → ℕ
newest_votes [] c = 0
newest_votes (s ∷ before) c = votes_at s c
