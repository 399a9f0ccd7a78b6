-- Laws of every correct list of stages.
use Rattle.std.specs.Prelude.{◌≡◌, ℕ, ◌+◌, ◌*◌, ◌≤◌, false, [], ◌∷◌, length, nat_eq, ⊤}
use Rattle.std.specs.List.{list_any, sum_by}
use Rattle.paper.specs.Columns.{IsColumn}
use Rattle.votes.specs.Units.{one_vote}
use Rattle.count.specs.Law.Contest.{Contest, History, votes_at}
use Rattle.count.specs.Law.Elected.{elected_after}
use Rattle.count.specs.declared.stages.Due.{Due}
use Rattle.count.specs.declared.stages.Due.TheVariants.{Act, Lot, Finished}

-- after each stage, the recorded votes of all candidates, the non-transferable votes and the loss add up to one vote per paper
abbrev pub IsConserved : Contest → History → Type 0
IsConserved contest [] = ⊤
IsConserved contest (s ∷ before) =
    (sum_by (votes_at s) contest.candidates + s.non_transferable + s.lost ≡ one_vote * length contest.papers) × IsConserved contest before

-- a count has at most one stage per candidate, plus one
abbrev pub IsShort : Contest → History → Type 0
IsShort contest stages = length stages ≤ length contest.candidates + 1

-- as many candidates are elected as there are seats
abbrev pub FillsSeats : Contest → History → Type 0
FillsSeats contest stages = length (elected_after contest stages) ≡ contest.seats

-- at each stage only candidates have votes
abbrev pub OnlyCandidatesHaveVotes : Contest → History → Type 0
OnlyCandidatesHaveVotes contest [] = ⊤
OnlyCandidatesHaveVotes contest (s ∷ before) =
    ((c : ℕ) → IsColumn c → list_any (nat_eq c) contest.candidates ≡ false → votes_at s c ≡ 0) × OnlyCandidatesHaveVotes contest before

-- if a lot is due, two or more candidates are tied
abbrev pub IsAmongSeveral : Due → Type 0
IsAmongSeveral (Act action) = ⊤
IsAmongSeveral (Lot stage kind tied) = 2 ≤ length tied
IsAmongSeveral Finished = ⊤
