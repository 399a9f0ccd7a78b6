-- The next step in the election of a ward.
use Rattle.std.specs.Prelude.{ℕ, List, map, length, Option, option_map}
use Rattle.count.specs.declared.stages.Due.{Due}
use Rattle.register.specs.declared.phase.Phase.{Phase}
use Rattle.register.specs.declared.phase.Phase.TheVariants.{Nominations, Keying, Sealed, Declared}
use Rattle.register.specs.declared.next_steps.NextStep.{NextStep}
use Rattle.register.specs.declared.next_steps.NextStep.TheVariants as step
use Rattle.register.specs.Offices.{WardEntry, CandidateEntry, OfficeState, ward_at, candidates_of, candidate_entry}
use Rattle.register.specs.Elections.{election_of, due_of}
use Rattle.register.specs.Status.{StatusEntry, status_of, status_entry}
use Rattle.register.specs.Counts.{stage_after}

-- The next step in a ward. During nominations: closing them, with the number of candidates so far and the number of seats. During keying: the remaining
-- work on the papers, with the given status. During the count: what is due, with the number of the stage and the ward's candidates. Once the ward is
-- declared: nothing.
pub data NextStepEntry : Type 0 where
  nominations_end : ℕ → ℕ → NextStepEntry
  papers_stand : StatusEntry → NextStepEntry
  count_goes : ℕ → Due → List CandidateEntry → NextStepEntry
  nothing_comes : NextStepEntry

-- the next step in a ward of the given state, depending on the ward's phase
abbrev pub next_in : Phase → OfficeState → WardEntry → NextStepEntry
next_in Nominations s w = nominations_end (length (candidates_of s w.number)) w.seats
next_in Keying s w = papers_stand (status_of s w)
next_in Sealed s w = count_goes (stage_after w.done) (due_of (election_of s w)) (candidates_of s w.number)
next_in Declared s w = nothing_comes

abbrev pub next_of : OfficeState → WardEntry → NextStepEntry
next_of s w = next_in w.phase s w

-- the next step in the ward with the given number, if there is one
abbrev pub next_at : OfficeState → ℕ → Option NextStepEntry
next_at s ward = option_map (next_of s) (ward_at s ward)

-- the entry for a step
abbrev pub step_entry : NextStep → NextStepEntry
step_entry (step.Nominations candidates seats) = nominations_end candidates seats
step_entry (step.Papers status) = papers_stand (status_entry status)
step_entry (step.Count stage due candidates) = count_goes stage due (map candidate_entry candidates.items)
step_entry step.Nothing = nothing_comes
