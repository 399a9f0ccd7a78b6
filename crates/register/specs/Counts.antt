-- Count commands: for each, the part of the state that it needs, the objections to it, and its subject, reply and effect.
use Rattle.std.specs.Prelude.{ℕ, ◌+◌, Bool, false, not, ◌&&◌, ◌==◌, nat_le, if◌then◌else◌, List, [], ◌∷◌, ◌++◌, codes, Option, Some, None, is_none, option_map}
use Rattle.std.specs.Fmt.{decimal}
use Rattle.votes.specs.Text.{votes_text}
use Rattle.count.specs.Actions.{action_text}
use Rattle.count.specs.declared.stages.Due.{Due}
use Rattle.count.specs.declared.stages.Due.TheVariants.{Act, Lot as lot_due, Finished}
use Rattle.register.specs.declared.phase.Phase.{Phase}
use Rattle.register.specs.declared.phase.Phase.TheVariants.{Keying, Sealed, Declared}
use Rattle.register.specs.declared.refusal.Reason.{Reason}
use Rattle.register.specs.declared.refusal.Reason.TheVariants.{NumberOutOfRange, NoSuchCandidate, NotReady, CountFinished, LotNeeded, NoSuchLot, NotAmong, CountNotFinished}
use Rattle.register.specs.declared.counts.CountCommand.{CountCommand}
use Rattle.register.specs.declared.counts.CountCommand.TheVariants.{Seal, Advance, Lot, Declare}
use Rattle.register.specs.Reasons.{objection}
use Rattle.register.specs.Ranges.{last_lot_stage, is_office, is_ward_number, is_candidate_number, is_lot_stage}
use Rattle.register.specs.Texts.{listed}
use Rattle.register.specs.Offices.{WardEntry, OfficeState, ward_at, candidate_at}
use Rattle.register.specs.Polls.{PollEntry, poll_of, all_rejected}
use Rattle.register.specs.Elections.{election_of, due_of, elected_of, has_finished, is_among}
use Rattle.register.specs.Effects.{EffectEntry, ward_moved, stage_counted, lot_drawn}
use Rattle.register.specs.CommandInputs.{CommandInputEntries, empty_input, phase_objections}

-- ---- the part of the state that belongs to a ward, if the ward exists

-- the poll of the ward
abbrev pub poll_for : OfficeState → Option WardEntry → Option PollEntry
poll_for s ward = option_map (λ (w : WardEntry). poll_of w.seats (election_of s w).ballots) ward

-- what is due in the ward's count
abbrev pub due_for : OfficeState → Option WardEntry → Option Due
due_for s ward = option_map (λ (w : WardEntry). due_of (election_of s w)) ward

-- the candidates elected
abbrev pub elected_for : OfficeState → Option WardEntry → List ℕ
elected_for s None = []
elected_for s (Some w) = elected_of (election_of s w)

-- ---- the commands

-- the part of the state that each command needs
abbrev pub part_of : OfficeState → ℕ → CountCommand → CommandInputEntries
part_of s actor (Seal ward) = record empty_input { ward = ward_at s ward; poll = poll_for s (ward_at s ward) }
part_of s actor (Advance ward) = record empty_input { ward = ward_at s ward; due = due_for s (ward_at s ward); elected = elected_for s (ward_at s ward) }
part_of s actor (Lot ward stage candidate) =
    record empty_input { ward = ward_at s ward; candidate = candidate_at s ward candidate; due = due_for s (ward_at s ward); elected = elected_for s (ward_at s ward) }
part_of s actor (Declare ward) = record empty_input { ward = ward_at s ward; due = due_for s (ward_at s ward); elected = elected_for s (ward_at s ward) }

-- the numbers are in range and the actor may send the command
abbrev pub is_in_range : ℕ → CountCommand → Bool
is_in_range actor (Seal ward) = is_office actor && is_ward_number ward
is_in_range actor (Advance ward) = is_office actor && is_ward_number ward
is_in_range actor (Lot ward stage candidate) = is_office actor && (is_ward_number ward && (is_lot_stage stage && is_candidate_number candidate))
is_in_range actor (Declare ward) = is_office actor && is_ward_number ward

-- every batch is settled: taken, with a verdict on each doubtful paper
abbrev pub is_ready : Option PollEntry → Bool
is_ready None = false
is_ready (Some poll) = poll.settled

-- the objection if the count is waiting for a lot, with the stage that needs the lot and the candidates tied
abbrev pub lot_objection : Option Due → Option Reason
lot_objection (Some (lot_due stage kind tied)) = Some (LotNeeded stage tied)
lot_objection (Some (Act action)) = None
lot_objection (Some Finished) = None
lot_objection None = None

-- the count is waiting for a lot at the given stage
abbrev pub waits_at : ℕ → Option Due → Bool
waits_at stage (Some (lot_due k kind tied)) = k == stage
waits_at stage (Some (Act action)) = false
waits_at stage (Some Finished) = false
waits_at stage None = false

-- the phase that a command requires of the ward
abbrev pub phase_for : CountCommand → Phase
phase_for (Seal ward) = Keying
phase_for (Advance ward) = Sealed
phase_for (Lot ward stage candidate) = Sealed
phase_for (Declare ward) = Sealed

-- the objections to each command, other than those to its numbers and its ward
abbrev pub own_objections : CountCommand → CommandInputEntries → List (Option Reason)
own_objections (Seal ward) part = objection (not (is_ready part.poll)) NotReady ∷ []
own_objections (Advance ward) part = objection (has_finished part.due) CountFinished ∷ lot_objection part.due ∷ []
own_objections (Lot ward stage candidate) part =
    objection (is_none part.candidate) NoSuchCandidate ∷ objection (not (waits_at stage part.due)) NoSuchLot ∷ objection (not (is_among candidate part.due)) NotAmong ∷ []
own_objections (Declare ward) part = objection (not (has_finished part.due)) CountNotFinished ∷ []

-- the objections to each command, ordered by reason number
abbrev pub objections : ℕ → CountCommand → CommandInputEntries → List (Option Reason)
objections actor command part =
    objection (not (is_in_range actor command)) NumberOutOfRange ∷ phase_objections (phase_for command) part.ward ++ own_objections command part

-- the subject of the receipt, which identifies a command that is repeated with the same id
unfoldable pub subject_of : CountCommand → List ℕ
subject_of (Seal ward) = codes "seal " ++ decimal ward
subject_of (Advance ward) = codes "advance " ++ decimal ward
subject_of (Lot ward stage candidate) = codes "lot " ++ (decimal ward ++ (codes " " ++ decimal stage))
subject_of (Declare ward) = codes "declare " ++ decimal ward

-- the number of the next stage after the given number of stages, but at most the last stage that a count can have
abbrev pub stage_after : ℕ → ℕ
stage_after done = if nat_le last_lot_stage done then done else done + 1

-- the number of the stage that follows the completed stages of a ward
abbrev pub next_stage : Option WardEntry → ℕ
next_stage None = 1
next_stage (Some w) = stage_after w.done

-- the part of a reply that reports the poll: the number of valid papers, the number of rejected papers, and the quota
abbrev pub poll_told : Option PollEntry → List ℕ
poll_told None = []
poll_told (Some poll) = codes " sealed: " ++ (decimal poll.valid ++ (codes " valid, " ++ (decimal (all_rejected poll.rejected) ++ (codes " rejected, quota " ++ votes_text poll.quota))))

-- the part of a reply that reports the next action
abbrev pub action_told : Option Due → List ℕ
action_told None = []
action_told (Some (Act action)) = action_text action
action_told (Some (lot_due stage kind tied)) = []
action_told (Some Finished) = []

-- the reply to an accepted command
unfoldable pub reply_to : CountCommand → CommandInputEntries → List ℕ
reply_to (Seal ward) part = codes "ward " ++ (decimal ward ++ poll_told part.poll)
reply_to (Advance ward) part = codes "ward " ++ (decimal ward ++ (codes " stage " ++ (decimal (next_stage part.ward) ++ (codes " " ++ action_told part.due))))
reply_to (Lot ward stage candidate) part = codes "lot at ward " ++ (decimal ward ++ (codes " stage " ++ (decimal stage ++ (codes ": candidate " ++ decimal candidate))))
reply_to (Declare ward) part = codes "ward " ++ (decimal ward ++ (codes " declared: " ++ listed part.elected))

-- the effect of an accepted command
abbrev pub effect_of : CountCommand → CommandInputEntries → EffectEntry
effect_of (Seal ward) part = ward_moved ward Sealed
effect_of (Advance ward) part = stage_counted ward (next_stage part.ward)
effect_of (Lot ward stage candidate) part = lot_drawn (record { ward = ward; stage = stage; candidate = candidate })
effect_of (Declare ward) part = ward_moved ward Declared
