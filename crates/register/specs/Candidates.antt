-- Candidate commands: for each, the part of the state that it needs, the objections to it, and its subject, reply and effect.
use Rattle.std.specs.Prelude.{ℕ, Bool, not, ◌&&◌, List, [], ◌∷◌, ◌++◌, codes, string_bytes, Option, is_some, is_none}
use Rattle.std.specs.Fmt.{decimal}
use Rattle.register.specs.declared.phase.Phase.TheVariants.{Nominations}
use Rattle.register.specs.declared.refusal.Reason.{Reason}
use Rattle.register.specs.declared.refusal.Reason.TheVariants.{NumberOutOfRange, BadName, CandidateExists, NoSuchCandidate}
use Rattle.register.specs.declared.candidates.CandidateCommand.{CandidateCommand}
use Rattle.register.specs.declared.candidates.CandidateCommand.TheVariants.{Add, Withdraw}
use Rattle.register.specs.Reasons.{objection}
use Rattle.register.specs.Ranges.{is_office, is_ward_number, is_candidate_number, is_name}
use Rattle.register.specs.Offices.{OfficeState, ward_at, candidate_at}
use Rattle.register.specs.Effects.{EffectEntry, candidate_added, candidate_withdrawn}
use Rattle.register.specs.CommandInputs.{CommandInputEntries, empty_input, phase_objections}

-- the part of the state that each command needs
abbrev pub part_of : OfficeState → ℕ → CandidateCommand → CommandInputEntries
part_of s actor (Add ward candidate name) = record empty_input { ward = ward_at s ward; candidate = candidate_at s ward candidate }
part_of s actor (Withdraw ward candidate) = record empty_input { ward = ward_at s ward; candidate = candidate_at s ward candidate }

-- the numbers are in range and the actor may send the command
abbrev pub is_in_range : ℕ → CandidateCommand → Bool
is_in_range actor (Add ward candidate name) = is_office actor && (is_ward_number ward && is_candidate_number candidate)
is_in_range actor (Withdraw ward candidate) = is_office actor && (is_ward_number ward && is_candidate_number candidate)

-- the objections to each command, ordered by reason number
abbrev pub objections : ℕ → CandidateCommand → CommandInputEntries → List (Option Reason)
objections actor (Add ward candidate name) part =
    objection (not (is_in_range actor (Add ward candidate name))) NumberOutOfRange
    ∷ objection (not (is_name (string_bytes name))) BadName
    ∷ phase_objections Nominations part.ward
    ++ (objection (is_some part.candidate) CandidateExists ∷ [])
objections actor (Withdraw ward candidate) part =
    objection (not (is_in_range actor (Withdraw ward candidate))) NumberOutOfRange
    ∷ phase_objections Nominations part.ward
    ++ (objection (is_none part.candidate) NoSuchCandidate ∷ [])

-- the subject of the receipt, which identifies a command that is repeated with the same id
unfoldable pub subject_of : CandidateCommand → List ℕ
subject_of (Add ward candidate name) = codes "candidate " ++ (decimal ward ++ (codes " " ++ decimal candidate))
subject_of (Withdraw ward candidate) = codes "withdraw " ++ (decimal ward ++ (codes " " ++ decimal candidate))

-- the reply to an accepted command
unfoldable pub reply_to : CandidateCommand → CommandInputEntries → List ℕ
reply_to (Add ward candidate name) part = codes "candidate " ++ (decimal candidate ++ (codes " of ward " ++ (decimal ward ++ codes " added")))
reply_to (Withdraw ward candidate) part = codes "candidate " ++ (decimal candidate ++ (codes " of ward " ++ (decimal ward ++ codes " withdrawn")))

-- the effect of an accepted command
abbrev pub effect_of : CandidateCommand → CommandInputEntries → EffectEntry
effect_of (Add ward candidate name) part = candidate_added (record { ward = ward; number = candidate; name = string_bytes name })
effect_of (Withdraw ward candidate) part = candidate_withdrawn ward candidate
