-- Ward commands: for each, the part of the state that it needs, the objections to it, and its subject, reply and effect.
use Rattle.std.specs.Prelude.{ℕ, Bool, false, not, ◌&&◌, if◌then◌else◌, List, [], ◌∷◌, ◌++◌, codes, string_bytes, Option, Some, None, is_some}
use Rattle.std.specs.Fmt.{decimal}
use Rattle.register.specs.declared.phase.Phase.{Phase}
use Rattle.register.specs.declared.phase.Phase.TheVariants.{Nominations, Keying, Sealed}
use Rattle.register.specs.declared.refusal.Reason.{Reason}
use Rattle.register.specs.declared.refusal.Reason.TheVariants.{NumberOutOfRange, BadName, WardExists, NoCandidates}
use Rattle.register.specs.declared.wards.WardCommand.{WardCommand}
use Rattle.register.specs.declared.wards.WardCommand.TheVariants.{Add, Close}
use Rattle.register.specs.Reasons.{objection}
use Rattle.register.specs.Ranges.{is_office, is_ward_number, is_seat_number, is_name}
use Rattle.register.specs.Offices.{WardEntry, CandidateEntry, OfficeState, ward_at, candidates_of}
use Rattle.register.specs.Nominations.{is_contested, is_stood_in}
use Rattle.register.specs.Effects.{EffectEntry, ward_added, ward_moved}
use Rattle.register.specs.CommandInputs.{CommandInputEntries, empty_input, phase_objections}

-- the part of the state that each command needs
abbrev pub part_of : OfficeState → ℕ → WardCommand → CommandInputEntries
part_of s actor (Add ward seats name) = record empty_input { ward = ward_at s ward }
part_of s actor (Close ward) = record empty_input { ward = ward_at s ward; candidates = candidates_of s ward }

-- the numbers are in range and the actor may send the command
abbrev pub is_in_range : ℕ → WardCommand → Bool
is_in_range actor (Add ward seats name) = is_office actor && (is_ward_number ward && is_seat_number seats)
is_in_range actor (Close ward) = is_office actor && is_ward_number ward

-- the objections to each command, ordered by reason number
abbrev pub objections : ℕ → WardCommand → CommandInputEntries → List (Option Reason)
objections actor (Add ward seats name) part =
    objection (not (is_in_range actor (Add ward seats name))) NumberOutOfRange ∷ objection (not (is_name (string_bytes name))) BadName ∷ objection (is_some part.ward) WardExists ∷ []
objections actor (Close ward) part =
    objection (not (is_in_range actor (Close ward))) NumberOutOfRange ∷ phase_objections Nominations part.ward ++ (objection (not (is_stood_in part.candidates)) NoCandidates ∷ [])

-- a ward requires a poll: it exists and is contested
abbrev pub is_to_be_polled : Option WardEntry → List CandidateEntry → Bool
is_to_be_polled None candidates = false
is_to_be_polled (Some w) candidates = is_contested w candidates

-- the phase that a ward enters when its nominations close
abbrev pub closed_phase : CommandInputEntries → Phase
closed_phase part = if is_to_be_polled part.ward part.candidates then Keying else Sealed

-- the word in the reply that says whether the ward whose nominations close will be polled
abbrev pub closed_word : CommandInputEntries → List ℕ
closed_word part = if is_to_be_polled part.ward part.candidates then codes " polled" else codes " uncontested"

-- the subject of the receipt, which identifies a command that is repeated with the same id
unfoldable pub subject_of : WardCommand → List ℕ
subject_of (Add ward seats name) = codes "ward " ++ decimal ward
subject_of (Close ward) = codes "close " ++ decimal ward

-- the reply to an accepted command; the appends are right-associative, because that is how the text is written
unfoldable pub reply_to : WardCommand → CommandInputEntries → List ℕ
reply_to (Add ward seats name) part = codes "ward " ++ (decimal ward ++ codes " added")
reply_to (Close ward) part = codes "ward " ++ (decimal ward ++ closed_word part)

-- the effect of an accepted command
abbrev pub effect_of : WardCommand → CommandInputEntries → EffectEntry
effect_of (Add ward seats name) part = ward_added (record { number = ward; seats = seats; phase = Nominations; done = 0; name = string_bytes name })
effect_of (Close ward) part = ward_moved ward (closed_phase part)
