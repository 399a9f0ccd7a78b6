-- Batch commands: for each, the part of the state that it needs, the objections to it, and its subject, reply and effect.
use Rattle.std.specs.Prelude.{ℕ, ◌+◌, Bool, not, ◌&&◌, ◌==◌, nat_le, if◌then◌else◌, List, [], ◌∷◌, ◌++◌, codes, Option, Some, None, is_some, is_none}
use Rattle.std.specs.Fmt.{decimal}
use Rattle.register.specs.declared.phase.Phase.TheVariants.{Keying}
use Rattle.register.specs.declared.refusal.Reason.{Reason}
use Rattle.register.specs.declared.refusal.Reason.TheVariants.{NumberOutOfRange, NoSuchWard, BatchExists, WrongPhase, SameClerk, NoDifference, ThirdSet}
use Rattle.register.specs.declared.batches.BatchCommand.{BatchCommand}
use Rattle.register.specs.declared.batches.BatchCommand.TheVariants.{Add, Again, Third}
use Rattle.register.specs.Reasons.{objection}
use Rattle.register.specs.Ranges.{last_round, is_office, is_clerk, is_ward_number, is_batch_number, is_paper_number}
use Rattle.register.specs.Offices.{WardEntry, CandidateEntry, BatchEntry, ThirdEntry, KeyedEntry, OfficeState, ward_at, candidates_of, batch_at, third_at}
use Rattle.register.specs.Agreement.{is_its_clerk, keyings_now, differ}
use Rattle.register.specs.Effects.{EffectEntry, batch_added, batch_reopened, third_set}
use Rattle.register.specs.CommandInputs.{CommandInputEntries, empty_input, is_in_phase, batch_objections, passes}

-- ---- the part of the state that belongs to a batch, if the batch exists

abbrev pub ward_for : OfficeState → Option BatchEntry → Option WardEntry
ward_for s None = None
ward_for s (Some b) = ward_at s b.ward

abbrev pub candidates_for : OfficeState → Option BatchEntry → List CandidateEntry
candidates_for s None = []
candidates_for s (Some b) = candidates_of s b.ward

abbrev pub third_for : OfficeState → Option BatchEntry → Option ThirdEntry
third_for s None = None
third_for s (Some b) = third_at s b.number

abbrev pub keyings_for : OfficeState → Option BatchEntry → List (List KeyedEntry)
keyings_for s None = []
keyings_for s (Some b) = keyings_now s b

-- ---- the commands

-- the part of the state that each command needs
abbrev pub part_of : OfficeState → ℕ → BatchCommand → CommandInputEntries
part_of s actor (Add batch ward size first_clerk second_clerk) = record empty_input { ward = ward_at s ward; batch = batch_at s batch }
part_of s actor (Again batch) =
    record empty_input { ward = ward_for s (batch_at s batch); batch = batch_at s batch; keyings = keyings_for s (batch_at s batch) }
part_of s actor (Third batch clerk) =
    record empty_input { ward = ward_for s (batch_at s batch); batch = batch_at s batch; third = third_for s (batch_at s batch); keyings = keyings_for s (batch_at s batch) }

-- the batch is in the last round
abbrev pub is_in_last_round : BatchEntry → Bool
is_in_last_round b = nat_le last_round b.round

-- the numbers are in range and the actor may send the command; a batch in its last round can't be keyed again
abbrev pub is_in_range : ℕ → BatchCommand → CommandInputEntries → Bool
is_in_range actor (Add batch ward size first_clerk second_clerk) part =
    is_office actor && (is_batch_number batch && (is_ward_number ward && (is_paper_number size && (is_clerk first_clerk && is_clerk second_clerk))))
is_in_range actor (Again batch) part = is_office actor && (is_batch_number batch && not (passes is_in_last_round part.batch))
is_in_range actor (Third batch clerk) part = is_office actor && (is_batch_number batch && is_clerk clerk)

-- the objections to assigning a third clerk, given that the numbers are in range
abbrev pub third_objections : ℕ → CommandInputEntries → List (Option Reason)
third_objections clerk part =
    batch_objections part
    ++ (objection (passes (λ b. is_its_clerk clerk b part.third) part.batch) SameClerk ∷ objection (not (differ part.keyings)) NoDifference ∷ objection (is_some part.third) ThirdSet ∷ [])

-- the objections to each command, ordered by reason number
abbrev pub objections : ℕ → BatchCommand → CommandInputEntries → List (Option Reason)
objections actor (Add batch ward size first_clerk second_clerk) part =
    objection (not (is_in_range actor (Add batch ward size first_clerk second_clerk) part)) NumberOutOfRange
    ∷ objection (is_none part.ward) NoSuchWard
    ∷ objection (is_some part.batch) BatchExists
    ∷ objection (not (is_in_phase Keying part.ward)) WrongPhase
    ∷ objection (first_clerk == second_clerk) SameClerk
    ∷ []
objections actor (Again batch) part =
    objection (not (is_in_range actor (Again batch) part)) NumberOutOfRange ∷ batch_objections part ++ (objection (not (differ part.keyings)) NoDifference ∷ [])
objections actor (Third batch clerk) part = objection (not (is_in_range actor (Third batch clerk) part)) NumberOutOfRange ∷ third_objections clerk part

-- the round after the current one, but at most the last round
abbrev pub next_round : Option BatchEntry → ℕ
next_round None = 1
next_round (Some b) = if is_in_last_round b then b.round else b.round + 1

-- the subject of the receipt, which identifies a command that is repeated with the same id
unfoldable pub subject_of : BatchCommand → List ℕ
subject_of (Add batch ward size first_clerk second_clerk) = codes "batch " ++ decimal batch
subject_of (Again batch) = codes "again " ++ decimal batch
subject_of (Third batch clerk) = codes "third " ++ decimal batch

-- the reply to an accepted command
unfoldable pub reply_to : BatchCommand → CommandInputEntries → List ℕ
reply_to (Add batch ward size first_clerk second_clerk) part = codes "batch " ++ (decimal batch ++ codes " added")
reply_to (Again batch) part = codes "batch " ++ (decimal batch ++ (codes " round " ++ (decimal (next_round part.batch) ++ codes " open")))
reply_to (Third batch clerk) part = codes "batch " ++ (decimal batch ++ (codes " third clerk " ++ decimal clerk))

-- the effect of an accepted command; a new batch starts in its first round
abbrev pub effect_of : BatchCommand → CommandInputEntries → EffectEntry
effect_of (Add batch ward size first_clerk second_clerk) part =
    batch_added (record { number = batch; ward = ward; size = size; first_clerk = first_clerk; second_clerk = second_clerk; round = 1 })
effect_of (Again batch) part = batch_reopened batch (next_round part.batch)
effect_of (Third batch clerk) part = third_set (record { batch = batch; clerk = clerk })
