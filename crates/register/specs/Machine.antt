-- How each request changes an office's state.
use Rattle.std.specs.Prelude.{◌≡◌, ⊤, ℕ, Bool, true, false, if◌then◌else◌, List, [], ◌∷◌, fold, string_bytes, Option, Some, None}
use Rattle.std.specs.Str.{bytes_eq}
use Rattle.register.specs.declared.refusal.Reason.{Reason}
use Rattle.register.specs.declared.refusal.Reason.TheVariants.{BadId, IdUsed}
use Rattle.register.specs.declared.command.Command.{Command}
use Rattle.register.specs.declared.command.Command.TheVariants.{Ward, Candidate, Batch, Keying, Verdict, Count}
use Rattle.register.specs.declared.command.Request.{Request}
use Rattle.register.specs.Reasons.{first_reason}
use Rattle.register.specs.Ranges.{is_id}
use Rattle.register.specs.Offices.{ReceiptEntry, OfficeState, receipt_at}
use Rattle.register.specs.Effects.{EffectEntry, ChangeEntry, with_change}
use Rattle.register.specs.CommandInputs.{CommandInputEntries}
use Rattle.register.specs.Wards as wards
use Rattle.register.specs.Candidates as candidates
use Rattle.register.specs.Batches as batches
use Rattle.register.specs.Keyings as keyings
use Rattle.register.specs.Verdicts as verdicts
use Rattle.register.specs.Counts as counts

-- ---- the commands, by subject

-- the part of the state that a command from the given actor needs
abbrev pub part_of : OfficeState → ℕ → Command → CommandInputEntries
part_of s actor (Ward command) = wards.part_of s actor command
part_of s actor (Candidate command) = candidates.part_of s actor command
part_of s actor (Batch command) = batches.part_of s actor command
part_of s actor (Keying command) = keyings.part_of s actor command
part_of s actor (Verdict command) = verdicts.part_of s actor command
part_of s actor (Count command) = counts.part_of s actor command

-- the objections to a command, ordered by reason number
abbrev pub objections : ℕ → Command → CommandInputEntries → List (Option Reason)
objections actor (Ward command) part = wards.objections actor command part
objections actor (Candidate command) part = candidates.objections actor command part
objections actor (Batch command) part = batches.objections actor command part
objections actor (Keying command) part = keyings.objections actor command part
objections actor (Verdict command) part = verdicts.objections actor command part
objections actor (Count command) part = counts.objections actor command part

-- the papers of a command, if any, can be numbered
abbrev pub IsNumbered : Command → Type 0
IsNumbered (Keying command) = keyings.IsNumbered command
IsNumbered command = ⊤

-- the subject of the receipt for a command
abbrev pub subject_of : Command → List ℕ
subject_of (Ward command) = wards.subject_of command
subject_of (Candidate command) = candidates.subject_of command
subject_of (Batch command) = batches.subject_of command
subject_of (Keying command) = keyings.subject_of command
subject_of (Verdict command) = verdicts.subject_of command
subject_of (Count command) = counts.subject_of command

-- the reply to a command, if accepted
abbrev pub reply_to : Command → CommandInputEntries → List ℕ
reply_to (Ward command) part = wards.reply_to command part
reply_to (Candidate command) part = candidates.reply_to command part
reply_to (Batch command) part = batches.reply_to command part
reply_to (Keying command) part = keyings.reply_to command
reply_to (Verdict command) part = verdicts.reply_to command
reply_to (Count command) part = counts.reply_to command part

-- the effect of a command, if accepted
abbrev pub effect_of : ℕ → Command → CommandInputEntries → EffectEntry
effect_of actor (Ward command) part = wards.effect_of command part
effect_of actor (Candidate command) part = candidates.effect_of command part
effect_of actor (Batch command) part = batches.effect_of command part
effect_of actor (Keying command) part = keyings.effect_of actor command
effect_of actor (Verdict command) part = verdicts.effect_of command
effect_of actor (Count command) part = counts.effect_of command part

-- ---- deciding from a view: the actor, id, command and receipt, and the part of the state

-- a ruling: a change and a reply, the reply recorded in a receipt, or a reason for refusal
pub data Ruling : Type 0 where
  accepts : ChangeEntry → List ℕ → Ruling
  keeps : List ℕ → Ruling
  refuses : Reason → Ruling

-- the receipt for an accepted request
abbrev pub receipt_for : ℕ → List ℕ → Command → CommandInputEntries → ReceiptEntry
receipt_for actor id command part = record { actor = actor; id = id; subject = subject_of command; reply = reply_to command part }

-- a new request is refused because of the first objection to it, or accepted if there is none
abbrev pub judged : ℕ → List ℕ → Command → CommandInputEntries → Option Reason → Ruling
judged actor id command part (Some why) = refuses why
judged actor id command part None = accepts (record { effect = effect_of actor command part; receipt = receipt_for actor id command part }) (reply_to command part)

-- a request whose id has a receipt gets the reply recorded there, or is refused if the receipt has a different subject
abbrev pub answered : ℕ → List ℕ → Command → Option ReceiptEntry → CommandInputEntries → Ruling
answered actor id command (Some receipt) part = if bytes_eq receipt.subject (subject_of command) then keeps receipt.reply else refuses IdUsed
answered actor id command None part = judged actor id command part (first_reason (objections actor command part))

-- a request with a bad id is refused first
unfoldable pub decided : ℕ → List ℕ → Command → Option ReceiptEntry → CommandInputEntries → Ruling
decided actor id command receipt part = if is_id id then answered actor id command receipt part else refuses BadId

-- ---- the step

-- the machine's result: accepted, with the new state and a reply; kept, with the reply recorded in the receipt; or refused
pub data Outcome : Type 0 where
  accepted : OfficeState → List ℕ → Outcome
  kept : List ℕ → Outcome
  refused : Reason → Outcome

-- the outcome of applying a ruling to a state
abbrev pub outcome_at : OfficeState → Ruling → Outcome
outcome_at s (accepts change reply) = accepted (with_change change s) reply
outcome_at s (keeps reply) = kept reply
outcome_at s (refuses why) = refused why

-- the ruling on a request in a given state; it depends only on the receipt for the actor and id, and on the part of the state
-- that the command needs
abbrev pub ruling_at : OfficeState → ℕ → List ℕ → Command → Ruling
ruling_at s actor id command = decided actor id command (receipt_at s actor id) (part_of s actor command)

-- A step applies the change decided for the given state.
unfoldable pub step : OfficeState → ℕ → List ℕ → Command → Outcome
step s actor id command = outcome_at s (ruling_at s actor id command)

-- the state to which an outcome leads
abbrev pub state_after : OfficeState → Outcome → OfficeState
state_after s (accepted next reply) = next
state_after s (kept reply) = s
state_after s (refused why) = s

-- ---- lists of requests

-- the request was accepted
abbrev pub is_accepted : Outcome → Bool
is_accepted (accepted next reply) = true
is_accepted (kept reply) = false
is_accepted (refused why) = false

-- the step that processes a request
abbrev pub step_of : OfficeState → Request → Outcome
step_of s r = step s r.actor (string_bytes r.id) r.command

-- the state after one request
abbrev pub after_one : OfficeState → Request → OfficeState
after_one s r = state_after s (step_of s r)

-- the state after processing a list of requests in order
abbrev pub after : OfficeState → List Request → OfficeState
after = fold after_one

-- an accepted request, repeated after any other requests, gets the same reply and changes nothing further
abbrev pub RepeatGetsSameReply : ℕ → List ℕ → Command → Outcome → Type 0
RepeatGetsSameReply actor id command (accepted next reply) = (others : List Request) → step (after next others) actor id command ≡ kept reply
RepeatGetsSameReply actor id command (kept reply) = ⊤
RepeatGetsSameReply actor id command (refused why) = ⊤

-- the requests in a list that are accepted, each in the state to which the earlier ones lead
abbrev pub accepted_of : OfficeState → List Request → List Request
accepted_of s [] = []
accepted_of s (r ∷ rs) = (if is_accepted (step_of s r) then r ∷ accepted_of (after_one s r) rs else accepted_of (after_one s r) rs)
