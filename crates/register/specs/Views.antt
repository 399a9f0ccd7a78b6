-- What a view shows of a state, and what a decision means.
use Rattle.std.specs.Prelude.{◌≡◌, ⊤, ℕ, ◌∷◌, Some, None, option_map, string_bytes}
use Rattle.count.specs.Law.Count.{stage_of}
use Rattle.count.specs.declared.stages.Action.{Action}
use Rattle.count.specs.declared.stages.Due.TheVariants.{Act}
use Rattle.register.specs.declared.command.Command.{Command}
use Rattle.register.specs.declared.command.Command.TheVariants.{Keying, Count}
use Rattle.register.specs.declared.counts.CountCommand.TheVariants.{Advance, Lot, Declare}
use Rattle.register.specs.declared.view.View.{View}
use Rattle.register.specs.declared.decision.Decision.{Decision}
use Rattle.register.specs.declared.decision.Decision.TheVariants.{Accepted, Kept, Refused}
use Rattle.register.specs.Offices.{WardEntry, OfficeState, receipt_entry, ward_at, receipt_at}
use Rattle.register.specs.Effects.{change_entry}
use Rattle.register.specs.CommandInputs.{input_entries}
use Rattle.register.specs.Elections.{election_of, contest_of, stages_of, due_of}
use Rattle.register.specs.Keyings.{reply_to}
use Rattle.register.specs.Tabulated.{IsCountFor}
use Rattle.register.specs.Machine.{Ruling, accepts, keeps, refuses, Outcome, accepted, outcome_at, decided, part_of}

-- the view shows what the state has for the given command: its receipt or, if there is none, the part of the state that the command needs, and the
-- count to which a stage will be added
pub record IsViewOf (s : OfficeState) (command : Command) (view : View) : Type 0 where
  pub receipt : option_map receipt_entry view.receipt ≡ receipt_at s view.actor view.id.now
  pub part : receipt_at s view.actor view.id.now ≡ None → input_entries view.part ≡ part_of s view.actor command
  pub count : receipt_at s view.actor view.id.now ≡ None → IsCountFor s command view.part.count

-- the ruling on a command, given a view
abbrev pub decided_on : View → Command → Ruling
decided_on view command = decided view.actor view.id.now command (option_map receipt_entry view.receipt) (input_entries view.part)

-- the ruling that a decision represents
abbrev pub ruling_of : Decision → Ruling
ruling_of (Accepted change reply) = accepts (change_entry change) (string_bytes reply)
ruling_of (Kept reply) = keeps (string_bytes reply)
ruling_of (Refused why) = refuses why

-- the outcome of a decision in a state
abbrev pub outcome_of : OfficeState → Decision → Outcome
outcome_of s decision = outcome_at s (ruling_of decision)

-- The reply to an accepted keying depends only on the command, so it is the same no matter what other clerks have keyed.
abbrev pub IsToldAlike : Command → Ruling → Type 0
IsToldAlike (Keying command) (accepts change reply) = reply ≡ reply_to command
IsToldAlike command ruling = ⊤

-- The count of a ward has one stage more than before, namely the stage that was due. The earlier stages are unchanged.
pub record HasStageMore (s next : OfficeState) (ward : ℕ) : Type 0 where
  pub before : WardEntry
  pub found : ward_at s ward ≡ Some before
  pub after : WardEntry
  pub stays : ward_at next ward ≡ Some after
  pub action : Action
  pub due : due_of (election_of s before) ≡ Act action
  pub added : stages_of (election_of next after) ≡ stage_of (contest_of (election_of s before)) (stages_of (election_of s before)) action ∷ stages_of (election_of s before)

-- The count of a ward has the same stages as before.
pub record HasSameStages (s next : OfficeState) (ward : ℕ) : Type 0 where
  pub before : WardEntry
  pub found : ward_at s ward ≡ Some before
  pub after : WardEntry
  pub stays : ward_at next ward ≡ Some after
  pub done : after.done ≡ before.done
  pub same : stages_of (election_of next after) ≡ stages_of (election_of s before)

-- an accepted Advance adds the next stage to the ward's stages; an accepted Lot or Declare leaves the stages unchanged
abbrev pub IsAdvanced : OfficeState → Command → Outcome → Type 0
IsAdvanced s (Count (Advance ward)) (accepted next reply) = HasStageMore s next ward
IsAdvanced s (Count (Lot ward stage candidate)) (accepted next reply) = HasSameStages s next ward
IsAdvanced s (Count (Declare ward)) (accepted next reply) = HasSameStages s next ward
IsAdvanced s command outcome = ⊤
