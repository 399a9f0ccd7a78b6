-- A keying has exactly one outcome, which depends only on the batch, the round and the texts in the command.
use Rattle.std.proofs.Common.{◌≡◌, ◌∙◌, ℕ, List, Option, Some, None, ap, if◌then◌else◌, map, refl, string_bytes, sym}
use Rattle.register.specs.Keyings.{objections, part_of, reply_to, subject_of}
use Rattle.register.specs.Machine.{answered, decided, judged, outcome_at, refuses, step, step_of}
use Rattle.register.specs.Offices.{OfficeState, ReceiptEntry, receipt_at}
use Rattle.register.specs.CommandInputs.{CommandInputEntries}
use Rattle.register.specs.Ranges.{is_id}
use Rattle.register.specs.Reasons.{first_reason}
use Rattle.register.specs.declared.command.Command.TheVariants as command
use Rattle.register.specs.declared.command.Request.{Request}
use Rattle.register.specs.declared.keyings.KeyingCommand.{KeyingCommand}
use Rattle.register.specs.declared.refusal.Reason.{Reason}
use Rattle.register.specs.declared.refusal.Reason.TheVariants.{BadId}
use Rattle.wire.specs.Bodies.{KeyingEntry}
use Rattle.wire.specs.Serving.{IsHandedOn, IsOutcome}

-- two commands with the same batch, round and texts
record IsSame (one other : KeyingCommand) : Type 0 where
  pub batch : one.batch ≡ other.batch
  pub round : one.round ≡ other.round
  pub papers : map string_bytes one.papers.items ≡ map string_bytes other.papers.items

objections-same : (clerk : ℕ) (part : CommandInputEntries) (one other : KeyingCommand) → IsSame one other → objections clerk one part ≡ objections clerk other part
objections-same clerk part one other same = rw (same.batch, same.round, same.papers) refl

judged-same : (clerk : ℕ) (id : List ℕ) (part : CommandInputEntries) (one other : KeyingCommand) → IsSame one other → (why : Option Reason)
    → judged clerk id (command.Keying one) part why ≡ judged clerk id (command.Keying other) part why
unfolding subject_of reply_to
judged-same clerk id part one other same (Some why) = refl
judged-same clerk id part one other same None = rw (same.batch, same.round, same.papers) refl

answered-same : (clerk : ℕ) (id : List ℕ) (part : CommandInputEntries) (one other : KeyingCommand) → IsSame one other → (receipt : Option ReceiptEntry)
    → answered clerk id (command.Keying one) receipt part ≡ answered clerk id (command.Keying other) receipt part
unfolding subject_of
answered-same clerk id part one other same (Some receipt) = rw (same.batch, same.round) refl
answered-same clerk id part one other same None =
    judged-same clerk id part one other same (first_reason (objections clerk one part))
    ∙ ap (λ reasons. judged clerk id (command.Keying other) part (first_reason reasons)) (objections-same clerk part one other same)

part-same : (s : OfficeState) (clerk : ℕ) (one other : KeyingCommand) → IsSame one other → part_of s clerk one ≡ part_of s clerk other
part-same s clerk one other same = rw (same.batch, same.round) refl

step-same : (s : OfficeState) (clerk : ℕ) (id : List ℕ) (one other : KeyingCommand) → IsSame one other → step s clerk id (command.Keying one) ≡ step s clerk id (command.Keying other)
unfolding step decided
step-same s clerk id one other same =
    ap (λ ruling. outcome_at s (if is_id id then ruling else refuses BadId))
    (answered-same clerk id (part_of s clerk one) one other same (receipt_at s clerk id)
    ∙ ap (answered clerk id (command.Keying other) (receipt_at s clerk id)) (part-same s clerk one other same))

-- the request that forwards a keying has the outcome of the keying
pub IsOutcome-handed : (s : OfficeState) (clerk batch : ℕ) (entry : KeyingEntry) (request : Request) → IsHandedOn clerk batch entry request → IsOutcome s clerk batch entry (step_of s request)
IsOutcome-handed s clerk batch entry request is = record {
  request = request;
  is = is;
  each = λ other is_too.
      let same : IsSame is.handed is_too.handed = record { batch = is.about ∙ sym is_too.about; round = is.round ∙ sym is_too.round; papers = is.papers ∙ sym is_too.papers } in
      ap (λ actor. step s actor (string_bytes request.id) request.command) (is.actor ∙ sym is_too.actor)
      ∙ ap (λ id. step s other.actor id request.command) (is.id ∙ sym is_too.id)
      ∙ ap (step s other.actor (string_bytes other.id)) is.command
      ∙ step-same s other.actor (string_bytes other.id) is.handed is_too.handed same
      ∙ ap (step s other.actor (string_bytes other.id)) (sym is_too.command);
}
