-- The answer to a clerk who reads the clerk's own keying of a batch from an earlier round.
use Rattle.std.specs.Prelude.{ℕ, ◌&&◌, if◌then◌else◌, Option, Result, Err}
use Rattle.register.specs.declared.refusal.Reason.{Reason}
use Rattle.register.specs.declared.refusal.Reason.TheVariants.{NotItsClerk, NumberOutOfRange}
use Rattle.register.specs.Ranges.{is_clerk, is_batch_number}
use Rattle.register.specs.Offices.{OfficeState}
use Rattle.store.specs.EarlierKeyings.{KeyedRoundEntry, earlier_at}
use Rattle.office.specs.Reads.{found_or}

-- what one of a batch's clerks keyed for it in the most recent earlier round that the clerk keyed, if there is one; a batch that doesn't exist has no clerks
abbrev pub earlier_answer : OfficeState → ℕ → ℕ → Result (Option KeyedRoundEntry) Reason
earlier_answer s clerk batch = if is_clerk clerk && is_batch_number batch then found_or NotItsClerk (earlier_at s clerk batch) else Err NumberOutOfRange
