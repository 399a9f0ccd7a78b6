-- The invariant of the loop in `number_up_to`.
use Rattle.std.proofs.Common.{◌≡◌, ◌≤◌, drop}
use Rattle.rowcheck.proofs.PlainLemmas.{up_to}
use Rattle.rowcheck.proofs.plain.number_up_to.Given as goal

abbrev pub invariant-loop-digit : goal.invariant-loop-digit
invariant-loop-digit l = record { within : l.so_far ≤ l.most; told : up_to l.most 0 l.digits ≡ up_to l.most l.so_far (drop l.digit-index l.digits) }
