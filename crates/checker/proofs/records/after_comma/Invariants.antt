-- The invariant of the loop in `after_comma`: the remaining bytes determine the result.
use Rattle.std.proofs.Common.{◌≡◌, drop}
use Rattle.checker.specs.Records.{after_comma}
use Rattle.checker.proofs.records.after_comma.Given as goal

abbrev pub invariant-loop-i : goal.invariant-loop-i
invariant-loop-i l = after_comma (drop l.i l.line) ≡ after_comma l.line
