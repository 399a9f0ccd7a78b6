-- The invariant of the loop in `before_comma`: the result is the bytes read so far, followed by whatever precedes a comma in the remaining ones.
use Rattle.std.proofs.Common.{◌≡◌, ◌++◌, take, drop}
use Rattle.checker.specs.Records.{before_comma}
use Rattle.checker.proofs.records.before_comma.Given as goal

abbrev pub invariant-loop-i : goal.invariant-loop-i
invariant-loop-i l = take l.i l.line ++ before_comma (drop l.i l.line) ≡ before_comma l.line
