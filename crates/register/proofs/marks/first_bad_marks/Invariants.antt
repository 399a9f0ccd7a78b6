-- The invariant of the loop in `first_bad_marks`.
use Rattle.std.proofs.Common.{◌≡◌, ◌+◌, map, drop, string_bytes}
use Rattle.register.specs.Marks.{first_bad_marks}
use Rattle.register.proofs.marks.first_bad_marks.Given as goal

abbrev pub invariant-loop-place : goal.invariant-loop-place
invariant-loop-place l = first_bad_marks l.columns 1 (map string_bytes l.papers) ≡ first_bad_marks l.columns (l.place + 1) (map string_bytes (drop l.place l.papers))
