-- The invariant of the loop in `after_signs`: none of the bytes read so far is a letter or a digit.
use Rattle.std.proofs.Common.{◌≡◌, drop}
use Rattle.checker.specs.ForeignComments.{after_signs}
use Rattle.checker.proofs.foreign_comments.after_signs.Given as goal

abbrev pub invariant-loop-i : goal.invariant-loop-i
invariant-loop-i l = after_signs (drop l.i l.text) ≡ after_signs l.text
