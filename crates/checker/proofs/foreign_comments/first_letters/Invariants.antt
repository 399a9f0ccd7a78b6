-- The invariant of the loop in `first_letters`: the bytes read so far are letters.
use Rattle.std.proofs.Common.{◌≡◌, ◌++◌, take, drop}
use Rattle.checker.specs.ForeignComments.{first_letters}
use Rattle.checker.proofs.foreign_comments.first_letters.Given as goal

abbrev pub invariant-loop-i : goal.invariant-loop-i
invariant-loop-i l = take l.i l.text ++ first_letters (drop l.i l.text) ≡ first_letters l.text
