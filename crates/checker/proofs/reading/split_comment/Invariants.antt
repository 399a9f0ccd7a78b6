-- The invariant of the loop in `split_comment`: none of the bytes read so far is a `#`, so they precede the comment.
use Rattle.std.proofs.Common.{◌≡◌, ◌++◌, take, drop}
use Rattle.checker.specs.ForeignComments.{behind_number_sign}
use Rattle.checker.specs.Reading.{before_comment}
use Rattle.checker.proofs.reading.split_comment.Given as goal

abbrev pub invariant-loop-i : goal.invariant-loop-i
invariant-loop-i l = record {
  before : take l.i l.line ++ before_comment (drop l.i l.line) ≡ before_comment l.line;
  behind : behind_number_sign (drop l.i l.line) ≡ behind_number_sign l.line;
}
