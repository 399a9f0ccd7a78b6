-- The invariant of the loop in `read_lines`: the remaining lines, after those read so far, determine the content of all of them.
use Rattle.std.proofs.Common.{◌≡◌, ◌≤◌, ◌-◌, [], take, drop}
use Rattle.checker.specs.Reading.{nothing_told, read_from}
use Rattle.checker.specs.Tokens.{pieces_of}
use Rattle.checker.specs.Values.{reading_of}
use Rattle.checker.specs.declared.tokens.Separator.TheVariants.{LineFeed}
use Rattle.checker.proofs.reading.read_lines.Given as goal

abbrev pub invariant-loop-i : goal.invariant-loop-i
invariant-loop-i l = record {
  within : l.start ≤ l.i;
  few : l.lines ≤ l.start;
  same : read_from l.lines (reading_of l.reader) (pieces_of LineFeed (take (l.i - l.start) (drop l.start l.text)) (drop l.i l.text)) ≡ read_from 0 nothing_told (pieces_of LineFeed [] l.text);
}
