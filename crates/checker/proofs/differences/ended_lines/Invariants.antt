-- The invariant of the loop in `ended_lines`: the lines read so far and those in the remaining bytes add up to all lines.
use Rattle.std.proofs.Common.{◌≡◌, ◌≤◌, ◌+◌, drop}
use Rattle.checker.specs.Differences.{ended_lines}
use Rattle.checker.proofs.differences.ended_lines.Given as goal

abbrev pub invariant-loop-byte : goal.invariant-loop-byte
invariant-loop-byte l = record {
  same : l.lines + ended_lines (drop l.byte-index l.text) ≡ ended_lines l.text;
  few : l.lines ≤ l.byte-index;
}
