-- The invariant of the loop in `records_in`: the remaining lines, after those read so far, determine the content of all of them.
use Rattle.std.proofs.Common.{◌≡◌, ◌≤◌, ◌-◌, [], take, drop}
use Rattle.checker.specs.RecordViews.{records_told, ward_told}
use Rattle.checker.specs.Records.{nothing_recorded, records_from}
use Rattle.checker.specs.Tokens.{pieces_of}
use Rattle.checker.specs.declared.tokens.Separator.TheVariants.{LineFeed}
use Rattle.checker.proofs.records.records_in.Given as goal

abbrev pub invariant-loop-i : goal.invariant-loop-i
invariant-loop-i l = record {
  within : l.start ≤ l.i;
  few : l.lines ≤ l.start;
  same : records_from l.lines (records_told l.records) (pieces_of LineFeed (take (l.i - l.start) (drop l.start l.text)) (drop l.i l.text))
      ≡ records_from 0 (nothing_recorded (ward_told l.ward)) (pieces_of LineFeed [] l.text);
}
