-- The invariant of the loop in `count_open`.
use Rattle.std.proofs.Common.{◌≡◌, ◌≤◌, ◌+◌, length, map, drop}
use Rattle.std.specs.List.{filter}
use Rattle.register.specs.Offices.{keyed_entry, judged_entry}
use Rattle.register.specs.Agreement.{is_open}
use Rattle.register.proofs.agreement.count_open.Given as goal

abbrev pub invariant-loop-keyed : goal.invariant-loop-keyed
invariant-loop-keyed l = record {
  few : l.open ≤ l.keyed-index;
  all : l.open + length (filter (is_open (map judged_entry l.verdicts)) (map keyed_entry (drop l.keyed-index l.keying)))
      ≡ length (filter (is_open (map judged_entry l.verdicts)) (map keyed_entry l.keying));
}
