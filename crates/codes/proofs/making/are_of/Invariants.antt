-- The invariant of the loop in `are_of`: the test has the same result for the remaining lines as for all lines.
use Rattle.std.proofs.Common.{◌≡◌, ◌+◌, drop, map}
use Rattle.codes.specs.Files.{code_entry}
use Rattle.codes.specs.Making.{are_from}
use Rattle.codes.proofs.making.are_of.Given as goal

abbrev pub invariant-loop-one : goal.invariant-loop-one
invariant-loop-one l = record {
  at : l.next ≡ l.clerks.first + l.one-index;
  are : are_from l.next (l.clerks.last + 1) (map code_entry (drop l.one-index l.all)) ≡ are_from l.clerks.first (l.clerks.last + 1) (map code_entry l.all);
}
