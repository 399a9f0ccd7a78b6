-- The invariant of the loop in `split_before`: none of the bytes so far is the given one.
use Rattle.std.proofs.Common.{◌≡◌, ◌++◌, drop, take}
use Rattle.checker.specs.IndexPage.{from_first, until}
use Rattle.checker.proofs.folder_index.split_before.Given as goal

abbrev pub invariant-loop-i : goal.invariant-loop-i
invariant-loop-i l = record {
  before : take l.i l.text ++ until l.stop (drop l.i l.text) ≡ until l.stop l.text;
  from : from_first l.stop (drop l.i l.text) ≡ from_first l.stop l.text;
}
