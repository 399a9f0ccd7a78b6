-- The invariant of the loop in `behind_first`: the mark begins at none of the places so far.
use Rattle.std.proofs.Common.{◌≡◌, drop}
use Rattle.checker.specs.IndexPage.{behind_first}
use Rattle.checker.proofs.folder_index.behind_first.Given as goal

abbrev pub invariant-loop-i : goal.invariant-loop-i
invariant-loop-i l = behind_first l.mark (drop l.i l.text) ≡ behind_first l.mark l.text
