-- The invariant of the loop in `unescaped`: the bytes so far, followed by what the rest shows, are what the text shows.
use Rattle.std.proofs.Common.{◌≡◌, ◌++◌, drop}
use Rattle.checker.specs.IndexPage.{unescaped, unescaped_from}
use Rattle.checker.proofs.folder_index.unescaped.Given as goal

abbrev pub invariant-loop-i : goal.invariant-loop-i
invariant-loop-i l = l.bytes.items ++ unescaped_from l.passed (drop l.i l.text) ≡ unescaped l.text
