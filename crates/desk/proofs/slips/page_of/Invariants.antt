-- The invariant of the loop in `page_of`: the slips so far, followed by those of the remaining lines, are all slips.
use Rattle.std.proofs.Common.{◌≡◌, ◌++◌, drop, map}
use Rattle.codes.specs.Files.{code_entry}
use Rattle.forms.specs.Slips.{slip_entry}
use Rattle.desk.specs.Forms.{slip_of}
use Rattle.desk.proofs.slips.page_of.Given as goal

abbrev pub invariant-loop-line : goal.invariant-loop-line
invariant-loop-line l = map slip_entry l.slips.items ++ map (slip_of l.origin) (map code_entry (drop l.line-index l.lines)) ≡ map (slip_of l.origin) (map code_entry l.lines)
