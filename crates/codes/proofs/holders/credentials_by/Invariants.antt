-- The invariant of the loop in `credentials_by`.
use Rattle.std.proofs.Common.{◌≡◌, map, take}
use Rattle.codes.specs.Codes.{holder}
use Rattle.codes.specs.Files.{code_entry, holders_by}
use Rattle.codes.proofs.holders.credentials_by.Given as goal

abbrev pub invariant-loop-line : goal.invariant-loop-line
invariant-loop-line l = map holder l.all.items ≡ holders_by (map code_entry (take l.line-index l.lines))
