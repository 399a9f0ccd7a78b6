-- The invariant of the loop in `fields_of`.
use Rattle.std.proofs.Common.{◌≡◌, ◌++◌, map, drop, string_bytes}
use Rattle.sheet.proofs.spreadsheet.fields_of.Given as goal

abbrev pub invariant-loop-cell : goal.invariant-loop-cell
invariant-loop-cell l = map (λ field. field.now) l.fields.items ++ map string_bytes (drop l.cell-index l.row) ≡ map string_bytes l.row
