-- The invariant of the loop in `push_all_heads`.
use Rattle.std.proofs.Common.{◌≡◌, ◌++◌, [], map, take, drop, string_bytes}
use Rattle.sheet.specs.Cells.{each_after}
use Rattle.sheet.specs.Spreadsheet.{stage_heads}
use Rattle.sheet.proofs.spreadsheet.push_all_heads.Given as goal

abbrev pub invariant-loop-k : goal.invariant-loop-k
invariant-loop-k l = map string_bytes l.row.items ++ each_after (stage_heads) (take l.k l.stages) (drop l.k l.stages) ≡ map string_bytes l.fn.row.items ++ each_after (stage_heads) [] l.stages
