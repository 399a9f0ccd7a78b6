-- The invariant of the loop in `rows_in`: the rows so far, followed by those in the rest of the page, are all rows.
use Rattle.std.proofs.Common.{◌≡◌, ◌++◌, drop, map}
use Rattle.std.specs.Option.{option_map}
use Rattle.checker.specs.IndexPage.{row_entry, rows_in}
use Rattle.checker.proofs.folder_index.rows_in.Given as goal

abbrev pub invariant-loop-i : goal.invariant-loop-i
invariant-loop-i l = option_map (λ others. map row_entry l.rows.items ++ others) (rows_in (drop l.i l.page)) ≡ rows_in l.page
