-- The invariant of the loop in `entries_of`.
use Rattle.std.proofs.Common.{◌≡◌, map, take}
use Rattle.tables.specs.Rows.{at, column_places}
use Rattle.tables.proofs.listing.entries_of.Given as goal

abbrev pub invariant-loop-row : goal.invariant-loop-row
invariant-loop-row g l = map (at (column_places g.E.Entries.TABLE)) (take l.row-index l.rows) ≡ map g.E.Entries.row_of l.entries.items
