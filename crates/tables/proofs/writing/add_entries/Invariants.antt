-- The invariant of the loop in `add_entries`.
use Rattle.std.proofs.Common.{Ok, map, take}
use Rattle.tables.specs.Contents.{Sees, added_all}
use Rattle.tables.specs.Writing.{Alters}
use Rattle.tables.proofs.writing.add_entries.Given as goal

abbrev pub invariant-loop-entry : goal.invariant-loop-entry
invariant-loop-entry g l = Alters g.S.Store l.initial.tx.conn l.tx.conn (Ok (tt {0})) Sees (λ c. Sees (added_all g.E.Entries.TABLE (take l.entry-index (map g.E.Entries.row_of l.entries)) c))
