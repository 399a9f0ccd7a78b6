-- The invariant of the loop in `replace_entries`.
use Rattle.std.proofs.Common.{Ok, map, take}
use Rattle.tables.specs.Contents.{Sees, replaced_all}
use Rattle.tables.specs.Writing.{Alters}
use Rattle.tables.proofs.writing.replace_entries.Given as goal

abbrev pub invariant-loop-entry : goal.invariant-loop-entry
invariant-loop-entry g l = Alters g.S.Store l.initial.tx.conn l.tx.conn (Ok (tt {0})) Sees (λ c. Sees (replaced_all g.E.Entries.TABLE (take l.entry-index (map g.E.Entries.row_of l.entries)) c))
