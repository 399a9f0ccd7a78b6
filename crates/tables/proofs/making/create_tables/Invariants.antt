-- The invariant of the loop in `create_tables`.
use Rattle.std.proofs.Common.{Ok}
use Rattle.std.specs.Prelude.{⊤}
use Rattle.tables.specs.Making.{no_contents, SeesMade}
use Rattle.tables.specs.Writing.{Alters}
use Rattle.tables.proofs.making.create_tables.Given as goal

abbrev pub invariant-loop-table : goal.invariant-loop-table
invariant-loop-table g l = Alters g.S.Store l.initial.tx.conn l.tx.conn (Ok (tt {0})) (λ (x : ⊤). SeesMade 0 no_contents) (λ x. SeesMade l.table-index no_contents)
