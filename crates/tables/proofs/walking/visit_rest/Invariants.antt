-- The invariant of the loop in `visit_rest`.
use Rattle.std.proofs.Common.{◌≡◌, false}
use Rattle.sqlite.specs.State.{HasCleanDisk}
use Rattle.sqlite.specs.Held.{state}
use Rattle.tables.specs.Reading.{OnlyReads}
use Rattle.tables.proofs.WalkLemmas.{HasWalked}
use Rattle.tables.proofs.walking.visit_rest.Given as goal

abbrev pub invariant-rows : goal.invariant-rows
invariant-rows g l = record {
  same_reference : l.rows.conn.ghost_name ≡ l.initial.rows.conn.ghost_name;
  outside : l.initial.rows.conn.now.in_transaction ≡ false → l.rows.conn.now.in_transaction ≡ false;
  reads : OnlyReads (state g.S.Store l.initial.rows.conn.now) (state g.S.Store l.rows.conn.now);
  walked : HasCleanDisk (state g.S.Store l.rows.conn.now)
      → HasWalked g.S.Store g.E.Entries.TABLE g.E.Entries.row_of g.V.Visitor.HasVisited l.initial.rows.conn.now l.rows.conn.now l.initial.visitor l.visitor;
}
