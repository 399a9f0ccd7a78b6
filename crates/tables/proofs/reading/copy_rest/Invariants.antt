-- The invariant of the loop in `copy_rest`.
use Rattle.std.proofs.Common.{◌≡◌, ℕ, List, false}
use Rattle.sqlite.specs.Order.{Row}
use Rattle.sqlite.specs.Given.{HasGiven}
use Rattle.sqlite.specs.State.{HasCleanDisk}
use Rattle.sqlite.specs.Held.{state}
use Rattle.tables.specs.Reading.{OnlyReads}
use Rattle.tables.proofs.reading.copy_rest.Given as goal

abbrev pub invariant-rows : goal.invariant-rows
invariant-rows g l = record {
  same_reference : l.rows.conn.ghost_name ≡ l.initial.rows.conn.ghost_name;
  outside : l.initial.rows.conn.now.in_transaction ≡ false → l.rows.conn.now.in_transaction ≡ false;
  reads : OnlyReads (state g.S.Store l.initial.rows.conn.now) (state g.S.Store l.rows.conn.now);
  given : HasCleanDisk (state g.S.Store l.rows.conn.now) → (sql : List ℕ) → (params : Row) → HasGiven g.S.Store sql params l.initial.rows.conn.now l.initial.found.items
      → HasGiven g.S.Store sql params l.rows.conn.now l.found.items;
}
