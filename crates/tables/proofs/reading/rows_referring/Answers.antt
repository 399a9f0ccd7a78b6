-- Proof that `rows_referring` meets its contract.
use Rattle.std.proofs.Common.{[], ◌∷◌}
use Rattle.sqlite.specs.Held.{state}
use Rattle.sqlite.specs.Value.{owned}
use Rattle.sqlite.specs.Values.{bound_value}
use Rattle.tables.specs.Texts.{select_by_reference_text}
use Rattle.tables.specs.Schema.{table_sought}
use Rattle.tables.specs.Rows.{refers_to}
use Rattle.tables.proofs.SelectLemmas.{refers}
use Rattle.tables.proofs.Queries.{selects_by_reference, reference_query}
use Rattle.tables.proofs.ListingLemmas.{if_found}
use Rattle.tables.proofs.CauseLemmas.{reference_fails}
use Rattle.tables.proofs.reading.rows_referring.Goals as goal

pub returns-clause-finds : goal.returns-clause-finds
returns-clause-finds g c clean contents rests =
    let r = c.args.reference in
    let value = bound_value (owned c.args.value) in
    if_found (table_sought r) (select_by_reference_text r) _ (selects_by_reference r) (value ∷ []) (refers_to r value) (refers r value)
    contents (state g.S.Store c.args.conn.now) (state g.S.Store c.query.new.conn) (λ rows. rows.items) c.query.result rests (rw c.select_by_reference_text.ensures at (c.query.ensures.shown clean))

pub returns-clause-opens : goal.returns-clause-opens
returns-clause-opens g c clean = (rw c.select_by_reference_text.ensures at (c.query.ensures.opens clean)) (reference_query c.args.reference)

pub returns-clause-reads : goal.returns-clause-reads
returns-clause-reads g c = (rw c.select_by_reference_text.ensures at c.query.ensures.reads) (reference_query c.args.reference)

pub returns-clause-fails : goal.returns-clause-fails
returns-clause-fails g c clean contents at kind =
    reference_fails c.args.reference (bound_value (owned c.args.value)) kind contents (state g.S.Store c.args.conn.now) (state g.S.Store c.query.new.conn) c.query.result clean at
    (rw c.select_by_reference_text.ensures at c.query.ensures.cause)
