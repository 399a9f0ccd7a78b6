-- Proof that `all_rowids` meets its contract.
use Rattle.sqlite.specs.Held.{state}
use Rattle.tables.proofs.Queries.{rowids_query}
use Rattle.tables.proofs.ListingLemmas.{if_rowids_listed}
use Rattle.tables.proofs.rowids.all_rowids.Goals as goal

pub returns-clause-lists : goal.returns-clause-lists
returns-clause-lists g c clean db begins rests =
    if_rowids_listed c.args.table c.requires.changes db begins (state g.S.Store c.args.conn.now) (state g.S.Store c.query.new.conn) (λ rows. rows.items) c.query.result rests
    (rw c.select_rowids_text.ensures at (c.query.ensures.shown clean))

pub returns-clause-opens : goal.returns-clause-opens
returns-clause-opens g c clean = (rw c.select_rowids_text.ensures at (c.query.ensures.opens clean)) (rowids_query c.args.table c.requires.changes)

pub returns-clause-reads : goal.returns-clause-reads
returns-clause-reads g c = (rw c.select_rowids_text.ensures at c.query.ensures.reads) (rowids_query c.args.table c.requires.changes)
