-- Proof that `rowids_with` meets its contract.
use Rattle.std.proofs.Common.{◌∙◌}
use Rattle.sqlite.specs.Held.{state}
use Rattle.sqlite.specs.Values.{bound}
use Rattle.tables.proofs.ListLemmas.{mapped_length}
use Rattle.tables.proofs.RunQueries.{rowid_query}
use Rattle.tables.proofs.RunLemmas.{if_rowid_shown, rowid_fails}
use Rattle.tables.proofs.rowid_ranges.rowids_with.Goals as goal

pub returns-clause-shows : goal.returns-clause-shows
returns-clause-shows g c clean many db begins rests =
    if_rowid_shown c.args.table (bound c.args.key.now) (mapped_length _ c.args.key.now ∙ many) db begins (state g.S.Store c.args.conn.now)
    (state g.S.Store c.query.new.conn) (λ rows. rows.items) c.query.result rests
    (rw c.select_rowid_text.ensures at (c.query.ensures.shown clean))

pub returns-clause-opens : goal.returns-clause-opens
returns-clause-opens g c clean = (rw c.select_rowid_text.ensures at (c.query.ensures.opens clean)) (rowid_query c.args.table)

pub returns-clause-reads : goal.returns-clause-reads
returns-clause-reads g c = (rw c.select_rowid_text.ensures at c.query.ensures.reads) (rowid_query c.args.table)

pub returns-clause-fails : goal.returns-clause-fails
returns-clause-fails g c clean many contents at kinds =
    rowid_fails c.args.table (bound c.args.key.now) (mapped_length _ c.args.key.now ∙ many) kinds contents (state g.S.Store c.args.conn.now) (state g.S.Store c.query.new.conn) c.query.result clean at
    (rw c.select_rowid_text.ensures at c.query.ensures.cause)
