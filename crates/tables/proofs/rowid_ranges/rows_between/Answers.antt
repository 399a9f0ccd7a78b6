-- Proof that `rows_between` meets its contract.
use Rattle.std.proofs.Common.{rules, w64}
use Rattle.std.proofs.lemmas.Int.{to_z-of_z}
use Rattle.sqlite.specs.Held.{state}
use Rattle.tables.proofs.RunQueries.{between_query}
use Rattle.tables.proofs.RunLemmas.{if_between_shown, between_fails}
use Rattle.tables.proofs.rowid_ranges.rows_between.Goals as goal

pub returns-clause-shows : goal.returns-clause-shows
returns-clause-shows g c clean db begins rests =
    let low = to_z-of_z w64 c.args.low (search rules) in
    let high = to_z-of_z w64 c.args.high (search rules) in
    if_between_shown c.args.table c.args.low c.args.high db begins (state g.S.Store c.args.conn.now) (state g.S.Store c.query.new.conn) (λ rows. rows.items) c.query.result rests
    (rw (c.select_between_text.ensures, c.integer.ensures, c.integer-2.ensures, low, high) at (c.query.ensures.shown clean))

pub returns-clause-opens : goal.returns-clause-opens
returns-clause-opens g c clean = (rw c.select_between_text.ensures at (c.query.ensures.opens clean)) (between_query c.args.table)

pub returns-clause-reads : goal.returns-clause-reads
returns-clause-reads g c = (rw c.select_between_text.ensures at c.query.ensures.reads) (between_query c.args.table)

pub returns-clause-fails : goal.returns-clause-fails
returns-clause-fails g c clean contents at =
    let low = to_z-of_z w64 c.args.low (search rules) in
    let high = to_z-of_z w64 c.args.high (search rules) in
    between_fails c.args.table c.args.low c.args.high contents (state g.S.Store c.args.conn.now) (state g.S.Store c.query.new.conn) c.query.result clean at
    (rw (c.select_between_text.ensures, c.integer.ensures, c.integer-2.ensures, low, high) at c.query.ensures.cause)
