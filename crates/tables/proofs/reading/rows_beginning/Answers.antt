-- Proof that `rows_beginning` meets its contract.
use Rattle.std.proofs.Common.{drop, length, ap, sym, ◌∙◌}
use Rattle.sqlite.specs.Held.{state}
use Rattle.sqlite.specs.Values.{bound}
use Rattle.tables.specs.Texts.{select_text}
use Rattle.tables.specs.Schema.{places_from}
use Rattle.tables.specs.Rows.{begins_with, agree_at}
use Rattle.tables.proofs.ListLemmas.{mapped_length}
use Rattle.tables.proofs.SelectLemmas.{tests_agree}
use Rattle.tables.proofs.Queries.{selects, selects_query}
use Rattle.tables.proofs.ListingLemmas.{if_found}
use Rattle.tables.proofs.CauseLemmas.{key_fails}
use Rattle.tables.proofs.reading.rows_beginning.Goals as goal

pub returns-clause-finds : goal.returns-clause-finds
returns-clause-finds g c clean contents rests =
    let key = bound c.args.key.now in
    let n = length c.args.key.now in
    if_found c.args.table (select_text c.args.table n) _ (selects c.args.table n c.requires.key) key (begins_with key)
    (λ r. tests_agree 0 n key r ∙ ap (λ m. agree_at (places_from 0 m) (drop 1 r) key) (sym (mapped_length _ c.args.key.now)))
    contents (state g.S.Store c.args.conn.now) (state g.S.Store c.query.new.conn) (λ rows. rows.items) c.query.result rests (rw c.select_text.ensures at (c.query.ensures.shown clean))

pub returns-clause-opens : goal.returns-clause-opens
returns-clause-opens g c clean = (rw c.select_text.ensures at (c.query.ensures.opens clean)) (selects_query c.args.table (length c.args.key.now) c.requires.key)

pub returns-clause-reads : goal.returns-clause-reads
returns-clause-reads g c = (rw c.select_text.ensures at c.query.ensures.reads) (selects_query c.args.table (length c.args.key.now) c.requires.key)

pub returns-clause-fails : goal.returns-clause-fails
returns-clause-fails g c clean contents at kinds =
    key_fails c.args.table (length c.args.key.now) (bound c.args.key.now) (mapped_length _ c.args.key.now) c.requires.key kinds contents (state g.S.Store c.args.conn.now)
    (state g.S.Store c.query.new.conn) c.query.result clean at (rw c.select_text.ensures at c.query.ensures.cause)
