-- Proof that `query` meets its contract.
use Rattle.sqlite.specs.Held.{state}
use Rattle.tables.proofs.ReadLemmas.{only_reads, shown_same}
use Rattle.tables.proofs.reading.query.Goals as goal

pub returns-in-Ok-clause-opens : goal.returns-in-Ok-clause-opens
returns-in-Ok-clause-opens g c clean is =
    (shown_same _ _ (state g.S.Store c.args.conn.now) (state g.S.Store c.query_all.new.self) c.in-Ok.rows.items is (c.in-Ok.ensures.ok clean)).0.is_open

pub returns-in-Ok-clause-reads : goal.returns-in-Ok-clause-reads
returns-in-Ok-clause-reads g c is =
    only_reads _ _ (state g.S.Store c.args.conn.now) (state g.S.Store c.query_all.new.self)
    (λ rows. rows.items) c.query_all.result is c.query_all.ensures.ok c.query_all.ensures.err c.query_all.ensures.survives

pub returns-in-Err-clause-reads : goal.returns-in-Err-clause-reads
returns-in-Err-clause-reads g c is =
    only_reads _ _ (state g.S.Store c.args.conn.now) (state g.S.Store c.query_all.new.self)
    (λ rows. rows.items) c.query_all.result is c.query_all.ensures.ok c.query_all.ensures.err c.query_all.ensures.survives
