-- Proof that `open_from` meets its contract.
use Rattle.sqlite.specs.Held.{state}
use Rattle.store.proofs.KeepLemmas.{opened_is_at}
use Rattle.store.proofs.ReopenLemmas.{left_ours, left_told, left_failed, left_opened}
use Rattle.store.proofs.storage.Store.open_from.Goals as goal

pub returns-in-Ok-clause-opened : goal.returns-in-Ok-clause-opened
returns-in-Ok-clause-opened g c clean db ours at =
    opened_is_at db (state g.S.Store c.args.conn) (state g.S.Store c.check.new.conn) (λ trees is_open may. g.met.S.Store.settled c.check.new.conn.store trees is_open may)
    clean (c.in-Ok.ensures.opens clean) (c.check.ensures.reads) at (c.in-Ok.ensures.holds clean db ours at)

pub returns-in-Ok-clause-reopens : goal.returns-in-Ok-clause-reopens
returns-in-Ok-clause-reopens g c clean db at s left =
    left_opened s db (state g.S.Store c.check.new.conn) left
    (opened_is_at db (state g.S.Store c.args.conn) (state g.S.Store c.check.new.conn) (λ trees is_open may. g.met.S.Store.settled c.check.new.conn.store trees is_open may)
    clean (c.in-Ok.ensures.opens clean) (c.check.ensures.reads) at (c.in-Ok.ensures.holds clean db (left_ours s db left) at))

pub returns-in-Err-clause-refuses : goal.returns-in-Err-clause-refuses
returns-in-Err-clause-refuses g c clean db at s left = left_told s db c.in-Err.fault left (c.in-Err.ensures.told clean db (left_ours s db left) at)

pub returns-in-Err-clause-cause : goal.returns-in-Err-clause-cause
returns-in-Err-clause-cause g c clean db at s left =
    let ours = left_ours s db left in
    left_failed s db (state g.S.Store c.args.conn) (state g.S.Store c.check.new.conn) c.in-Err.fault left (c.in-Err.ensures.told clean db ours at) (c.in-Err.ensures.fails clean db ours at)
