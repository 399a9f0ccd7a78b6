-- Proof that `index` meets its contract.
use Rattle.std.proofs.Common.{subst, sym}
use Rattle.sqlite.specs.Held.{state}
use Rattle.sqlite.specs.State.{HasCleanDisk}
use Rattle.store.specs.StateTables.{IsAt}
use Rattle.office.proofs.IndexLemmas.{index_read, index_stopped}
use Rattle.office.proofs.open_office.Office.index.Goals as goal

pub returns-in-Err-clause-reads : goal.returns-in-Err-clause-reads
returns-in-Err-clause-reads g c clean is_open s at =
    index_stopped c.args.title.now s c.in-Err.stop c.wards.new.self.closed (state g.S.Store c.wards.new.self.held) (c.in-Err.ensures.reads clean is_open s at)

pub returns-clause-reads : goal.returns-clause-reads
returns-clause-reads g c clean is_open s at =
    let before = subst (λ h. HasCleanDisk (state g.S.Store h)) c.index_of.ensures.held clean in
    index_read c.args.title.now s c.in-Ok.overviews c.index_of.result c.wards.new.self.closed c.index_of.new.self.closed (state g.S.Store c.wards.new.self.held)
    (state g.S.Store c.index_of.new.self.held)
    (c.in-Ok.ensures.reads before is_open s at) (λ here. subst (λ h. IsAt s (state g.S.Store h)) (sym c.index_of.ensures.held) here)
    (rw c.deref.ensures.value at c.index_of.ensures.told) c.index_of.ensures.stopped
    c.index_of.ensures.open_still
