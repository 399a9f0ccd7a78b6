-- Proof that `wards_with` meets its contract.
use Rattle.std.proofs.Common.{◌≡◌}
use Rattle.store.proofs.LoadsLemmas.{loads_as, loads_both, loads_cut}
use Rattle.store.proofs.storage.Store.wards_with.Goals as goal

pub returns-clause-loads : goal.returns-clause-loads
returns-clause-loads g c =
    loads_as (loads_both (loads_both c.in_ok-refresh.ensures.refreshes c.in_ok-wards.ensures) (rw c.deref.ensures.value at c.in_ok-found.ensures)) (λ s is told. λ are. told.1 told.0.1 (told.0.0 are))

pub returns-clause-stays : goal.returns-clause-stays
returns-clause-stays g c = λ clean s at are. c.in_ok-refresh.ensures.stays (c.all_wards.ensures.reads.clean (c.ward_overviews_by.ensures.reads.clean clean)) s at are

pub returns-in_err-wards-clause-loads : goal.returns-in_err-wards-clause-loads
returns-in_err-wards-clause-loads g c = loads_cut c.from_residual-in_err-wards.ensures.1 c.in_ok-refresh.ensures.refreshes c.in_err-wards.ensures

pub returns-in_err-wards-clause-stays : goal.returns-in_err-wards-clause-stays
returns-in_err-wards-clause-stays g c = λ clean s at are. c.in_ok-refresh.ensures.stays (c.all_wards.ensures.reads.clean clean) s at are

pub returns-in_err-found-clause-loads : goal.returns-in_err-found-clause-loads
returns-in_err-found-clause-loads g c = loads_cut c.from_residual-in_err-found.ensures.1 (loads_both c.in_ok-refresh.ensures.refreshes c.in_ok-wards.ensures)
    (rw c.deref.ensures.value at c.in_err-found.ensures)

pub returns-in_err-found-clause-stays : goal.returns-in_err-found-clause-stays
returns-in_err-found-clause-stays g c = λ clean s at are. c.in_ok-refresh.ensures.stays (c.all_wards.ensures.reads.clean (c.ward_overviews_by.ensures.reads.clean clean)) s at are
