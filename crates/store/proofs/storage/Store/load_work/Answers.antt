-- Proof that `load_work` meets its contract.
use Rattle.std.proofs.Common.{ap, ◌∙◌}
use Rattle.store.proofs.WorkLemmas.{work_among}
use Rattle.store.proofs.LoadsLemmas.{loads_as, loads_both, loads_cut}
use Rattle.store.proofs.storage.Store.load_work.Goals as goal

pub returns : goal.returns
returns g c = loads_as (loads_both c.in_ok-batches.ensures (rw c.deref.ensures.value at c.in_ok-found.ensures)) (λ s is told. told.1 ∙ ap (work_among s c.args.clerk) told.0)

pub returns-in_err-found : goal.returns-in_err-found
returns-in_err-found g c = loads_cut c.from_residual-in_err-found.ensures.1 c.in_ok-batches.ensures c.in_err-found.ensures
