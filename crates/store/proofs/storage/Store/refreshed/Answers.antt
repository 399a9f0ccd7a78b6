-- Proof that `refreshed` meets its contract.
use Rattle.std.proofs.Common.{map, ap, ◌∙◌}
use Rattle.store.specs.Memories.{known_of}
use Rattle.store.proofs.LoadsLemmas.{loads_as, loads_both, loads_cut}
use Rattle.store.proofs.storage.Store.refreshed.Goals as goal

pub returns : goal.returns
returns g c = loads_as (loads_both c.in_ok-batches.ensures c.in_ok-found.ensures) (λ s is told. λ are. told.1 are ∙ ap (map (known_of s)) told.0)

pub returns-in_err-found : goal.returns-in_err-found
returns-in_err-found g c = loads_cut c.from_residual-in_err-found.ensures.1 c.in_ok-batches.ensures c.in_err-found.ensures
