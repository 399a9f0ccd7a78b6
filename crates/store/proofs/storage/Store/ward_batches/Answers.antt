-- Proof that `ward_batches` meets its contract.
use Rattle.std.proofs.Common.{map, ap, ◌∙◌}
use Rattle.store.specs.Piles.{read_view_of}
use Rattle.store.proofs.LoadsLemmas.{loads_as, loads_both, loads_cut, loads_stopped}
use Rattle.store.proofs.storage.Store.ward_batches.Goals as goal

pub returns : goal.returns
returns g c = loads_as (loads_both c.in_ok-batches.ensures c.in_ok-read.ensures) (λ s is told. c.in_ok-found.ensures.is s c.args.ward (told.1 ∙ ap (map (read_view_of s c.args.ward)) told.0))

pub returns-in_err-read : goal.returns-in_err-read
returns-in_err-read g c = loads_cut c.from_residual-in_err-read.ensures.1 c.in_ok-batches.ensures c.in_err-read.ensures

pub returns-in_err-found : goal.returns-in_err-found
returns-in_err-found g c = loads_stopped c.from_residual-in_err-found.ensures.1 (loads_both c.in_ok-batches.ensures c.in_ok-read.ensures) (λ s is told. c.in_err-found.ensures.cause)
