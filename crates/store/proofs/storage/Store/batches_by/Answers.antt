-- Proof that `batches_by` meets its contract.
use Rattle.std.proofs.Common.{◌≡◌, Some, List, option_map, ap, ◌∙◌}
use Rattle.register.specs.Offices.{WardEntry, ward_entry, ward_at}
use Rattle.store.specs.Overviews.{BatchView, batch_views}
use Rattle.store.proofs.LoadsLemmas.{loads_as, loads_both, loads_cut}
use Rattle.store.proofs.storage.Store.batches_by.Goals as goal

pub returns-in_ok-batches-in-Some : goal.returns-in_ok-batches-in-Some
returns-in_ok-batches-in-Some g c =
    loads_as (loads_both c.in_ok-found.ensures c.in_ok-batches-in-Some.ensures)
    (λ s is told. λ all.
    let there : Some (ward_entry c.in-Some.ward) ≡ ward_at s c.args.ward = rw c.in-Some.is at told.0 in
    ap (λ (vs : List BatchView). Some vs) (told.1 all) ∙ ap (option_map (λ (w : WardEntry). batch_views s w.number)) there)

pub returns-in_err-batches-in-Some : goal.returns-in_err-batches-in-Some
returns-in_err-batches-in-Some g c = loads_cut c.from_residual-in_err-batches-in-Some.ensures.1 c.in_ok-found.ensures c.in_err-batches-in-Some.ensures
