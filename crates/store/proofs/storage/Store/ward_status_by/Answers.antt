-- Proof that `ward_status_by` meets its contract.
use Rattle.std.proofs.Common.{map, ap, ◌∙◌}
use Rattle.store.specs.Overviews.{batch_view}
use Rattle.store.proofs.KnownLemmas.{views_told}
use Rattle.store.proofs.LoadsLemmas.{loads_told}
use Rattle.store.proofs.storage.Store.ward_status_by.Goals as goal

pub returns : goal.returns
returns g c = loads_told c.status_by.ensures
    (λ s status told. λ all. told (ap (map batch_view) c.deref.ensures.value ∙ c.in-Ok.ensures ∙ views_told s c.args.ward.now.number c.args.known.now all))
