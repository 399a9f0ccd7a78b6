-- Proof that `overview_in` meets its contract.
use Rattle.std.proofs.Common.{◌==◌, Some, None, sym, ap, ◌∙◌, eq-eqb}
use Rattle.std.proofs.lemmas.Bool.{cond-true}
use Rattle.register.specs.Offices.{batch_entry}
use Rattle.store.specs.Overviews.{BatchView, batch_view_with}
use Rattle.store.proofs.LoadsLemmas.{loads_as}
use Rattle.store.proofs.storage.Store.overview_in.Goals as goal

pub returns : goal.returns
returns g c =
    let b = batch_entry c.args.batch in
    loads_as c.in_ok-overview.ensures
    (λ s is told. λ are. ap (λ (v : BatchView). Some v) (told are) ∙ sym (cond-true (b.ward == c.args.ward) (Some (batch_view_with s b None)) None (eq-eqb b.ward c.args.ward c.if-batch-ward.false)))
