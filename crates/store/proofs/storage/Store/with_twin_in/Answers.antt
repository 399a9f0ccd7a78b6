-- Proof that `with_twin_in` meets its contract.
use Rattle.std.proofs.Common.{◌==◌, Some, None, sym, ap, ◌∙◌, eq-eqb}
use Rattle.std.proofs.lemmas.Bool.{cond-true}
use Rattle.store.specs.Memories.{row_of}
use Rattle.store.specs.Overviews.{BatchView, batch_view_of}
use Rattle.store.proofs.LoadsLemmas.{loads_as}
use Rattle.store.proofs.storage.Store.with_twin_in.Goals as goal

pub returns : goal.returns
returns g c =
    let b = row_of c.args.one.now in
    loads_as c.in_ok-overview.ensures
    (λ s is told. λ all own. ap (λ (v : BatchView). Some v) (told all own) ∙ sym (cond-true (b.ward == c.args.ward) (Some (batch_view_of s b)) None (eq-eqb b.ward c.args.ward c.if-one-ward.false)))
