-- Proof that `pile_in` meets its contract.
use Rattle.std.proofs.Common.{map, sym, ap, ◌∙◌}
use Rattle.register.specs.Offices.{batch_entry, candidate_entry}
use Rattle.register.specs.Marks.{columns_of}
use Rattle.store.proofs.PileLemmas.{pile_told}
use Rattle.store.proofs.LoadsLemmas.{loads_as}
use Rattle.store.proofs.storage.Store.pile_in.Goals as goal

pub returns : goal.returns
returns g c =
    loads_as c.in_ok-candidates.ensures
    (λ s is told. λ are.
    pile_told s (batch_entry c.args.batch.now) c.columns_of.result _ _ _ c.in-Ok.ensures
    (c.columns_of.ensures.is ∙ ap columns_of (ap (map candidate_entry) c.deref.ensures.value ∙ told)) c.agreed-papers.ensures are.they_are (sym c.is_keyed.ensures ∙ c.if-not-is_keyed.false))
