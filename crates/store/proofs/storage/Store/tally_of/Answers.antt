-- Proof that `tally_of` meets its contract.
use Rattle.std.proofs.Common.{sym, subst, ap, [], ◌∷◌}
use Rattle.register.specs.Offices.{batch_entry}
use Rattle.register.specs.Polls.{Pile}
use Rattle.store.specs.Tallies.{IsTally}
use Rattle.store.proofs.TallyLemmas.{one_tally}
use Rattle.store.proofs.LoadsLemmas.{loads_as}
use Rattle.store.proofs.storage.Store.tally_of.Goals as goal

pub returns : goal.returns
returns g c =
    let b = batch_entry c.args.batch.now in
    let papers = c.in_ok-papers.papers in
    loads_as c.in_ok-papers.ensures
    (λ s is told.
    subst (IsTally s (b ∷ [])) (sym (rw c.deref.ensures.value at c.tally_by.ensures))
    (one_tally s b papers.keyings papers.verdicts.items (ap (λ (p : Pile). p.keyings) told) (ap (λ (p : Pile). p.verdicts) told)))
