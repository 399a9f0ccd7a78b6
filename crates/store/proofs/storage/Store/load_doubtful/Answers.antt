-- Proof that `load_doubtful` meets its contract.
use Rattle.std.proofs.Common.{◌≡◌, Some, option_map, ap, ◌∙◌}
use Rattle.register.specs.Offices.{WardEntry, ward_entry, ward_at}
use Rattle.store.specs.Overviews.{DoubtfulPapersView, doubtful_papers}
use Rattle.store.proofs.LoadsLemmas.{loads_as, loads_both, loads_cut}
use Rattle.store.proofs.storage.Store.load_doubtful.Goals as goal

pub returns-in_ok-papers-in-Some : goal.returns-in_ok-papers-in-Some
returns-in_ok-papers-in-Some g c =
    loads_as (loads_both c.in_ok-found.ensures c.in_ok-papers-in-Some.ensures)
    (λ s is told.
    let there : Some (ward_entry c.in-Some.ward) ≡ ward_at s c.args.ward = rw c.in-Some.is at told.0 in
    ap (λ (d : DoubtfulPapersView). Some d) told.1 ∙ ap (option_map (λ (w : WardEntry). doubtful_papers s w.number)) there)

pub returns-in_err-papers-in-Some : goal.returns-in_err-papers-in-Some
returns-in_err-papers-in-Some g c = loads_cut c.from_residual-in_err-papers-in-Some.ensures.1 c.in_ok-found.ensures c.in_err-papers-in-Some.ensures
