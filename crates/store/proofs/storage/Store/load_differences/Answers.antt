-- Proof that `load_differences` meets its contract.
use Rattle.std.proofs.Common.{◌≡◌, Some, option_map, ap, ◌∙◌}
use Rattle.register.specs.Offices.{batch_entry, batch_at}
use Rattle.store.specs.Overviews.{DifferencesView, differences_of}
use Rattle.store.proofs.LoadsLemmas.{loads_as, loads_both, loads_cut}
use Rattle.store.proofs.storage.Store.load_differences.Goals as goal

pub returns-in_ok-differences-in-Some : goal.returns-in_ok-differences-in-Some
returns-in_ok-differences-in-Some g c =
    loads_as (loads_both c.in_ok-found.ensures c.in_ok-differences-in-Some.ensures)
    (λ s is told.
    let there : Some (batch_entry c.in-Some.batch) ≡ batch_at s c.args.batch = rw c.in-Some.is at told.0 in
    ap (λ (d : DifferencesView). Some d) told.1 ∙ ap (option_map (differences_of s)) there)

pub returns-in_err-differences-in-Some : goal.returns-in_err-differences-in-Some
returns-in_err-differences-in-Some g c = loads_cut c.from_residual-in_err-differences-in-Some.ensures.1 c.in_ok-found.ensures c.in_err-differences-in-Some.ensures
