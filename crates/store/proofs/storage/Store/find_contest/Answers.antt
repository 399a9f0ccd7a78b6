-- Proof that `find_contest` meets its contract.
use Rattle.std.proofs.Common.{◌≡◌, Some, refl, sym}
use Rattle.register.specs.Offices.{ward_entry, ward_at}
use Rattle.store.proofs.ElectionLemmas.{ward_there}
use Rattle.store.proofs.LoadsLemmas.{loads_as, loads_both, loads_cut}
use Rattle.store.proofs.storage.Store.find_contest.Goals as goal

pub returns : goal.returns
returns g c =
    loads_as (loads_both c.in_ok-found.ensures c.in_ok-candidates.ensures)
    (λ s is told.
    let w = ward_entry c.in-Some.ward in
    let there : Some w ≡ ward_at s c.args.ward = rw c.in-Some.is at told.0 in
    (sym there, (ward_there s c.args.ward w (sym there), told.1), refl))

pub returns-in_err-candidates : goal.returns-in_err-candidates
returns-in_err-candidates g c = loads_cut c.from_residual-in_err-candidates.ensures.1 c.in_ok-found.ensures c.in_err-candidates.ensures
