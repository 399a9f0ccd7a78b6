-- Proof that `status_at_by` meets its contract.
use Rattle.std.proofs.Common.{◌≡◌, Some, option_map, ap, ◌∙◌}
use Rattle.register.specs.Offices.{ward_entry, ward_at}
use Rattle.register.specs.Status.{StatusEntry, status_of}
use Rattle.store.proofs.LoadsLemmas.{loads_as, loads_both, loads_cut}
use Rattle.store.proofs.storage.Store.status_at_by.Goals as goal

pub returns-in_ok-status-in-Some : goal.returns-in_ok-status-in-Some
returns-in_ok-status-in-Some g c =
    loads_as (loads_both c.in_ok-found.ensures c.in_ok-status-in-Some.ensures)
    (λ s is told. λ all.
    let there : Some (ward_entry c.in-Some.ward) ≡ ward_at s c.args.ward = rw c.in-Some.is at told.0 in
    ap (λ (e : StatusEntry). Some e) (told.1 all) ∙ ap (option_map (status_of s)) there)

pub returns-in_err-status-in-Some : goal.returns-in_err-status-in-Some
returns-in_err-status-in-Some g c = loads_cut c.from_residual-in_err-status-in-Some.ensures.1 c.in_ok-found.ensures c.in_err-status-in-Some.ensures
