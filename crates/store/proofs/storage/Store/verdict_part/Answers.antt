-- Proof that `verdict_part` meets its contract.
use Rattle.std.proofs.Common.{◌≡◌, Some, ap, ◌∙◌}
use Rattle.register.specs.Offices.{batch_entry, batch_at}
use Rattle.register.specs.Batches.{ward_for, candidates_for, keyings_for}
use Rattle.store.proofs.PartLemmas.{same_part}
use Rattle.store.proofs.LoadsLemmas.{loads_as, loads_both, loads_cut}
use Rattle.store.proofs.storage.Store.verdict_part.Goals as goal

pub returns : goal.returns
returns g c =
    loads_as (loads_both (loads_both (loads_both c.in_ok-verdict.ensures c.in_ok-found.ensures) c.in_ok-first.ensures) c.in_ok-part.ensures)
    (λ s is told.
    let e = told.1 in
    let there : Some (batch_entry c.in-Some.batch) ≡ batch_at s c.args.batch = rw c.in-Some.is at told.0.0.1 in
    same_part _ _ (ap (λ p. p.ward) e ∙ ap (ward_for s) there) (ap (λ p. p.candidate) e) (ap (λ p. p.candidates) e ∙ ap (candidates_for s) there) there
    (ap (λ p. p.third) e) (ap (λ p. p.own) e) (told.0.1.1 ∙ ap (keyings_for s) there) told.0.0.0 (ap (λ p. p.poll) e) (ap (λ p. p.due) e) (ap (λ p. p.elected) e))

pub returns-in_err-found : goal.returns-in_err-found
returns-in_err-found g c = loads_cut c.from_residual-in_err-found.ensures.1 c.in_ok-verdict.ensures c.in_err-found.ensures

pub returns-in_err-first : goal.returns-in_err-first
returns-in_err-first g c = loads_cut c.from_residual-in_err-first.ensures.1 (loads_both c.in_ok-verdict.ensures c.in_ok-found.ensures) c.in_err-first.ensures

pub returns-in_err-part : goal.returns-in_err-part
returns-in_err-part g c = loads_cut c.from_residual-in_err-part.ensures.1 (loads_both (loads_both c.in_ok-verdict.ensures c.in_ok-found.ensures) c.in_ok-first.ensures) c.in_err-part.ensures
