-- Proof that `lot_part` meets its contract.
use Rattle.std.proofs.Common.{ap}
use Rattle.store.proofs.PartLemmas.{same_part}
use Rattle.store.proofs.LoadsLemmas.{loads_as, loads_both, loads_cut}
use Rattle.store.proofs.storage.Store.lot_part.Goals as goal

pub returns : goal.returns
returns g c =
    loads_as (loads_both c.in_ok-part.ensures c.in_ok-candidate.ensures)
    (λ s is told. let e = told.0.0 in same_part _ _ (ap (λ p. p.ward) e) told.1 (ap (λ p. p.candidates) e) (ap (λ p. p.batch) e) (ap (λ p. p.third) e)
    (ap (λ p. p.own) e) (ap (λ p. p.keyings) e) (ap (λ p. p.verdict) e) (ap (λ p. p.poll) e) (ap (λ p. p.due) e) (ap (λ p. p.elected) e))

pub returns-in_err-candidate : goal.returns-in_err-candidate
returns-in_err-candidate g c = loads_cut c.from_residual-in_err-candidate.ensures.1 c.in_ok-part.ensures c.in_err-candidate.ensures
