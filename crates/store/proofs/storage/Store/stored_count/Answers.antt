-- Proof that `stored_count` meets its contract.
use Rattle.std.proofs.Common.{◌≡◌, Some, None, refl, sym, subst, ◌∙◌}
use Rattle.register.specs.Elections.{contest_of, stages_of}
use Rattle.count.specs.StoredCounts.{StoredCountEntry, IsStoredCountOf}
use Rattle.store.specs.Elections.{election_in}
use Rattle.store.proofs.LoadsLemmas.{loads_as, loads_both, loads_cut}
use Rattle.store.proofs.storage.Store.stored_count.Goals as goal

pub returns-in-Some : goal.returns-in-Some
returns-in-Some g c =
    loads_as (loads_both c.in_ok-found.ensures c.in_ok-lots.ensures)
    (λ s is told there begun.
    let e = election_in s c.args.contest.now in
    let kept = told.0 there begun in
    let same : kept.0 ≡ c.in-Some.kept = let is : Some kept.0 ≡ Some c.in-Some.kept = sym kept.1 ∙ c.in-Some.is in cc in
    (_, refl, record { kept_is = subst (λ (k : StoredCountEntry). IsStoredCountOf (contest_of e) (stages_of e) k) same kept.2; lots_are = told.1 }))

pub returns-in-None : goal.returns-in-None
returns-in-None g c =
    loads_as (loads_both c.in_ok-found.ensures c.in_ok-lots.ensures)
    (λ s is told there begun.
    let kept = told.0 there begun in
    absurd (let is : Some kept.0 ≡ None = sym kept.1 ∙ c.in-None.is in cc))

pub returns-in_err-lots : goal.returns-in_err-lots
returns-in_err-lots g c = loads_cut c.from_residual-in_err-lots.ensures.1 c.in_ok-found.ensures c.in_err-lots.ensures
