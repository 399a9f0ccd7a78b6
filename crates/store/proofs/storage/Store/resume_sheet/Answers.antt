-- Proof that `resume_sheet` meets its contract.
use Rattle.std.proofs.Common.{◌≡◌, ◌∙◌, ℕ, List, map, ap, sym, subst, Some, None}
use Rattle.register.specs.Offices.{ward_entry, candidate_entry}
use Rattle.register.specs.Marks.{columns_of}
use Rattle.register.specs.Polls.{piles_of, ballots_in}
use Rattle.register.specs.declared.elections.CountedWard.{CountedWard}
use Rattle.store.specs.Elections.{election_in, IsWardCount}
use Rattle.store.proofs.ElectionLemmas.{in_count_contested, begun_stages, sheet_of}
use Rattle.store.proofs.LoadsLemmas.{loads_as, loads_both, loads_cut}
use Rattle.store.proofs.storage.Store.resume_sheet.Goals as goal

pub returns-in-Some : goal.returns-in-Some
returns-in-Some g c =
    loads_as (loads_both c.in_ok-rejected.ensures c.in_ok-found.ensures)
    (λ s is told there counted some.
    let w = ward_entry c.args.contest.ward in
    let e = election_in s c.args.contest in
    let found = told.1 there (begun_stages e (in_count_contested e counted) some) in
    let same : found.0 ≡ c.in-Some.counted = let one : Some found.0 ≡ Some c.in-Some.counted = sym found.1 ∙ c.in-Some.is in cc in
    let columns = c.columns_of-columns.ensures.is ∙ ap columns_of (ap (map candidate_entry) c.deref.ensures.value ∙ there.1) in
    let rejected = told.0 (w, there.0, counted) ∙ ap (λ (columns : List ℕ). (ballots_in columns (piles_of s w.number)).rejected) columns in
    sheet_of e _ counted (subst (λ (x : CountedWard). IsWardCount e x) same found.2) rejected)

pub returns-in-None : goal.returns-in-None
returns-in-None g c =
    loads_as (loads_both c.in_ok-rejected.ensures c.in_ok-found.ensures)
    (λ s is told there counted some.
    let e = election_in s c.args.contest in
    let found = told.1 there (begun_stages e (in_count_contested e counted) some) in
    absurd (let none : Some found.0 ≡ None = sym found.1 ∙ c.in-None.is in cc))

pub returns-in_err-found : goal.returns-in_err-found
returns-in_err-found g c = loads_cut c.from_residual-in_err-found.ensures.1 c.in_ok-rejected.ensures c.in_err-found.ensures
