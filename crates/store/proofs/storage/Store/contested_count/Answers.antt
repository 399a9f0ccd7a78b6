-- Proof that `contested_count` meets its contract.
use Rattle.std.proofs.Common.{rules, ◌≡◌, ◌∙◌, Some, sym, subst, refl}
use Rattle.register.specs.declared.elections.WardSheet.{WardSheet}
use Rattle.store.specs.Elections.{election_in, IsWardCount}
use Rattle.store.proofs.ElectionLemmas.{begun_stages}
use Rattle.store.proofs.LoadsLemmas.{loads_as, loads_told}
use Rattle.store.proofs.storage.Store.contested_count.Goals as goal

pub returns-then-contest-ne0 : goal.returns-then-contest-ne0
returns-then-contest-ne0 g c =
    let some : c.args.contest.ward.done ≡ 0 → ⊥ = search rules in
    loads_told c.resume_count.ensures (λ s found told there contested. told there (begun_stages (election_in s c.args.contest) contested some))

pub returns-in-Some : goal.returns-in-Some
returns-in-Some g c =
    loads_as c.in_ok-begun.ensures
    (λ s is told there contested.
    let fresh : c.args.contest.ward.done ≡ 0 = search rules in
    let begun = told there contested fresh in
    let same : begun.0 ≡ c.in-Some.sheet = let one : Some begun.0 ≡ Some c.in-Some.sheet = sym begun.1 ∙ c.in-Some.is in cc in
    (_, refl, subst (λ (x : WardSheet). IsWardCount (election_in s c.args.contest) x.counted) same begun.2))
