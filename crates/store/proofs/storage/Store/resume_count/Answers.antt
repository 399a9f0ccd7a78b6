-- Proof that `resume_count` meets its contract.
use Rattle.std.proofs.Common.{Some, subst, refl}
use Rattle.register.specs.Tabulated.{IsCount}
use Rattle.store.specs.Elections.{election_in}
use Rattle.store.proofs.ElectionLemmas.{stages_contested, held_found}
use Rattle.store.proofs.LoadsLemmas.{loads_as}
use Rattle.store.proofs.storage.Store.resume_count.Goals as goal

pub returns-in-Some : goal.returns-in-Some
returns-in-Some g c =
    loads_as c.in_ok-found.ensures
    (λ s is told there begun.
    let e = election_in s c.args.contest in
    let count = subst (IsCount e) c.in-Some.is (told there begun) in
    (_, refl, record { ward_is = refl; candidates_are = there.1; count_is = held_found e (Some c.in-Some.count) (stages_contested e begun) count }))
