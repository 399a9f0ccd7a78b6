-- Proof that `declared_in` meets its contract.
use Rattle.std.proofs.Common.{sym, ◌∙◌}
use Rattle.register.specs.Offices.{ward_entry}
use Rattle.store.proofs.OverviewLemmas.{candidates_found, declared_told}
use Rattle.store.proofs.LoadsLemmas.{loads_as}
use Rattle.store.proofs.storage.Store.declared_in.Goals as goal

pub returns-in-Some : goal.returns-in-Some
returns-in-Some g c =
    loads_as c.in_ok-found.ensures
    (λ s is told. λ there.
    let declared = sym c.is_declared.ensures ∙ c.if-not-is_declared.false in (
      declared_told s (ward_entry c.args.ward.now) c.in_ok-found.found c.in-Some.counted c.elected_in-elected.result c.in-Some.is told c.elected_in-elected.ensures declared there,
      candidates_found s (ward_entry c.args.ward.now) c.in_ok-found.found c.in-Some.counted c.in-Some.is told declared there,
    ))
