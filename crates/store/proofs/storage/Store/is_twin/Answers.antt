-- Proof that `is_twin` meets its contract.
use Rattle.std.proofs.Common.{sym, ◌∙◌}
use Rattle.store.proofs.TwinLemmas.{no_twin, twin_told}
use Rattle.store.proofs.LoadsLemmas.{loads_none, loads_as}
use Rattle.store.proofs.storage.Store.is_twin.Goals as goal

pub returns-then-not-may_be_twin : goal.returns-then-not-may_be_twin
returns-then-not-may_be_twin g c =
    loads_none c.requires (λ s is. λ own taken others. sym (no_twin s c.args.one.now c.args.other.now own taken others (sym c.may_be_twin.ensures ∙ c.if-not-may_be_twin.true)))

pub returns : goal.returns
returns g c =
    loads_as c.in_ok-same.ensures (λ s is told. λ own taken others. twin_told s c.args.one.now c.args.other.now own taken others (sym c.may_be_twin.ensures ∙ c.if-not-may_be_twin.false)
    c.in_ok-same.same told)
