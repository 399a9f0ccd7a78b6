-- Proof that `find_part` meets its contract.
use Rattle.std.proofs.Common.{rules, ◌≡◌}
use Rattle.register.specs.declared.counts.CountCommand.TheVariants.{Advance}
use Rattle.store.proofs.ElectionLemmas.{shown_for}
use Rattle.store.proofs.LoadsLemmas.{loads_told}
use Rattle.store.proofs.storage.Store.find_part.Goals as goal

pub returns-in-Count-Advance : goal.returns-in-Count-Advance
returns-in-Count-Advance g c =
    let advance : c.in-Count-Advance.field-0 ≡ Advance c.in-Count-Advance.ward = search rules in
    rw (c.in-Count-Advance.is, advance) (loads_told c.count_part.ensures (λ s part told. (told.0, shown_for s _ part.count told.1)))
