-- Proof that `load_lots` meets its contract.
use Rattle.std.proofs.Common.{◌≡◌, ◌==◌, map, true, refl, sym, ap, ◌∙◌, true≢false}
use Rattle.std.specs.List.{list_all}
use Rattle.register.specs.Offices.{lot_entry}
use Rattle.register.specs.StateConditions.{is_lot}
use Rattle.register.proofs.MapLemmas.{kept_all}
use Rattle.store.proofs.FitLemmas.{lots_in_range}
use Rattle.tables.specs.declared.fault.Fault.TheVariants.{Store}
use Rattle.store.proofs.LoadsLemmas.{loads_stopped}
use Rattle.store.proofs.storage.Store.load_lots.Goals as goal

pub returns-in-Ok-None : goal.returns-in-Ok-None
returns-in-Ok-None g c =
    loads_stopped {f = Store} refl c.in_ok-lots.ensures
    (λ s is found.
    let fit : list_all is_lot (map lot_entry c.in_ok-lots.lots.items) ≡ true = ap (list_all is_lot) found ∙ kept_all is_lot (λ l. l.ward == c.args.ward) s.lots (lots_in_range s is) in
    absurd (true≢false (sym ((rw (c.deref.ensures.value, c.in-Ok-None.field-0-is) at c.in-Ok-None.ensures.some) fit))))
