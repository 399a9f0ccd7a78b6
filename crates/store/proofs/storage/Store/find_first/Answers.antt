-- Proof that `find_first` meets its contract.
use Rattle.std.proofs.Common.{refl}
use Rattle.store.proofs.RunLemmas.{loads_any}
use Rattle.store.proofs.storage.Store.find_first.Goals as goal

pub returns : goal.returns
returns g c =
    let e = c.find_rowid.ensures in
    rw (← c.self.view_is) (loads_any (λ clean contents at. (rw (c.number.ensures, c.number-2.ensures, c.number-3.ensures, c.number-4.ensures) at e.fails) clean refl contents at refl) e.opens e.reads)
