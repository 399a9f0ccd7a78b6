-- Proof that `list_between` meets its contract.
use Rattle.store.proofs.RunLemmas.{loads_there}
use Rattle.store.proofs.storage.Store.list_between.Goals as goal

pub returns : goal.returns
returns g c =
    let e = c.entries_between.ensures in
    rw (← c.self.view_is) (loads_there (λ found. found.items) e.are e.cause e.opens e.reads)
