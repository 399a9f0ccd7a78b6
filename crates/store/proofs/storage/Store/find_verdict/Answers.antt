-- Proof that `find_verdict` meets its contract.
use Rattle.std.proofs.Common.{refl}
use Rattle.register.specs.Offices.{judged_entry, verdict_at}
use Rattle.store.specs.EntryRows.{row_of_judged}
use Rattle.store.proofs.StateLemmas.{judged_in, judged_back}
use Rattle.store.proofs.FindLemmas.{verdict_found, verdict_fits}
use Rattle.store.proofs.LoadsLemmas.{loads_entry}
use Rattle.store.proofs.storage.Store.find_verdict.Goals as goal

pub returns : goal.returns
returns g c =
    let e = c.find_entry.ensures in
    rw (← c.self.view_is) (loads_entry _ _ _ judged_entry row_of_judged judged_in judged_back (λ s. verdict_at s c.args.batch c.args.paper)
    (λ s is. verdict_found s is c.args.batch c.args.paper) (λ s is. verdict_fits s is c.args.batch c.args.paper) (rw (c.number.ensures, c.number-2.ensures) at e.found)
    (rw (c.number.ensures, c.number-2.ensures) at e.cause) refl e.opens e.reads)
