-- Proof that `has_keyed` meets its contract.
use Rattle.std.proofs.Common.{refl, ◌∙◌}
use Rattle.register.specs.Offices.{keyed_entry, entry_at}
use Rattle.store.specs.EntryRows.{row_of_keyed}
use Rattle.store.proofs.StateLemmas.{keyed_in, keyed_back}
use Rattle.store.proofs.FindLemmas.{keyed_compared, keyed_found, keyed_fits}
use Rattle.store.proofs.KeyingLemmas.{first_paper_tells}
use Rattle.store.proofs.WorkLemmas.{found_alike}
use Rattle.store.proofs.LoadsLemmas.{loads_entry, loads_as, loads_failed}
use Rattle.store.proofs.storage.Store.has_keyed.Goals as goal

pub returns : goal.returns
returns g c =
    let a = c.args in
    let e = c.in_ok-paper.ensures in
    rw (← c.self.view_is) (loads_as
    (loads_entry _ _ _ keyed_entry row_of_keyed keyed_in keyed_back (λ s. entry_at (keyed_compared a.batch a.round a.clerk 1) s.keyings)
    (λ s is. keyed_found s is a.batch a.round a.clerk 1) (λ s is. keyed_fits s is a.batch a.round a.clerk 1)
    (rw (c.number.ensures, c.number-2.ensures, c.number-3.ensures, c.number-4.ensures) at e.found)
    (rw (c.number.ensures, c.number-2.ensures, c.number-3.ensures, c.number-4.ensures) at e.cause) refl e.opens e.reads)
    (λ s is told. c.is_some.ensures ∙ found_alike keyed_entry c.in_ok-paper.paper _ told ∙ first_paper_tells s is a.batch a.round a.clerk))

pub returns-in_err-paper : goal.returns-in_err-paper
returns-in_err-paper g c =
    let a = c.args in
    let e = c.in_err-paper.ensures in
    rw (← c.self.view_is) (loads_failed c.from_residual.ensures.1
    (loads_entry _ _ _ keyed_entry row_of_keyed keyed_in keyed_back (λ s. entry_at (keyed_compared a.batch a.round a.clerk 1) s.keyings)
    (λ s is. keyed_found s is a.batch a.round a.clerk 1) (λ s is. keyed_fits s is a.batch a.round a.clerk 1)
    (rw (c.number.ensures, c.number-2.ensures, c.number-3.ensures, c.number-4.ensures) at e.found)
    (rw (c.number.ensures, c.number-2.ensures, c.number-3.ensures, c.number-4.ensures) at e.cause) refl e.opens e.reads))
