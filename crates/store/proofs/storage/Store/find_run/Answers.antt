-- Proof that `find_run` meets its contract.
use Rattle.std.proofs.Common.{◌≡◌, Some, sym, ◌∙◌}
use Rattle.register.specs.Offices.{batch_entry, batch_at}
use Rattle.store.proofs.LoadsLemmas.{loads_as, loads_both, loads_cut}
use Rattle.store.proofs.RunLemmas.{seen_keying}
use Rattle.store.proofs.storage.Store.find_run.Goals as goal

pub returns : goal.returns
returns g c =
    let a = c.args in
    loads_as (loads_both c.in_ok-found.ensures c.in_ok-papers.ensures)
    (λ s is told.
    let there : Some (batch_entry c.in-Some.given) ≡ batch_at s c.args.batch = rw c.in-Some.is at told.0 in
    seen_keying s is a.batch a.round a.clerk (batch_entry c.in-Some.given) (sym there) c.in_ok-papers.papers.items told.1
    (rw c.deref.ensures.value at (sym c.is_keying.ensures ∙ c.if-not-is_keying.false)))

pub returns-in_err-papers : goal.returns-in_err-papers
returns-in_err-papers g c = loads_cut c.from_residual-in_err-papers.ensures.1 c.in_ok-found.ensures c.in_err-papers.ensures
