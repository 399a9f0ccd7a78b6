-- Proof that `load_batch_papers` meets its contract.
use Rattle.std.proofs.Common.{◌≡◌, Some, option_map, ap, ◌∙◌}
use Rattle.register.specs.Offices.{batch_entry, batch_at}
use Rattle.store.specs.Overviews.{PapersView, papers_of}
use Rattle.store.proofs.LoadsLemmas.{loads_as, loads_both, loads_cut}
use Rattle.store.proofs.storage.Store.load_batch_papers.Goals as goal

pub returns-in_ok-papers-in-Some : goal.returns-in_ok-papers-in-Some
returns-in_ok-papers-in-Some g c =
    loads_as (loads_both c.in_ok-found.ensures c.in_ok-papers-in-Some.ensures)
    (λ s is told.
    let there : Some (batch_entry c.in-Some.batch) ≡ batch_at s c.args.batch = rw c.in-Some.is at told.0 in
    ap (λ (p : PapersView). Some p) told.1 ∙ ap (option_map (papers_of s)) there)

pub returns-in_err-papers-in-Some : goal.returns-in_err-papers-in-Some
returns-in_err-papers-in-Some g c = loads_cut c.from_residual-in_err-papers-in-Some.ensures.1 c.in_ok-found.ensures c.in_err-papers-in-Some.ensures
