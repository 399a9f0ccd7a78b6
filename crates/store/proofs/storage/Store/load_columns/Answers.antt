-- Proof that `load_columns` meets its contract.
use Rattle.std.proofs.Common.{◌≡◌, ℕ, List, map, Some, option_map, ap, ◌∙◌}
use Rattle.register.specs.Offices.{BatchEntry, candidate_entry, batch_entry, batch_at, candidates_of}
use Rattle.register.specs.Marks.{columns_of}
use Rattle.store.proofs.LoadsLemmas.{loads_as, loads_both, loads_cut}
use Rattle.store.proofs.storage.Store.load_columns.Goals as goal

pub returns-in_ok-candidates-in-Some : goal.returns-in_ok-candidates-in-Some
returns-in_ok-candidates-in-Some g c =
    loads_as (loads_both c.in_ok-found.ensures c.in_ok-candidates-in-Some.ensures)
    (λ s is told.
    let there : Some (batch_entry c.in-Some.batch) ≡ batch_at s c.args.batch = rw c.in-Some.is at told.0 in
    let candidates = ap (map candidate_entry) c.deref.ensures.value ∙ told.1 in
    ap (λ (columns : List ℕ). Some columns) (c.columns_of.ensures.is ∙ ap columns_of candidates) ∙ ap (option_map (λ (b : BatchEntry). columns_of (candidates_of s b.ward))) there)

pub returns-in_err-candidates-in-Some : goal.returns-in_err-candidates-in-Some
returns-in_err-candidates-in-Some g c = loads_cut c.from_residual-in_err-candidates-in-Some.ensures.1 c.in_ok-found.ensures c.in_err-candidates-in-Some.ensures
