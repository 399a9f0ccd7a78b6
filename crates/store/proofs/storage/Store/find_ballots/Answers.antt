-- Proof that `find_ballots` meets its contract.
use Rattle.std.proofs.Common.{ℕ, List, map, subst, ap, ◌∙◌}
use Rattle.register.specs.Offices.{candidate_entry}
use Rattle.register.specs.Marks.{columns_of}
use Rattle.register.specs.Polls.{piles_of, StandFor, ballots_in}
use Rattle.store.proofs.LoadsLemmas.{loads_as, loads_both, loads_cut}
use Rattle.store.proofs.SettledLemmas.{found_in_count}
use Rattle.store.proofs.storage.Store.find_ballots.Goals as goal

pub returns : goal.returns
returns g c =
    loads_as (loads_both (loads_both c.in_ok-found.ensures c.in_ok-candidates.ensures) c.in_ok-ballots.ensures)
    (λ s is told.
    let columns = c.columns_of-columns.ensures.is ∙ ap columns_of (ap (map candidate_entry) c.deref-2.ensures.value ∙ told.0.1) in
    let counted = found_in_count s c.args.ward _ _ _ told.0.0 (ap (map candidate_entry) c.deref.ensures.value ∙ told.0.1) c.is_found_in_count-in_count.ensures in
    subst (λ (columns : List ℕ). StandFor g.P.KeepsPapers.holds c.in_ok-ballots.ballots (ballots_in columns (piles_of s c.args.ward))) columns (told.1 counted))

pub returns-in_err-candidates : goal.returns-in_err-candidates
returns-in_err-candidates g c = loads_cut c.from_residual-in_err-candidates.ensures.1 c.in_ok-found.ensures c.in_err-candidates.ensures

pub returns-in_err-ballots : goal.returns-in_err-ballots
returns-in_err-ballots g c = loads_cut c.from_residual-in_err-ballots.ensures.1 (loads_both c.in_ok-found.ensures c.in_ok-candidates.ensures) c.in_err-ballots.ensures
