-- Proof that `ward_election` meets its contract.
use Rattle.std.proofs.Common.{ℕ, Some, List, map, refl, sym, subst, ap, ◌∙◌}
use Rattle.register.specs.Offices.{ward_entry, candidate_entry}
use Rattle.register.specs.Marks.{columns_of}
use Rattle.register.specs.Polls.{piles_of, StandFor, are_bundled, ballots_in}
use Rattle.store.proofs.LoadsLemmas.{loads_as, loads_both, loads_cut}
use Rattle.store.proofs.SettledLemmas.{found_in_count}
use Rattle.store.proofs.storage.Store.ward_election.Goals as goal

pub returns : goal.returns
returns g c =
    loads_as (loads_both c.in_ok-ballots.ensures c.in_ok-lots.ensures)
    (λ s is told there.
    let ward = c.args.contest.ward in
    let columns = c.columns_of-columns.ensures.is ∙ ap columns_of (ap (map candidate_entry) c.deref-2.ensures.value ∙ there.1) in
    let counted = found_in_count s ward.number (Some (ward_entry ward)) _ _ (sym there.0) (ap (map candidate_entry) c.deref.ensures.value ∙ there.1) c.is_in_count-in_count.ensures in
    record {
      ward_is = refl;
      candidates_are = there.1;
      ballots_are = subst (λ (columns : List ℕ). StandFor are_bundled c.in_ok-ballots.ballots (ballots_in columns (piles_of s ward.number))) columns (told.0 counted);
      lots_are = told.1;
    })

pub returns-in_err-lots : goal.returns-in_err-lots
returns-in_err-lots g c = loads_cut c.from_residual-in_err-lots.ensures.1 c.in_ok-ballots.ensures c.in_err-lots.ensures
