-- Proof that `find_election` meets its contract.
use Rattle.std.proofs.Common.{Option, Some, option_map, sym, subst}
use Rattle.register.specs.Offices.{WardEntry}
use Rattle.register.specs.Elections.{election_of}
use Rattle.store.specs.Elections.{IsContestAt, IsFoundFor}
use Rattle.store.proofs.LoadsLemmas.{loads_as, loads_both, loads_cut}
use Rattle.store.proofs.storage.Store.find_election.Goals as goal

pub returns-in_ok-election-in-Some : goal.returns-in_ok-election-in-Some
returns-in_ok-election-in-Some g c =
    loads_as (loads_both c.in_ok-found.ensures c.in_ok-election-in-Some.ensures)
    (λ s is told.
    let it : IsContestAt s c.args.ward (Some c.in-Some.contest) = rw c.in-Some.is at told.0 in
    subst (λ (o : Option WardEntry). IsFoundFor (Some c.in_ok-election-in-Some.election) (option_map (election_of s) o)) (sym it.0) (told.1 it.1))

pub returns-in_err-election-in-Some : goal.returns-in_err-election-in-Some
returns-in_err-election-in-Some g c = loads_cut c.from_residual-in_err-election-in-Some.ensures.1 c.in_ok-found.ensures c.in_err-election-in-Some.ensures
