-- Proof that `ward_ballots` meets its contract.
use Rattle.std.proofs.Common.{List, map, subst, ap, ◌∙◌}
use Rattle.register.specs.Offices.{BatchEntry}
use Rattle.register.specs.Polls.{BallotsEntry, pile_of, StandFor, settled_judgements, ballots_by, ballots_in}
use Rattle.store.proofs.LoadsLemmas.{loads_as, loads_both, loads_cut}
use Rattle.store.proofs.SettledLemmas.{counted_alone}
use Rattle.store.proofs.storage.Store.ward_ballots.Goals as goal

pub returns : goal.returns
returns g c =
    loads_as (loads_both c.in_ok-batches.ensures (rw c.deref-2.ensures.value at c.in_ok-ballots.ensures))
    (λ s is told counted. subst (λ (bs : List BatchEntry). StandFor g.P.KeepsPapers.holds c.in_ok-ballots.ballots (ballots_in c.args.columns (map (pile_of s) bs))) told.0 told.1)

pub returns-in_err-ballots : goal.returns-in_err-ballots
returns-in_err-ballots g c = loads_cut c.from_residual-in_err-ballots.ensures.1 c.in_ok-batches.ensures c.in_err-ballots.ensures

pub returns-then-in_count : goal.returns-then-in_count
returns-then-in_count g c =
    loads_as (loads_both c.in_ok-batches.ensures (rw c.deref.ensures.value at c.in_ok-settled.ensures))
    (λ s is told counted.
    subst (λ (entry : BallotsEntry). StandFor g.P.KeepsPapers.holds c.in_ok-settled.settled entry)
    (ap (λ (bs : List BatchEntry). ballots_by (settled_judgements s c.args.columns bs)) told.0 ∙ counted_alone c.settled_papers_suffice.ensures s is c.args.ward c.args.columns
    (counted c.if-in_count.true)) told.1)

pub returns-in_err-settled : goal.returns-in_err-settled
returns-in_err-settled g c = loads_cut c.from_residual-in_err-settled.ensures.1 c.in_ok-batches.ensures c.in_err-settled.ensures
