-- Proof that `add_in_count` meets its contract.
use Rattle.std.proofs.Common.{rules, IsSome, map, subst, ap, ◌∙◌}
use Rattle.std.specs.List.{list_all}
use Rattle.std.proofs.lemmas.Result.{IfOk-weaker}
use Rattle.register.specs.Offices.{ward_entry, candidate_entry}
use Rattle.register.specs.Elections.{IsElectionFrom, election_of}
use Rattle.register.specs.StateConditions.{is_lot}
use Rattle.register.proofs.MapLemmas.{kept_all}
use Rattle.rowcheck.specs.States.{state_of}
use Rattle.rowcheck.proofs.counts.add_in_count.Goals as goal

pub returns : goal.returns
returns c =
    let in_range = ap (list_all is_lot) c.lots_of.ensures ∙ kept_all is_lot _ (state_of c.args.rows.now).lots c.requires.in_range in
    let some = subst IsSome c.in-None.is (c.in_ok-lots.ensures.some in_range) in
    absurd (cc)

pub returns-in-Some-clause-added : goal.returns-in-Some-clause-added
returns-in-Some-clause-added c =
    let e = election_of (state_of c.args.rows.now) (ward_entry c.args.ward.now) in
    let made : IsElectionFrom e (ward_entry c.args.ward.now) (map candidate_entry c.candidates_of-candidates.result.now) c.in_ok-ballots.ballots c.deref.result.now = search rules in
    IfOk-weaker c.add_from_ballots.result _ _ (λ x added right. added e made c.requires.fair c.requires.contested right) c.add_from_ballots.ensures.added
