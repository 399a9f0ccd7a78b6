-- Proof that `clerks_are_answered_as_seen` meets its contract.
use Rattle.sqlite.specs.Held.{state}
use Rattle.register.specs.Machine.{after}
use Rattle.register.specs.Offices.{empty_office}
use Rattle.register.specs.Seen.{seen_by}
use Rattle.server.proofs.AlikeLemmas.{answered_alike}
use Rattle.server.proofs.BlindLemmas.{all_seen, under_no_order}
use Rattle.server.proofs.blind.clerks_are_answered_as_seen.Goals as goal

pub returns-clause-own : goal.returns-clause-own
returns-clause-own g c settings s exchanges answered last is in_turn clerk its =
    let blind = c.clerks_are_blind.ensures in
    all_seen blind.itself blind.alike blind.seen clerk its (state g.S.Store) settings c.lists_make_states.ensures.from_state s exchanges answered last is in_turn

pub returns-clause-kept : goal.returns-clause-kept
returns-clause-kept g c settings earlier exchanges closed held kept clerk its =
    let blind = c.clerks_are_blind.ensures in
    let states = c.lists_make_states.ensures in
    all_seen blind.itself blind.alike blind.seen clerk its (state g.S.Store) settings states.from_state (after empty_office earlier) exchanges kept.answered kept.last
    (states.from_empty earlier) kept.in_turn

pub returns-clause-alike : goal.returns-clause-alike
returns-clause-alike g c settings clerk s t exchanges others own same answered last told next its is is_too alike in_turn in_turn_too clients clients_too are are_too bytes =
    let blind = c.clerks_are_blind.ensures in
    let seen = all_seen blind.itself blind.alike blind.seen clerk its (state g.S.Store) settings c.lists_make_states.ensures.from_state in
    answered_alike settings (state g.S.Store) clerk (seen_by clerk s) (seen_by clerk t) exchanges others own same alike (seen s exchanges answered last is in_turn)
    (seen t others told next is_too in_turn_too) clients clients_too are are_too bytes

pub returns-clause-apart : goal.returns-clause-apart
returns-clause-apart g c = under_no_order
