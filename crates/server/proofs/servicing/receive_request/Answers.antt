-- Proof that `receive_request` meets its contract.
use Rattle.std.proofs.Common.{List, Ok, ap, length, subst, ℕ}
use Rattle.wire.specs.Gates.{settings_entry}
use Rattle.wire.specs.Parsing.{IsParsed}
use Rattle.server.proofs.ServicingLemmas.{come_ended, come_whole, lasts_for}
use Rattle.server.proofs.servicing.receive_request.Goals as goal

pub returns-in-Complete-clause-come : goal.returns-in-Complete-clause-come
returns-in-Complete-clause-come g c =
    let client = c.receive.new.self in
    let its = settings_entry c.args.settings in
    let parsed = c.parse-parsed in
    come_whole its (g.L.Stream.held client.stream) client.got.items parsed.result c.completeness_of.result _ (ap length c.as_slice-got.ensures.value) c.in-Complete.is c.completeness_of.ensures
    (subst (λ (xs : List ℕ). IsParsed its xs parsed.result) c.as_slice-got.ensures.value parsed.ensures.is)

pub returns-in-Ended-clause-come : goal.returns-in-Ended-clause-come
returns-in-Ended-clause-come g c =
    let client = c.receive.new.self in
    let its = settings_entry c.args.settings in
    let parsed = c.parse-parsed in
    come_ended its (g.L.Stream.held client.stream) client.got.items parsed.result (c.in_ok-received.ensures.ended (ap Ok c.in-Ended.is))
    (subst (λ (xs : List ℕ). IsParsed its xs parsed.result) c.as_slice-got.ensures.value parsed.ensures.is)

-- the body arrived, too
pub returns-then-branch-clause-come : goal.returns-then-branch-clause-come
returns-then-branch-clause-come g c =
    let client = c.receive.new.self in
    let its = settings_entry c.args.settings in
    let parsed = c.parse-parsed in
    c.in_ok-receive_body-in-Enough.ensures.come its
    (lasts_for its c.as_slice-got.result.now client.got.items parsed.result c.as_slice-got.ensures.value parsed.ensures.lasts (c.in_ok-received.ensures.enough (ap Ok c.in-Enough.is)))
    (ap Ok c.if-branch.true)
