-- Proof that `requests_of` meets its contract.
use Rattle.std.proofs.Common.{rules, ◌∙◌, ◌∷◌, [], ◌++◌, length, map, sym, ap, ap₂}
use Rattle.std.proofs.lemmas.Iterator.Adapters.{YieldsList-from_vec}
use Rattle.std.proofs.lemmas.Iterator.Consumers.{YieldsList-turn}
use Rattle.std.proofs.lemmas.List.{map-append}
use Rattle.desk.specs.declared.orders.Errand.TheVariants as errand
use Rattle.desk.proofs.NoScriptLemmas.{sends_else}
use Rattle.desk.proofs.journal_check.requests_of.Goals as goal

-- one more step, whose errand is to send the request that was appended
pub loop-turn-preserved : goal.loop-turn-preserved
loop-turn-preserved c =
    let done = c.loop-turn.yielded in
    let before = c.loop-turn.requests.items in
    record {
      goes = (tt, tt);
      sent = map-append (λ t. t.errand) done (c.in-Some.turn ∷ [])
          ∙ ap₂ (λ l e. l ++ e ∷ []) c.loop-turn.invariant.sent c.in-Send.is
          ∙ sym (ap (map (λ r. errand.Send r)) c.in_ok-push-in-Send.ensures.items ∙ map-append (λ r. errand.Send r) before (c.in-Send.request ∷ []));
    }

-- a step that does something else
pub returns-in_default-clause-none : goal.returns-in_default-clause-none
returns-in_default-clause-none c =
    let road = YieldsList-from_vec c.args.turns.items (search rules) (search rules) in
    let turn = YieldsList-turn road c.loop-turn.yielded _ c.loop-turn.yielded_by _ c.next.new.self c.in-Some.turn c.in-Some.is c.next.ensures.steps in
    sends_else c.args.turns.items (length c.loop-turn.yielded) c.in-Some.turn turn.0 turn.1 c.in_default.not-Send
