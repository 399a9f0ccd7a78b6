-- Proof that `texts_in` meets its contract.
use Rattle.std.proofs.Common.{rules, [], map, subst, sym}
use Rattle.std.specs.Prelude.{string_bytes}
use Rattle.std.proofs.lemmas.Iterator.Adapters.{YieldsList-from_vec}
use Rattle.std.proofs.lemmas.Iterator.Consumers.{YieldsList-end, YieldsList-so_far, YieldsList-turn}
use Rattle.wire.proofs.TextLemmas.{ReadsOn, ReadsOn-next, ReadsOn-none, texts_in-all, texts_in-stop}
use Rattle.wire.proofs.body.texts_in.Goals as goal

pub returns-in_default : goal.returns-in_default
returns-in_default c =
    let road = YieldsList-from_vec c.args.values.items (search rules) (search rules) in
    texts_in-stop c.args.values.items c.loop-value.yielded _ c.in-Some.value c.loop-value.invariant.read
    (YieldsList-so_far road c.loop-value.yielded _ c.loop-value.yielded_by)
    (YieldsList-turn road c.loop-value.yielded _ c.loop-value.yielded_by _ c.next.new.self c.in-Some.value c.in-Some.is c.next.ensures.steps)
    (sym c.in_default.ensures)

pub loop-value-init : goal.loop-value-init
loop-value-init c = record {
  goes = (tt, tt);
  read = subst (λ texts. ReadsOn [] (map string_bytes texts)) (sym c.in_ok-texts.ensures.items) ReadsOn-none;
}

pub loop-value-preserved : goal.loop-value-preserved
loop-value-preserved c = record {
  goes = (tt, tt);
  read = ReadsOn-next c.loop-value.yielded c.loop-value.texts.items _ c.in-Some.value c.in-Some-text_in.text c.loop-value.invariant.read c.in_ok-push.ensures.items c.in-Some-text_in.ensures;
}

pub returns : goal.returns
returns c =
    let road = YieldsList-from_vec c.args.values.items (search rules) (search rules) in
    texts_in-all c.args.values.items c.loop-value.yielded _ c.loop-value.invariant.read
    (YieldsList-end road c.loop-value.yielded _ c.loop-value.yielded_by _ c.next.new.self c.in-None.is c.next.ensures.steps).0
