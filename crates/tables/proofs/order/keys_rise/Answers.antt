-- Proof that `keys_rise` meets its contract.
use Rattle.std.proofs.Common.{◌≡◌, false, not, ◌==◌, sym, ap, ◌∙◌, true≢false, arith}
use Rattle.std.specs.Ordering.{ordering_index}
use Rattle.tables.proofs.OrderLemmas.{rise_all, fails_there}
use Rattle.tables.proofs.order.keys_rise.Goals as goal

pub returns-then-ne-clause-fall : goal.returns-then-ne-clause-fall
returns-then-ne-clause-fall c _ =
    fails_there c.args.table c.args.rows.now c.loop-i.i c.index-rows-i.result c.index-rows-i-in-loop-i.result (omega arith) (omega arith) c.index-rows-i.is c.index-rows-i-in-loop-i.is
    (λ less. let e : c.ne.result ≡ false = c.ne.ensures ∙ ap (λ o. not (ordering_index o == 0)) (c.key_order.ensures ∙ less) in true≢false (sym c.if-ne.true ∙ e))

pub returns-clause-rise : goal.returns-clause-rise
returns-clause-rise c _ = rise_all c.args.table c.args.rows.now (λ k low. c.loop-i.invariant k (omega (arith, low)))
