-- Why `deliver` keeps its promise.
use Rattle.std.proofs.Common.{◌∙◌, ap, drop, rules}
use Rattle.std.proofs.lemmas.List.{take_rest}
use Rattle.connections.proofs.StreamLemmas.{delivers_next, not_idle}
use Rattle.connections.proofs.client.deliver.Goals as goal

pub loop-answer-preserved : goal.loop-answer-preserved
loop-answer-preserved g c = record {
  same = c.loop-answer.invariant.same;
  delivers = delivers_next _ _ _ _ _ _ c.loop-answer.answer.sent c.in_ok-count.count _ c.loop-answer.invariant.delivers
      (take_rest c.deref.result.now c.loop-answer.answer.sent ∙ ap (drop c.loop-answer.answer.sent) (c.deref.ensures.value ∙ c.loop-answer.invariant.same))
      c.in_ok-count.ensures.takes.0 c.in_ok-count.ensures.takes.1 c.in_ok-count.ensures.unheard;
  failed = c.in_ok-count.ensures.failed ∙ c.loop-answer.invariant.failed;
  idle = c.in_ok-count.ensures.idle ∙ not_idle c.in_ok-count.count (g.L.Stream.idle c.loop-answer.stream) (λ is. search rules) ∙ c.loop-answer.invariant.idle;
}
