-- Parts of the proof of `preferred` that are done by hand.
use Rattle.std.proofs.Common.{◌+◌, ◌≤◌, sym, ◌∙◌, inl, inr, arith, length-set}
use Rattle.paper.specs.Columns.{max_candidates}
use Rattle.paper.proofs.Fields.{zeros-less}
use Rattle.paper.proofs.Preferences.{preferred-more, preferred-done, done-Nobody, done-Several, done-all}
use Rattle.paper.proofs.validity.preferred.Goals as goal

pub returns-in-Nobody : goal.returns-in-Nobody
returns-in-Nobody c = λ m are.
    let within : c.loop-place.place + 1 ≤ max_candidates = omega (arith, c.loop-place-test.true) in
    preferred-done m c.loop-place.numbers c.loop-place.place (c.loop-place.invariant.whole m are) c.loop-place.invariant.zeros c.loop-place.invariant.size c.loop-place.auto.place-end
    (elim c.in-Nobody.is [
      | inl nobody ↦ done-Nobody m c.loop-place.place c.loop-place-test.true (sym nobody ∙ are (c.loop-place.place + 1) within)
      | inr several ↦ done-Several m c.loop-place.place c.loop-place-test.true (sym several ∙ are (c.loop-place.place + 1) within)
    ])

pub loop-place-preserved : goal.loop-place-preserved
loop-place-preserved c =
    let within : c.loop-place.place + 1 ≤ max_candidates = omega (arith, c.loop-place-test.true) in
    record {
      whole = λ m are. preferred-more m c.loop-place.numbers c.loop-place.place c.in-One.c (c.loop-place.invariant.whole m are) c.loop-place-test.true c.loop-place.invariant.size
          (sym c.in-One.is ∙ are (c.loop-place.place + 1) within);
      zeros = zeros-less c.loop-place.numbers c.loop-place.place c.in-One.c c.loop-place.invariant.zeros;
      size = length-set c.loop-place.numbers c.loop-place.place c.in-One.c ∙ c.loop-place.invariant.size;
    }

pub returns : goal.returns
returns c = λ m are.
    preferred-done m c.loop-place.numbers c.loop-place.place (c.loop-place.invariant.whole m are) c.loop-place.invariant.zeros c.loop-place.invariant.size c.loop-place.auto.place-end
    (done-all m c.loop-place.place (omega (arith, c.loop-place.auto.place-end, c.loop-place-test.false)))
