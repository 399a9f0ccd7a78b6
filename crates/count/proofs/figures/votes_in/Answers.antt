-- Parts of the proof of `votes_in` that are done by hand.
use Rattle.std.proofs.Common.{◌∙◌, ℕ, ap, arith, rules, length-set, slice_index}
use Rattle.paper.specs.Columns.{IsColumn}
use Rattle.count.specs.declared.figures.Figure.{Figure}
use Rattle.count.proofs.ReadingLemmas.{figure-at, votes-more}
use Rattle.count.proofs.figures.votes_in.Goals as goal

pub loop-i-preserved : goal.loop-i-preserved
loop-i-preserved c =
    let x : ℕ = slice_index c.as_slice-c-items.result.now c.loop-i.i in
    let column : IsColumn x = search rules in
    record {
      size = length-set c.loop-i.votes c.from.result c.from_units.result ∙ c.loop-i.invariant.size;
      so_far = λ f is. votes-more f c.as_slice-c-items.result.now c.loop-i.votes c.loop-i.i c.from.result c.from_units.result c.loop-i-test.true
          (omega (arith, column.0, c.from.ensures)) (omega (arith, column.1, c.from.ensures))
          (c.from_units.ensures ∙ ap (λ (g : Figure). g.units) (figure-at f c.as_slice-c-items.result.now c.args.figures.now c.loop-i.i _ is c.loop-i-test.true)) (c.loop-i.invariant.so_far f is);
    }
