-- Why `draw_letters` keeps its promise.
use Rattle.std.proofs.Common.{◌∙◌, ◌+◌, ◌<◌, ◌≤◌, arith, length}
use Rattle.codes.proofs.DrawingLemmas.{draw_grows, drawing_next}
use Rattle.codes.proofs.random_letters.draw_letters.Goals as goal

pub loop-letters-preserved : goal.loop-letters-preserved
loop-letters-preserved g c =
    let some : 0 < c.loop-letters.left = omega (arith, c.if-left-eq0.false) in
    let grows : length c.draw_letter.new.letters.items ≤ length c.loop-letters.letters.items + 1 = draw_grows _ _ _ _ c.in_ok-draw_letter.ensures.ok in
    record {
      drawing = drawing_next _ _ _ _ _ _ _ c.loop-letters.invariant.drawing c.in_ok-draw_letter.ensures.ok some;
      failed = c.in_ok-draw_letter.ensures.failed ∙ c.loop-letters.invariant.failed;
      bound = omega (arith, grows, c.loop-letters-test.true);
    }
