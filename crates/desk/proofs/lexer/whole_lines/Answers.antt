-- Proof that `whole_lines` meets its contract.
use Rattle.std.proofs.Common.{arith, length-take}
use Rattle.desk.proofs.WholeLineLemmas.{all_read, byte_read, line_read, none_read}
use Rattle.desk.proofs.lexer.whole_lines.Goals.{then-text-i-eq10, else-text-i-eq10}
use Rattle.desk.proofs.lexer.whole_lines.Goals as goal

pub loop-i-init : goal.loop-i-init
loop-i-init c = none_read c.args.text.now

pub loop-i-preserved : goal.loop-i-preserved
loop-i-preserved c =
    let text = c.args.text.now in
    elim c.if-text-i-eq10.branch [
      | then-text-i-eq10 w ↦ rw w.end-is (line_read text c.loop-i.end c.loop-i.i c.loop-i-test.true w.if-text-i-eq10.true c.loop-i.invariant)
      | else-text-i-eq10 w ↦ rw w.end-is (byte_read text c.loop-i.end c.loop-i.i c.loop-i-test.true w.if-text-i-eq10.false c.loop-i.invariant)
    ]

pub slice_bounds-result-end : goal.slice_bounds-result-end
slice_bounds-result-end c = let low = c.loop-i.invariant.within in let high = c.loop-i.auto.i-end in simp length-take (omega (arith, low, high))

pub returns : goal.returns
returns c = all_read c.args.text.now c.loop-i.end c.loop-i.i (let all = c.loop-i-test.false in omega (arith, all)) c.loop-i.invariant
