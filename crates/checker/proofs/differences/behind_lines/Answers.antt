-- Proof that `behind_lines` meets its contract.
use Rattle.std.proofs.Common.{◌∙◌, sym, arith}
use Rattle.std.proofs.lemmas.List.{at_drop_all}
use Rattle.checker.specs.Differences.{behind_lines}
use Rattle.checker.proofs.DifferenceLemmas.{byte_passed, line_passed, none_behind}
use Rattle.checker.proofs.differences.behind_lines.Goals as goal

pub loop-i-preserved-then-text-i-ne10 : goal.loop-i-preserved-then-text-i-ne10
loop-i-preserved-then-text-i-ne10 c =
    sym (byte_passed c.loop-i.left c.args.text.now c.loop-i.i c.if-left-eq0.false c.loop-i-test.true c.if-text-i-ne10.true) ∙ c.loop-i.invariant

pub loop-i-preserved : goal.loop-i-preserved
loop-i-preserved c =
    sym (line_passed c.loop-i.left c.args.text.now c.loop-i.i c.if-left-eq0.false c.loop-i-test.true c.if-text-i-ne10.false) ∙ c.loop-i.invariant

pub returns : goal.returns
returns c =
    sym (none_behind c.loop-i.left) ∙ (sym (at_drop_all (behind_lines c.loop-i.left) c.args.text.now c.loop-i.i (omega arith)) ∙ c.loop-i.invariant)
