-- Proof that `unescaped` meets its contract.
use Rattle.std.proofs.Common.{◌∙◌, ◌++◌, ap, sym}
use Rattle.checker.proofs.IndexPlaces.{unescaped_pass_at}
use Rattle.checker.proofs.folder_index.unescaped.Goals as goal

pub loop-i-preserved-then-passed-gt0 : goal.loop-i-preserved-then-passed-gt0
loop-i-preserved-then-passed-gt0 c =
    ap (λ rest. c.loop-i.bytes.items ++ rest) (sym (unescaped_pass_at c.loop-i.passed c.loop-i.i c.args.text.now c.loop-i-test.true c.if-passed-gt0.true)) ∙ c.loop-i.invariant
