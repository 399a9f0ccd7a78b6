-- Proof that `too_long_text` meets its contract.
use Rattle.checker.proofs.report.too_long_text.Goals as goal

pub returns : goal.returns
returns c = rw c.hint_text-hint.ensures at c.format.ensures.ok
