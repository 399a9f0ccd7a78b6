-- Proof that `should_be_text` meets its contract.
use Rattle.checker.proofs.report.should_be_text.Goals as goal

pub returns : goal.returns
returns c = rw (c.hint_text-hint.ensures, c.in_ok-should_be.ensures) at c.format.ensures.ok
