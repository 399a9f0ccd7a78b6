-- Proof that `lot_text` meets its contract.
use Rattle.checker.proofs.report.lot_text.Goals as goal

pub returns : goal.returns
returns c = rw c.in_ok-tied.ensures at c.format.ensures.ok
