-- Proof that `print_report` meets its contract.
use Rattle.std.proofs.Common.{inr}
use Rattle.checker.proofs.printing.print_report.Goals as goal

pub returns-in-Err : goal.returns-in-Err
returns-in-Err g c = inr c.print_page-in-Err.ensures
