-- Proof that `write_action_named` meets its contract.
use Rattle.std.proofs.Common.{codes}
use Rattle.sheet.proofs.Writing.{Writes-then, Writes-failed, Writes-front}
use Rattle.sheet.proofs.line.write_action_named.Goals as goal

pub returns-in_err-write_acted_on_named-in-ExcludeLast : goal.returns-in_err-write_acted_on_named-in-ExcludeLast
returns-in_err-write_acted_on_named-in-ExcludeLast g c =
    let r = c.from_residual.result in
    let failure = c.from_residual.ensures.0 in
    rw c.in-ExcludeLast.is (Writes-front (codes ", last vacancies") r failure (Writes-failed r failure c.in_err-write_acted_on_named-in-ExcludeLast.ensures))

pub returns-in_ok-write_acted_on_named-in-ExcludeLast : goal.returns-in_ok-write_acted_on_named-in-ExcludeLast
returns-in_ok-write_acted_on_named-in-ExcludeLast g c = rw c.in-ExcludeLast.is (Writes-then _ c.in_ok-write_acted_on_named-in-ExcludeLast.ensures c.write_text-in-ExcludeLast.ensures)
