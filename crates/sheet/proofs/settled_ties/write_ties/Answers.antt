-- Proof that `write_ties` meets its contract.
use Rattle.sheet.proofs.Writing.{Writes-then, Writes-failed, Writes-front}
use Rattle.sheet.proofs.settled_ties.write_ties.Goals as goal

pub returns-in_err-write_line : goal.returns-in_err-write_line
returns-in_err-write_line g c =
    let r = c.from_residual.result in
    let failure = c.from_residual.ensures.0 in
    Writes-front _ r failure (Writes-front _ r failure (Writes-failed r failure c.in_err-write_line.ensures))

pub returns-in_err-write_ties_at_stages : goal.returns-in_err-write_ties_at_stages
returns-in_err-write_ties_at_stages g c =
    let r = c.from_residual-in_err-write_ties_at_stages.result in
    let failure = c.from_residual-in_err-write_ties_at_stages.ensures.0 in
    Writes-front _ r failure (Writes-failed r failure (Writes-then _ c.in_ok-write_line.ensures c.in_err-write_ties_at_stages.ensures))

pub returns : goal.returns
returns g c =
    Writes-then _ (Writes-then _ c.in_ok-write_line.ensures c.in_ok-write_ties_at_stages.ensures) c.write_line-2.ensures
