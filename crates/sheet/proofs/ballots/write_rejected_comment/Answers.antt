-- Proof that `write_rejected_comment` meets its contract.
use Rattle.sheet.proofs.Writing.{Writes-then, Writes-failed, Writes-front}
use Rattle.sheet.proofs.ballots.write_rejected_comment.Goals as goal

pub returns-in_err-write_text : goal.returns-in_err-write_text
returns-in_err-write_text g c =
    let r = c.from_residual.result in
    let failure = c.from_residual.ensures.0 in
    rw c.in-Some.is (Writes-front _ r failure (Writes-failed r failure c.in_err-write_text.ensures))

pub returns : goal.returns
returns g c = rw c.in-Some.is (Writes-then _ c.in_ok-write_text.ensures c.write_rejected_line.ensures)
