-- Proof that `write_comments` meets its contract.
use Rattle.sheet.proofs.Writing.{Writes-then, Writes-failed, Writes-front}
use Rattle.sheet.proofs.ballots.write_comments.Goals as goal

pub returns-in_err-write_ward_comment : goal.returns-in_err-write_ward_comment
returns-in_err-write_ward_comment g c =
    let r = c.from_residual.result in
    let failure = c.from_residual.ensures.0 in
    Writes-front _ r failure (Writes-front _ r failure (Writes-failed r failure c.in_err-write_ward_comment.ensures))

pub returns-in_err-write_rejected_comment : goal.returns-in_err-write_rejected_comment
returns-in_err-write_rejected_comment g c =
    let r = c.from_residual-in_err-write_rejected_comment.result in
    let failure = c.from_residual-in_err-write_rejected_comment.ensures.0 in
    Writes-front _ r failure (Writes-failed r failure (Writes-then _ c.in_ok-write_ward_comment.ensures c.in_err-write_rejected_comment.ensures))

pub returns : goal.returns
returns g c = Writes-then _ (Writes-then _ c.in_ok-write_ward_comment.ensures c.in_ok-write_rejected_comment.ensures) c.write_lot_comments.ensures
