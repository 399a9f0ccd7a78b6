-- Proof that `write_line` meets its contract.
use Rattle.sheet.proofs.Joined.{line_joined}
use Rattle.sheet.proofs.Writing.{Writes-then, Writes-failed, Writes-front}
use Rattle.sheet.proofs.line.write_line.Goals as goal

pub returns-in_err-write_pieces : goal.returns-in_err-write_pieces
returns-in_err-write_pieces g c =
    let r = c.from_residual.result in
    let failure = c.from_residual.ensures.0 in
    rw line_joined (Writes-front _ r failure (Writes-failed r failure c.in_err-write_pieces.ensures))

pub returns : goal.returns
returns g c = rw line_joined (Writes-then _ c.in_ok-write_pieces.ensures c.write_text.ensures)
