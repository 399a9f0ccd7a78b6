-- Proof that `write_lot_item` meets its contract.
use Rattle.sheet.proofs.Writing.{Writes-then, Writes-failed, Writes-front}
use Rattle.sheet.proofs.lots.write_lot_item.Goals as goal

pub returns-in_err-write_pieces : goal.returns-in_err-write_pieces
returns-in_err-write_pieces g c =
    let r = c.from_residual.result in
    let failure = c.from_residual.ensures.0 in
    Writes-front _ r failure (Writes-front _ r failure (Writes-failed r failure (rw c.from.ensures at c.in_err-write_pieces.ensures)))

pub returns-in_err-write_each : goal.returns-in_err-write_each
returns-in_err-write_each g c =
    let r = c.from_residual-in_err-write_each.result in
    let failure = c.from_residual-in_err-write_each.ensures.0 in
    Writes-front _ r failure (Writes-failed r failure (Writes-then _ (rw c.from.ensures at c.in_ok-write_pieces.ensures) (rw c.stages_before.ensures at c.in_err-write_each.ensures)))

pub returns : goal.returns
returns g c = Writes-then _ (Writes-then _ (rw c.from.ensures at c.in_ok-write_pieces.ensures) (rw c.stages_before.ensures at c.in_ok-write_each.ensures))
    (rw (c.settled_at.ensures, c.name_or_withdrawn.ensures) at c.write_line.ensures)
