-- Proof that `write_index_row` meets its contract.
use Rattle.sheet.proofs.Writing.{Writes-then, Writes-failed, Writes-front}
use Rattle.sheet.proofs.index.write_index_row.Goals as goal

pub returns-in_err-write_row_opening : goal.returns-in_err-write_row_opening
returns-in_err-write_row_opening g c =
    let r = c.from_residual.result in
    let failure = c.from_residual.ensures.0 in
    Writes-front _ r failure (Writes-front _ r failure (Writes-front _ r failure (Writes-failed r failure c.in_err-write_row_opening.ensures)))

pub returns-in_err-write_elected_names : goal.returns-in_err-write_elected_names
returns-in_err-write_elected_names g c =
    let r = c.from_residual-in_err-write_elected_names.result in
    let failure = c.from_residual-in_err-write_elected_names.ensures.0 in
    Writes-front _ r failure (Writes-front _ r failure (Writes-failed r failure (Writes-then _ c.in_ok-write_row_opening.ensures (rw c.deref.ensures.value at c.in_err-write_elected_names.ensures))))

pub returns-in_err-write_empty_seats : goal.returns-in_err-write_empty_seats
returns-in_err-write_empty_seats g c =
    let r = c.from_residual-in_err-write_empty_seats.result in
    let failure = c.from_residual-in_err-write_empty_seats.ensures.0 in
    Writes-front _ r failure (Writes-failed r failure (Writes-then _ (Writes-then _ c.in_ok-write_row_opening.ensures (rw c.deref.ensures.value at c.in_ok-write_elected_names.ensures))
    (rw c.empty_in.ensures at c.in_err-write_empty_seats.ensures)))

pub returns : goal.returns
returns g c =
    Writes-then _ (Writes-then _ (Writes-then _ c.in_ok-write_row_opening.ensures (rw c.deref.ensures.value at c.in_ok-write_elected_names.ensures))
    (rw c.empty_in.ensures at c.in_ok-write_empty_seats.ensures)) c.write_line.ensures
