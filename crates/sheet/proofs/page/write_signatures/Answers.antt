-- Proof that `write_signatures` meets its contract.
use Rattle.sheet.proofs.Writing.{Writes-then, Writes-failed, Writes-front}
use Rattle.sheet.proofs.page.write_signatures.Goals as goal

pub returns-in_err-write_line : goal.returns-in_err-write_line
returns-in_err-write_line g c =
    let r = c.from_residual.result in
    let failure = c.from_residual.ensures.0 in
    Writes-front _ r failure (Writes-front _ r failure (Writes-front _ r failure (Writes-failed r failure c.in_err-write_line.ensures)))

pub returns-in_err-write_elected_items : goal.returns-in_err-write_elected_items
returns-in_err-write_elected_items g c =
    let r = c.from_residual-in_err-write_elected_items.result in
    let failure = c.from_residual-in_err-write_elected_items.ensures.0 in
    Writes-front _ r failure (Writes-front _ r failure (Writes-failed r failure (Writes-then _ c.in_ok-write_line.ensures c.in_err-write_elected_items.ensures)))

pub returns-in_err-write_empty_seats : goal.returns-in_err-write_empty_seats
returns-in_err-write_empty_seats g c =
    let r = c.from_residual-in_err-write_empty_seats.result in
    let failure = c.from_residual-in_err-write_empty_seats.ensures.0 in
    Writes-front _ r failure (Writes-failed r failure (Writes-then _ (Writes-then _ c.in_ok-write_line.ensures c.in_ok-write_elected_items.ensures)
    (rw c.left_in.ensures at c.in_err-write_empty_seats.ensures)))

pub returns : goal.returns
returns g c =
    Writes-then _ (Writes-then _ (Writes-then _ c.in_ok-write_line.ensures c.in_ok-write_elected_items.ensures) (rw c.left_in.ensures at c.in_ok-write_empty_seats.ensures)) c.write_text.ensures
