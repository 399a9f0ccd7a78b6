-- Proof that `write_elected` meets its contract.
use Rattle.sheet.proofs.Writing.{Writes-then, Writes-failed, Writes-front}
use Rattle.sheet.proofs.elected.write_elected.Goals as goal

pub returns-in_err-write_line : goal.returns-in_err-write_line
returns-in_err-write_line g c =
    let r = c.from_residual.result in
    let failure = c.from_residual.ensures.0 in
    Writes-front _ r failure (Writes-front _ r failure (Writes-failed r failure c.in_err-write_line.ensures))

pub returns-in_err-write_elected_items : goal.returns-in_err-write_elected_items
returns-in_err-write_elected_items g c =
    let r = c.from_residual-in_err-write_elected_items.result in
    let failure = c.from_residual-in_err-write_elected_items.ensures.0 in
    Writes-front _ r failure (Writes-failed r failure (Writes-then _ c.in_ok-write_line.ensures c.in_err-write_elected_items.ensures))

pub returns : goal.returns
returns g c = Writes-then _ (Writes-then _ c.in_ok-write_line.ensures c.in_ok-write_elected_items.ensures) (rw (c.stay_empty-is_final.ensures, c.left_in.ensures) at c.write_elected_end.ensures)
