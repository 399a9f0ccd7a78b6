-- Proof that `write_page_head` meets its contract.
use Rattle.sheet.proofs.Writing.{Writes-then, Writes-failed, Writes-front}
use Rattle.sheet.proofs.page.write_page_head.Goals as goal

pub returns-in_err-write_opening : goal.returns-in_err-write_opening
returns-in_err-write_opening g c =
    let r = c.from_residual.result in
    let failure = c.from_residual.ensures.0 in
    Writes-front _ r failure (Writes-front _ r failure (Writes-failed r failure c.in_err-write_opening.ensures))

pub returns-in_err-write_title : goal.returns-in_err-write_title
returns-in_err-write_title g c =
    let r = c.from_residual-in_err-write_title.result in
    let failure = c.from_residual-in_err-write_title.ensures.0 in
    Writes-front _ r failure (Writes-failed r failure (Writes-then _ c.in_ok-write_opening.ensures c.in_err-write_title.ensures))

pub returns : goal.returns
returns g c = Writes-then _ (Writes-then _ c.in_ok-write_opening.ensures c.in_ok-write_title.ensures) c.write_ward_heading.ensures
