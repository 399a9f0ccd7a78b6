-- Proof that `write_page` meets its contract.
use Rattle.sheet.proofs.Writing.{Writes-then, Writes-failed, Writes-front}
use Rattle.sheet.proofs.page.write_page.Goals as goal

pub returns-in_err-write_page_head : goal.returns-in_err-write_page_head
returns-in_err-write_page_head g c =
    let r = c.from_residual.result in
    let failure = c.from_residual.ensures.0 in
    Writes-front _ r failure (Writes-front _ r failure (Writes-front _ r failure (Writes-failed r failure c.in_err-write_page_head.ensures)))

pub returns-in_err-write_elected : goal.returns-in_err-write_elected
returns-in_err-write_elected g c =
    let r = c.from_residual-in_err-write_elected.result in
    let failure = c.from_residual-in_err-write_elected.ensures.0 in
    Writes-front _ r failure (Writes-front _ r failure (Writes-failed r failure (Writes-then _ c.in_ok-write_page_head.ensures c.in_err-write_elected.ensures)))

pub returns-in_err-write_grounds : goal.returns-in_err-write_grounds
returns-in_err-write_grounds g c =
    let r = c.from_residual-in_err-write_grounds.result in
    let failure = c.from_residual-in_err-write_grounds.ensures.0 in
    Writes-front _ r failure (Writes-failed r failure (Writes-then _ (Writes-then _ c.in_ok-write_page_head.ensures c.in_ok-write_elected.ensures) c.in_err-write_grounds.ensures))

pub returns : goal.returns
returns g c = Writes-then _ (Writes-then _ (Writes-then _ c.in_ok-write_page_head.ensures c.in_ok-write_elected.ensures) c.in_ok-write_grounds.ensures) c.write_foot.ensures
