-- Proof that `write_index` meets its contract.
use Rattle.sheet.proofs.Writing.{Writes-then, Writes-failed, Writes-front}
use Rattle.sheet.proofs.index.write_index.Goals as goal

pub returns-in_err-write_index_opening : goal.returns-in_err-write_index_opening
returns-in_err-write_index_opening g c =
    let r = c.from_residual.result in
    let failure = c.from_residual.ensures.0 in
    Writes-front _ r failure (Writes-front _ r failure (Writes-front _ r failure (Writes-front _ r failure (Writes-failed r failure c.in_err-write_index_opening.ensures))))

pub returns-in_err-write_title : goal.returns-in_err-write_title
returns-in_err-write_title g c =
    let r = c.from_residual-in_err-write_title.result in
    let failure = c.from_residual-in_err-write_title.ensures.0 in
    Writes-front _ r failure (Writes-front _ r failure (Writes-front _ r failure (Writes-failed r failure (Writes-then _ c.in_ok-write_index_opening.ensures c.in_err-write_title.ensures))))

pub returns-in_err-write_index_heads : goal.returns-in_err-write_index_heads
returns-in_err-write_index_heads g c =
    let r = c.from_residual-in_err-write_index_heads.result in
    let failure = c.from_residual-in_err-write_index_heads.ensures.0 in
    Writes-front _ r failure (Writes-front _ r failure (Writes-failed r failure
    (Writes-then _ (Writes-then _ c.in_ok-write_index_opening.ensures c.in_ok-write_title.ensures) c.in_err-write_index_heads.ensures)))

pub returns-in_err-write_index_rows : goal.returns-in_err-write_index_rows
returns-in_err-write_index_rows g c =
    let r = c.from_residual-in_err-write_index_rows.result in
    let failure = c.from_residual-in_err-write_index_rows.ensures.0 in
    Writes-front _ r failure (Writes-failed r failure (Writes-then _
    (Writes-then _ (Writes-then _ c.in_ok-write_index_opening.ensures c.in_ok-write_title.ensures) c.in_ok-write_index_heads.ensures) c.in_err-write_index_rows.ensures))

pub returns : goal.returns
returns g c = Writes-then _ (Writes-then _ (Writes-then _ (Writes-then _ c.in_ok-write_index_opening.ensures c.in_ok-write_title.ensures) c.in_ok-write_index_heads.ensures)
    c.in_ok-write_index_rows.ensures) c.write_text.ensures
