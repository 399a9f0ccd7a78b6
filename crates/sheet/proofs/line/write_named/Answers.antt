-- Proof that `write_named` meets its contract.
use Rattle.sheet.proofs.Writing.{Writes-then, Writes-failed, Writes-front}
use Rattle.sheet.proofs.line.write_named.Goals as goal

pub returns-in_err-write_any_number : goal.returns-in_err-write_any_number
returns-in_err-write_any_number g c =
    let r = c.from_residual.result in
    let failure = c.from_residual.ensures.0 in
    Writes-front _ r failure (Writes-front _ r failure (Writes-front _ r failure (Writes-failed r failure c.in_err-write_any_number.ensures)))

pub returns-in_err-write_text : goal.returns-in_err-write_text
returns-in_err-write_text g c =
    let r = c.from_residual-in_err-write_text.result in
    let failure = c.from_residual-in_err-write_text.ensures.0 in
    Writes-front _ r failure (Writes-front _ r failure (Writes-failed r failure (Writes-then _ c.in_ok-write_any_number.ensures c.in_err-write_text.ensures)))

pub returns-in_err-write_escaped : goal.returns-in_err-write_escaped
returns-in_err-write_escaped g c =
    let r = c.from_residual-in_err-write_escaped.result in
    let failure = c.from_residual-in_err-write_escaped.ensures.0 in
    Writes-front _ r failure (Writes-failed r failure (Writes-then _ (Writes-then _ c.in_ok-write_any_number.ensures c.in_ok-write_text.ensures) c.in_err-write_escaped.ensures))

pub returns : goal.returns
returns g c = Writes-then _ (Writes-then _ (Writes-then _ c.in_ok-write_any_number.ensures c.in_ok-write_text.ensures) c.in_ok-write_escaped.ensures) c.write_text-2.ensures
