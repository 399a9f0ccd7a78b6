-- Proof that `write_quoted` meets its contract.
use Rattle.sheet.proofs.Quoted.{IsUtf8-escaped}
use Rattle.sheet.proofs.Writing.{Writes-then, Writes-failed, Writes-front, Writes-puts}
use Rattle.sheet.proofs.line.write_quoted.Goals as goal

pub returns-in_err-write_text : goal.returns-in_err-write_text
returns-in_err-write_text g c = Writes-front _ c.from_residual.result c.from_residual.ensures.0 (Writes-failed c.from_residual.result c.from_residual.ensures.0 c.in_err-write_text.ensures)

pub returns-in_err-put_escaped : goal.returns-in_err-put_escaped
returns-in_err-put_escaped g c =
    let r = c.from_residual-in_err-put_escaped.result in
    let failure = c.from_residual-in_err-put_escaped.ensures.0 in
    let put = rw c.as_bytes.ensures.value at c.in_err-put_escaped.ensures in
    Writes-front _ r failure (Writes-failed r failure (Writes-then _ c.in_ok-write_text.ensures (Writes-puts _ (IsUtf8-escaped c.args.text.now c.utf8.text) put)))

pub returns : goal.returns
returns g c =
    let put = rw c.as_bytes.ensures.value at c.in_ok-put_escaped.ensures in
    Writes-then _ (Writes-then _ c.in_ok-write_text.ensures (Writes-puts _ (IsUtf8-escaped c.args.text.now c.utf8.text) put)) c.write_text-2.ensures
