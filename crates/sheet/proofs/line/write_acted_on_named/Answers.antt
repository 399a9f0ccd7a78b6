-- Proof that `write_acted_on_named` meets its contract.
use Rattle.sheet.proofs.Writing.{Writes-then, Writes-failed, Writes-front}
use Rattle.sheet.proofs.line.write_acted_on_named.Goals as goal

pub returns-in_err-write_text : goal.returns-in_err-write_text
returns-in_err-write_text g c =
    let r = c.from_residual.result in
    let failure = c.from_residual.ensures.0 in
    Writes-front _ r failure (Writes-failed r failure c.in_err-write_text.ensures)

pub returns : goal.returns
returns g c = Writes-then _ c.in_ok-write_text.ensures (rw c.from.ensures at c.write_named.ensures)
