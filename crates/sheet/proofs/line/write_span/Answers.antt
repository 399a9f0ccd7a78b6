-- Proof that `write_span` meets its contract.
use Rattle.std.specs.Prelude.{codes, decimal}
use Rattle.std.proofs.Common.{◌≡◌, ◌==◌, true, false, eq-eqb}
use Rattle.std.proofs.lemmas.Bool.{ne_eqb}
use Rattle.sheet.proofs.Writing.{Writes-then, Writes-failed, Writes-front}
use Rattle.sheet.proofs.line.write_span.Goals as goal

pub returns-in_err-write_text : goal.returns-in_err-write_text
returns-in_err-write_text g c =
    let e : (c.args.first == c.args.last) ≡ true = eq-eqb _ _ c.if-first-last.true in
    let r = c.from_residual.result in
    let failure = c.from_residual.ensures.0 in
    rw e (Writes-front _ r failure (Writes-failed r failure c.in_err-write_text.ensures))

pub returns-then-first-last : goal.returns-then-first-last
returns-then-first-last g c =
    let e : (c.args.first == c.args.last) ≡ true = eq-eqb _ _ c.if-first-last.true in
    rw e (Writes-then _ c.in_ok-write_text.ensures (rw c.format.ensures.text at c.write_text-then-first-last.ensures))

pub returns-in_err-write_text-2 : goal.returns-in_err-write_text-2
returns-in_err-write_text-2 g c =
    let e : (c.args.first == c.args.last) ≡ false = ne_eqb _ _ c.if-first-last.false in
    let r = c.from_residual-in_err-write_text-2.result in
    let failure = c.from_residual-in_err-write_text-2.ensures.0 in
    let one = Writes-front (decimal c.args.first) r failure (Writes-failed r failure c.in_err-write_text-2.ensures) in
    rw e (Writes-front (decimal c.args.last) r failure (Writes-front (codes " to ") r failure one))

pub returns-in_err-write_text-3 : goal.returns-in_err-write_text-3
returns-in_err-write_text-3 g c =
    let e : (c.args.first == c.args.last) ≡ false = ne_eqb _ _ c.if-first-last.false in
    let r = c.from_residual-in_err-write_text-3.result in
    let failure = c.from_residual-in_err-write_text-3.ensures.0 in
    let first = rw c.format-2.ensures.text at c.in_err-write_text-3.ensures in
    rw e (Writes-front _ r failure (Writes-front _ r failure (Writes-failed r failure (Writes-then _ c.in_ok-write_text-2.ensures first))))

pub returns-in_err-write_text-4 : goal.returns-in_err-write_text-4
returns-in_err-write_text-4 g c =
    let e : (c.args.first == c.args.last) ≡ false = ne_eqb _ _ c.if-first-last.false in
    let r = c.from_residual-in_err-write_text-4.result in
    let failure = c.from_residual-in_err-write_text-4.ensures.0 in
    let first = rw c.format-2.ensures.text at c.in_ok-write_text-3.ensures in
    let upto = Writes-then _ (Writes-then _ c.in_ok-write_text-2.ensures first) c.in_err-write_text-4.ensures in
    rw e (Writes-front _ r failure (Writes-failed r failure upto))

pub returns : goal.returns
returns g c =
    let e : (c.args.first == c.args.last) ≡ false = ne_eqb _ _ c.if-first-last.false in
    let first = rw c.format-2.ensures.text at c.in_ok-write_text-3.ensures in
    let last = rw c.format-3.ensures.text at c.write_text-5.ensures in
    rw e (Writes-then _ (Writes-then _ (Writes-then _ c.in_ok-write_text-2.ensures first) c.in_ok-write_text-4.ensures) last)
