-- Proof that `number_in` meets its contract.
use Rattle.std.proofs.Common.{◌∙◌, ap, sym}
use Rattle.std.specs.Prelude.{slice_get, unwrap_or}
use Rattle.wire.proofs.DigitLemmas.{number_read}
use Rattle.wire.proofs.digits.number_in.Goals as goal

pub returns : goal.returns
returns c =
    let bytes = c.as_bytes-digits.ensures.value in
    let first = c.unwrap_or-first.ensures ∙ ap (λ o. unwrap_or o 48) (c.copied.ensures ∙ c.first.ensures.value ∙ ap (λ t. slice_get t 0) bytes) in
    c.ok.ensures.value
    ∙ number_read c.args.text.now c.parse.result (λ e. c.if-first-eq48.false (first ∙ e)) (rw bytes at c.if-digits-gt-MOST_DIGITS.false)
    (sym (rw bytes at c.if-not-all_digits.ensures)) c.parse.ensures.value.0
