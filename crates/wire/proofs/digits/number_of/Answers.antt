-- Proof that `number_of` meets its contract.
use Rattle.std.proofs.Common.{sym}
use Rattle.wire.proofs.DigitLemmas.{digits-utf8}
use Rattle.wire.proofs.digits.number_of.Goals as goal

pub returns-in-Err : goal.returns-in-Err
returns-in-Err c = absurd (c.in-Err.ensures.cases.0 (digits-utf8 c.args.text.now (sym c.if-not-all_digits.ensures)))
