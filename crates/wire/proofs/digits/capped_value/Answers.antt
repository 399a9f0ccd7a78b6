-- Proof that `capped_value` meets its contract.
use Rattle.std.proofs.Common.{◌<◌, length, refl, arith}
use Rattle.wire.proofs.DigitLemmas.{value_more}
use Rattle.wire.proofs.digits.capped_value.Goals as goal

pub loop-digit-preserved : goal.loop-digit-preserved
loop-digit-preserved c =
    let there : c.loop-digit.digit-index < length c.args.digits.now = omega arith in
    let step = value_more c.args.digits.now c.loop-digit.digit-index c.loop-digit.value c.from-cap.result _ there c.requires refl c.loop-digit.invariant in
    omega (arith, step)
