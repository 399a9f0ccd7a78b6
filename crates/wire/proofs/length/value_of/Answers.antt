-- Proof that `value_of` meets its contract.
use Rattle.std.proofs.Common.{refl, ◌<◌, length, arith}
use Rattle.wire.proofs.LengthLemmas.{several}
use Rattle.wire.proofs.length.value_of.Goals as goal

pub returns-then-is_some-clause-several : goal.returns-then-is_some-clause-several
returns-then-is_some-clause-several c =
    let there : c.loop-header.header-index < length c.args.headers.now = omega arith in (
      refl,
      several c.args.name.now c.args.buffer.now c.of.result.now c.args.headers.now c.loop-header.header-index _ c.loop-header.found there c.of.ensures c.if-is_named.ensures
          c.if-is_some.ensures c.loop-header.invariant,
    )
