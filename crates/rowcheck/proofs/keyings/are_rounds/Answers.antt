use Rattle.std.proofs.Common.{◌≡◌, ◌-◌, ◌+◌, ◌<◌, refl, sym, ◌∙◌, arith}
use Rattle.register.specs.Offices.{batch_entry}
use Rattle.rowcheck.specs.States.{state_of}
use Rattle.rowcheck.proofs.OwnerLemmas.{round_first, no_round}
use Rattle.rowcheck.proofs.keyings.are_rounds.Goals as goal

pub returns-then-not-is_round_of : goal.returns-then-not-is_round_of
returns-then-not-is_round_of c =
    let some : 0 < c.args.batch.now.round - c.loop-later.later = omega arith in
    sym (c.loop-later.invariant ∙ (round_first (state_of c.args.rows.now) (batch_entry c.args.batch.now) (c.args.batch.now.round - c.loop-later.later) some
    ∙ rw (sym c.is_round_of.ensures, c.if-not-is_round_of.true) refl))

pub loop-later-preserved : goal.loop-later-preserved
loop-later-preserved c =
    let some : 0 < c.args.batch.now.round - c.loop-later.later = omega arith in
    let next : (c.args.batch.now.round - c.loop-later.later) - 1 ≡ c.args.batch.now.round - (c.loop-later.later + 1) = omega arith in
    c.loop-later.invariant
    ∙ (round_first (state_of c.args.rows.now) (batch_entry c.args.batch.now) (c.args.batch.now.round - c.loop-later.later) some
    ∙ rw (sym c.is_round_of.ensures, c.if-not-is_round_of.false, next) refl)

pub returns : goal.returns
returns c =
    let none : c.args.batch.now.round - c.loop-later.later ≡ 0 = omega arith in
    sym (c.loop-later.invariant ∙ rw none (no_round (state_of c.args.rows.now) (batch_entry c.args.batch.now)))
