-- Proof that `check_each` meets its contract.
use Rattle.std.proofs.Common.{◌-◌, ◌<◌, length, inr, refl, arith, rules, FitsSigned, w64}
use Rattle.std.proofs.lemmas.Int.{ints}
use Rattle.tables.proofs.RowidLemmas.{rowid_there, ints_more, rise_more, fall_there}
use Rattle.tables.proofs.rowids.check_each.Goals as goal
use Rattle.tables.proofs.rowids.check_each.Goals.{then-i-gt0+in_ok-before+else-not-is_below, else-i-gt0}

pub returns-then-not-is_below-clause-fall : goal.returns-then-not-is_below-clause-fall
returns-then-not-is_below-clause-fall c =
    let low : c.loop-i.i < length c.args.rows.now = c.loop-i-test.true in
    let here = rowid_there c.args.rows.now c.loop-i.i c.index-rows-i.result c.in_ok-id.id low c.index-rows-i.is c.in_ok-id.ensures.id in
    let there = rowid_there c.args.rows.now (c.loop-i.i - 1) c.index-rows-i-then-i-gt0.result c.in_ok-before.before (omega (arith, low)) c.index-rows-i-then-i-gt0.is c.in_ok-before.ensures.id in
    let id : FitsSigned w64 c.in_ok-id.id = search rules in
    let before : FitsSigned w64 c.in_ok-before.before = search rules in
    let above = c.is_below.ensures.not_below c.if-not-is_below.true in
    inr (refl, fall_there c.args.rows.now c.loop-i.i c.in_ok-before.before c.in_ok-id.id c.if-i-gt0.true low there here (omega (arith, ints, above, id, before)))

pub loop-i-preserved : goal.loop-i-preserved
loop-i-preserved c =
    let inv = c.loop-i.invariant in
    let low : c.loop-i.i < length c.args.rows.now = c.loop-i-test.true in
    let here = rowid_there c.args.rows.now c.loop-i.i c.index-rows-i.result c.in_ok-id.id low c.index-rows-i.is c.in_ok-id.ensures.id in
    record {
      ints = ints_more c.args.rows.now c.loop-i.i c.in_ok-id.id here inv.ints;
      rise = elim c.if-i-gt0.branch [
        | then-i-gt0+in_ok-before+else-not-is_below w ↦
            let there =
            rowid_there c.args.rows.now (c.loop-i.i - 1) w.index-rows-i-then-i-gt0.result w.in_ok-before.before (omega (arith, low)) w.index-rows-i-then-i-gt0.is w.in_ok-before.ensures.id
            in
            let id : FitsSigned w64 c.in_ok-id.id = search rules in
            let before : FitsSigned w64 w.in_ok-before.before = search rules in
            let below = w.is_below.ensures.below w.if-not-is_below.false in
            rise_more c.args.rows.now c.loop-i.i w.in_ok-before.before c.in_ok-id.id w.if-i-gt0.true there here (omega (arith, ints, below, id, before)) inv.rise
        | else-i-gt0 w ↦ λ k below. absurd (let none = w.if-i-gt0.false in omega (arith, below, none))
      ];
    }
