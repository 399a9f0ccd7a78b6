-- Proof that `write_lot_comments` meets its contract.
use Rattle.std.proofs.lemmas.List.{take_all, get_or_default}
use Rattle.std.proofs.Common.{get_or}
use Rattle.sheet.specs.Ballots.{lot_comment}
use Rattle.sheet.proofs.Writing.{Writes-none, Writes-item, Writes-item_cut}
use Rattle.sheet.proofs.ballots.write_lot_comments.Goals as goal

pub loop-lot-init : goal.loop-lot-init
loop-lot-init g c = Writes-none _ _

pub loop-lot-preserved : goal.loop-lot-preserved
loop-lot-preserved g c =
    Writes-item lot_comment c.args.lots.now c.loop-lot.lot-index (get_or c.args.lots.now c.loop-lot.lot-index (0, 0)) _ c.loop-lot-test.true
    (get_or_default _ _ _ _ c.loop-lot-test.true) c.loop-lot.invariant c.in_ok-write_lot_comment.ensures

pub returns-in_err-write_lot_comment : goal.returns-in_err-write_lot_comment
returns-in_err-write_lot_comment g c =
    Writes-item_cut lot_comment c.args.lots.now c.loop-lot.lot-index (get_or c.args.lots.now c.loop-lot.lot-index (0, 0)) c.from_residual.result c.loop-lot-test.true
    (get_or_default _ _ _ _ c.loop-lot-test.true) c.loop-lot.invariant c.in_err-write_lot_comment.ensures c.from_residual.ensures.0

pub returns : goal.returns
returns g c = rw (take_all _ _ c.loop-lot-test.false) at c.loop-lot.invariant
