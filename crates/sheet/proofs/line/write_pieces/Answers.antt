-- Proof that `write_pieces` meets its contract.
use Rattle.std.proofs.lemmas.List.{take_all}
use Rattle.sheet.specs.Pieces.{piece_text}
use Rattle.sheet.proofs.Joined.{joined-map}
use Rattle.sheet.proofs.Writing.{Writes-none, Writes-item, Writes-item_cut}
use Rattle.sheet.proofs.line.write_pieces.Goals as goal

pub loop-piece-init : goal.loop-piece-init
loop-piece-init g c = Writes-none _ _

pub loop-piece-preserved : goal.loop-piece-preserved
loop-piece-preserved g c =
    Writes-item piece_text c.args.pieces.now c.loop-piece.piece-index c.piece-item.result _ c.loop-piece-test.true c.piece-item.is c.loop-piece.invariant c.in_ok-write_piece.ensures

pub returns-in_err-write_piece : goal.returns-in_err-write_piece
returns-in_err-write_piece g c =
    rw joined-map (Writes-item_cut piece_text c.args.pieces.now c.loop-piece.piece-index c.piece-item.result c.from_residual.result c.loop-piece-test.true c.piece-item.is c.loop-piece.invariant
    c.in_err-write_piece.ensures c.from_residual.ensures.0)

pub returns : goal.returns
returns g c = rw joined-map (rw (take_all _ _ c.loop-piece-test.false) at c.loop-piece.invariant)
