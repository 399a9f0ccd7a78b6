-- Proof that `put_pieces` meets its contract.
use Rattle.desk.proofs.PageLemmas.{put_next_failed}
use Rattle.desk.proofs.lines.put_pieces.Goals as goal

pub returns-in_err-put_all : goal.returns-in_err-put_all
returns-in_err-put_all g c =
    put_next_failed (λ piece. piece.now) c.args.pieces.now c.loop-piece.piece-index _ c.as_bytes.result.now c.from_residual.result c.loop-piece-test.true
    c.as_bytes.ensures.value c.loop-piece.invariant
    (record { all = tt; ok = tt; cut_off = c.in_err-put_all.ensures.cut_off; err = c.in_err-put_all.ensures.err }) c.from_residual.ensures.0
