-- Proof that `put_line` meets its contract.
use Rattle.std.specs.List.{flat_map}
use Rattle.desk.proofs.PageLemmas.{put_behind, put_failed}
use Rattle.desk.proofs.lines.put_line.Goals as goal

pub returns-in_err-put_line_prefix : goal.returns-in_err-put_line_prefix
returns-in_err-put_line_prefix g c = put_failed (flat_map (λ piece. piece.now) c.args.pieces.now) c.from_residual.result c.from_residual.ensures.0 c.in_err-put_line_prefix.ensures

pub returns : goal.returns
returns g c = put_behind c.put_pieces.result c.in_ok-put_line_prefix.ensures c.put_pieces.ensures
