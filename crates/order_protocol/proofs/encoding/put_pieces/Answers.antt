use Rattle.order_protocol.proofs.MessageParts.{all_fit}
use Rattle.order_protocol.proofs.encoding.put_pieces.Goals as goal

pub put_piece-requires : goal.put_piece-requires
put_piece-requires c = all_fit c.args.ps.now c.requires c.loop-p.p-index _ c.loop-p-test.true
