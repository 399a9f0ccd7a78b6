-- Why `put_end_frame` keeps its promise.
use Rattle.order_protocol.proofs.FrameLemmas.{over_put}
use Rattle.order_protocol.proofs.encoding.put_end_frame.Goals as goal

pub returns-clause-decoded : goal.returns-clause-decoded
returns-clause-decoded c = over_put c.args.out.now.items c.put_end.new.out.items c.args.status c.args.err.now c.in_ok-put_end.ensures.put c.requires
