-- Why `put_error_output` keeps its promise.
use Rattle.order_protocol.proofs.FrameLemmas.{said_err_put}
use Rattle.order_protocol.proofs.encoding.put_error_output.Goals as goal

pub returns-clause-decoded : goal.returns-clause-decoded
returns-clause-decoded c = said_err_put c.args.out.now.items c.put_frame.new.out.items c.args.bytes.now c.in_ok-put_frame.ensures.put c.requires
