-- The loop invariant and the measure of `print_output_frame`: the output hasn't failed.
use Rattle.std.proofs.Common.{◌≡◌}
use Rattle.count_office.proofs.order_client.print_output_frame.Given as goal

abbrev pub invariant-loop-left : goal.invariant-loop-left
invariant-loop-left g l = g.O.Sink.failed l.out ≡ g.O.Sink.failed l.fn.out

abbrev pub decreases-loop-left : goal.decreases-loop-left
decreases-loop-left g l = l.left
