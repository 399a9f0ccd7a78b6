-- The loop invariant of `print_frames`: neither output has failed.
use Rattle.std.proofs.Common.{◌≡◌}
use Rattle.count_office.proofs.order_client.print_frames.Given as goal

abbrev pub invariant-loop : goal.invariant-loop
invariant-loop g l = record {
  out : g.O.Sink.failed l.out ≡ g.O.Sink.failed l.fn.out;
  err : g.E.Sink.failed l.err ≡ g.E.Sink.failed l.fn.err;
}
