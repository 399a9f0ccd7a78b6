-- The loop invariant of `perform_with_retries`: neither output has failed.
use Rattle.std.proofs.Common.{◌≡◌}
use Rattle.count_office.proofs.order_run.perform_with_retries.Given as goal

abbrev pub invariant-loop-pauses : goal.invariant-loop-pauses
invariant-loop-pauses g l = record {
  out : g.O.Sink.failed l.out ≡ g.O.Sink.failed l.fn.out;
  err : g.E.Sink.failed l.err ≡ g.E.Sink.failed l.fn.err;
}
