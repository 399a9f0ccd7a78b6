-- The loop invariant of `perform_quietly`: neither output has failed.
use Rattle.std.proofs.Common.{◌≡◌}
use Rattle.count_office.proofs.order_run.perform_quietly.Given as goal

abbrev pub invariant-loop : goal.invariant-loop
invariant-loop g l = record {
  out : g.O.Sink.failed l.out ≡ g.O.Sink.failed l.fn.out;
  err : g.E.Sink.failed l.err ≡ g.E.Sink.failed l.fn.err;
}
