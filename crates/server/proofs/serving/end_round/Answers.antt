-- Proof that `end_round` meets its contract.
use Rattle.std.proofs.Common.{Some}
use Rattle.connections.specs.Closing.{IsClosedByRule, timeout_rule}
use Rattle.connections.specs.Streams.{stream_of}
use Rattle.connections.proofs.BoundLemmas.{within_still}
use Rattle.connections.proofs.ClosingLemmas.{late_outs}
use Rattle.connections.proofs.TraceLemmas.{course_fails}
use Rattle.server.proofs.ServerLemmas.{course_round, course_wait, goes_failure, goes_round, goes_wait}
use Rattle.server.proofs.serving.end_round.Goals as goal

-- no more are in than may be, since some were closed
pub accept_pending-look-requires : goal.accept_pending-look-requires
accept_pending-look-requires g c =
    within_still (IsClosedByRule (timeout_rule c.in_ok-now.now)) (late_outs c.in_ok-now.now) (g.D.Network.known c.now.new.self)
    (g.D.Network.known c.close_timed_out.new.network) c.args.table.now c.close_timed_out.new.table c.close_timed_out.ensures.go
    c.requires

pub returns-in_err-now-clause-goes_on : goal.returns-in_err-now-clause-goes_on
returns-in_err-now-clause-goes_on g c = λ settings.
    goes_failure settings (stream_of g.D.Stream.Stream.held g.D.Stream.Stream.taken g.D.Stream.Stream.failed) (g.D.Network.known c.args.network.now)
    (g.D.Network.known c.now.new.self) c.args.table.now c.in_err-now.ensures

pub returns-in_err-now-clause-trace : goal.returns-in_err-now-clause-trace
returns-in_err-now-clause-trace g c = λ gated from. (
  from,
  course_fails gated (stream_of g.D.Stream.Stream.held g.D.Stream.Stream.taken g.D.Stream.Stream.failed) from (g.D.Network.known c.args.network.now)
      (g.D.Network.known c.now.new.self) c.args.table.now.clients.items c.in_err-now.ensures,
)

pub returns-then-is_empty-clause-goes_on : goal.returns-then-is_empty-clause-goes_on
returns-then-is_empty-clause-goes_on g c = λ settings.
    let known = g.D.Network.known in
    goes_round settings (stream_of g.D.Stream.Stream.held g.D.Stream.Stream.taken g.D.Stream.Stream.failed) (known c.args.network.now) (known c.now.new.self)
    (known c.close_timed_out.new.network) (known c.accept_pending-look.new.network) c.args.table.now c.close_timed_out.new.table c.accept_pending-look.new.table c.in_ok-now.now
    c.in_ok-now.ensures c.close_timed_out.ensures.go (c.accept_pending-look.ensures.goes_on settings)

pub returns-then-is_empty-clause-trace : goal.returns-then-is_empty-clause-trace
returns-then-is_empty-clause-trace g c = λ gated from.
    let known = g.D.Network.known in (
      Some c.in_ok-now.now,
      course_round gated (stream_of g.D.Stream.Stream.held g.D.Stream.Stream.taken g.D.Stream.Stream.failed) from (known c.args.network.now)
          (known c.now.new.self) (known c.close_timed_out.new.network) (known c.accept_pending-look.new.network) c.args.table.now c.close_timed_out.new.table c.accept_pending-look.new.table
          c.in_ok-now.now c.in_ok-now.ensures c.close_timed_out.ensures.go (c.close_timed_out.ensures.all c.requires.0) (c.accept_pending-look.ensures.trace gated),
    )

pub returns-in_err-wait-clause-goes_on : goal.returns-in_err-wait-clause-goes_on
returns-in_err-wait-clause-goes_on g c = λ settings.
    let known = g.D.Network.known in
    goes_wait settings (stream_of g.D.Stream.Stream.held g.D.Stream.Stream.taken g.D.Stream.Stream.failed) c.wait.result (known c.args.network.now)
    (known c.accept_pending-look.new.network) (known c.wait.new.self) c.args.table.now c.accept_pending-look.new.table c.wait.ensures
    (goes_round settings (stream_of g.D.Stream.Stream.held g.D.Stream.Stream.taken g.D.Stream.Stream.failed) (known c.args.network.now) (known c.now.new.self)
    (known c.close_timed_out.new.network) (known c.accept_pending-look.new.network) c.args.table.now c.close_timed_out.new.table c.accept_pending-look.new.table c.in_ok-now.now
    c.in_ok-now.ensures c.close_timed_out.ensures.go (c.accept_pending-look.ensures.goes_on settings))

pub returns-in_err-wait-clause-trace : goal.returns-in_err-wait-clause-trace
returns-in_err-wait-clause-trace g c = λ gated from.
    let known = g.D.Network.known in (
      Some c.in_ok-now.now,
      course_wait gated (stream_of g.D.Stream.Stream.held g.D.Stream.Stream.taken g.D.Stream.Stream.failed) c.wait.result from (Some c.in_ok-now.now)
          (known c.args.network.now) (known c.accept_pending-look.new.network) (known c.wait.new.self) c.args.table.now.clients.items
          c.accept_pending-look.new.table.clients.items c.wait.ensures
          (course_round gated (stream_of g.D.Stream.Stream.held g.D.Stream.Stream.taken g.D.Stream.Stream.failed) from (known c.args.network.now)
          (known c.now.new.self) (known c.close_timed_out.new.network) (known c.accept_pending-look.new.network) c.args.table.now c.close_timed_out.new.table c.accept_pending-look.new.table
          c.in_ok-now.now c.in_ok-now.ensures c.close_timed_out.ensures.go (c.close_timed_out.ensures.all c.requires.0) (c.accept_pending-look.ensures.trace gated)),
    )

pub returns-clause-goes_on : goal.returns-clause-goes_on
returns-clause-goes_on g c = λ settings.
    let known = g.D.Network.known in
    goes_wait settings (stream_of g.D.Stream.Stream.held g.D.Stream.Stream.taken g.D.Stream.Stream.failed) c.wait.result (known c.args.network.now)
    (known c.accept_pending-look.new.network) (known c.wait.new.self) c.args.table.now c.accept_pending-look.new.table c.wait.ensures
    (goes_round settings (stream_of g.D.Stream.Stream.held g.D.Stream.Stream.taken g.D.Stream.Stream.failed) (known c.args.network.now) (known c.now.new.self)
    (known c.close_timed_out.new.network) (known c.accept_pending-look.new.network) c.args.table.now c.close_timed_out.new.table c.accept_pending-look.new.table c.in_ok-now.now
    c.in_ok-now.ensures c.close_timed_out.ensures.go (c.accept_pending-look.ensures.goes_on settings))

pub returns-clause-trace : goal.returns-clause-trace
returns-clause-trace g c = λ gated from.
    let known = g.D.Network.known in (
      Some c.in_ok-now.now,
      course_wait gated (stream_of g.D.Stream.Stream.held g.D.Stream.Stream.taken g.D.Stream.Stream.failed) c.wait.result from (Some c.in_ok-now.now)
          (known c.args.network.now) (known c.accept_pending-look.new.network) (known c.wait.new.self) c.args.table.now.clients.items
          c.accept_pending-look.new.table.clients.items c.wait.ensures
          (course_round gated (stream_of g.D.Stream.Stream.held g.D.Stream.Stream.taken g.D.Stream.Stream.failed) from (known c.args.network.now)
          (known c.now.new.self) (known c.close_timed_out.new.network) (known c.accept_pending-look.new.network) c.args.table.now c.close_timed_out.new.table c.accept_pending-look.new.table
          c.in_ok-now.now c.in_ok-now.ensures c.close_timed_out.ensures.go (c.close_timed_out.ensures.all c.requires.0) (c.accept_pending-look.ensures.trace gated)),
    )
