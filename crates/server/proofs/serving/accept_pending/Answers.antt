-- Proof that `accept_pending` meets its contract.
use Rattle.std.proofs.Common.{◌∙◌, [], Some, refl}
use Rattle.connections.specs.Streams.{stream_of}
use Rattle.connections.proofs.TraceLemmas.{trace_none, trace_then}
use Rattle.server.proofs.ServerLemmas.{goes_none, goes_then}
use Rattle.server.proofs.serving.accept_pending.Goals as goal

pub loop-init : goal.loop-init
loop-init g c =
    let known = g.D.Network.known c.args.network.now in
    record {
      goes_on = λ settings. goes_none settings (stream_of g.D.Stream.Stream.held g.D.Stream.Stream.taken g.D.Stream.Stream.failed) known known c.args.table.now (refl, refl);
      trace = λ gated. trace_none gated (stream_of g.D.Stream.Stream.held g.D.Stream.Stream.taken g.D.Stream.Stream.failed) (Some c.args.now) known known c.args.table.now.clients.items refl;
      few = λ few. few;
      within = c.requires;
      called = (refl, refl);
    }

pub returns-in-Some-clause-goes_on : goal.returns-in-Some-clause-goes_on
returns-in-Some-clause-goes_on g c = λ settings.
    let stream = stream_of g.D.Stream.Stream.held g.D.Stream.Stream.taken g.D.Stream.Stream.failed in
    let known = g.D.Network.known in
    goes_then settings stream [] [] (known c.args.network.now) (known c.loop.network) (known c.accept_one.new.network) c.args.table.now c.loop.table c.accept_one.new.table
    (c.loop.invariant.goes_on settings) (c.accept_one.ensures.goes_on settings)

pub returns-in-Some-clause-trace : goal.returns-in-Some-clause-trace
returns-in-Some-clause-trace g c = λ gated.
    trace_then gated (stream_of g.D.Stream.Stream.held g.D.Stream.Stream.taken g.D.Stream.Stream.failed) [] [] (Some c.args.now) (Some c.args.now)
    (Some c.args.now) (g.D.Network.known c.args.network.now) (g.D.Network.known c.loop.network)
    (g.D.Network.known c.accept_one.new.network) c.args.table.now.clients.items c.loop.table.clients.items c.accept_one.new.table.clients.items
    (c.loop.invariant.trace gated) (c.accept_one.ensures.trace gated)

pub loop-preserved : goal.loop-preserved
loop-preserved g c = record {
  goes_on = λ settings.
      let stream = stream_of g.D.Stream.Stream.held g.D.Stream.Stream.taken g.D.Stream.Stream.failed in
      let known = g.D.Network.known in
      goes_then settings stream [] [] (known c.args.network.now) (known c.loop.network) (known c.accept_one.new.network) c.args.table.now c.loop.table c.accept_one.new.table
      (c.loop.invariant.goes_on settings) (c.accept_one.ensures.goes_on settings);
  trace = λ gated.
      trace_then gated (stream_of g.D.Stream.Stream.held g.D.Stream.Stream.taken g.D.Stream.Stream.failed) [] [] (Some c.args.now) (Some c.args.now)
      (Some c.args.now) (g.D.Network.known c.args.network.now) (g.D.Network.known c.loop.network)
      (g.D.Network.known c.accept_one.new.network) c.args.table.now.clients.items c.loop.table.clients.items c.accept_one.new.table.clients.items
      (c.loop.invariant.trace gated) (c.accept_one.ensures.trace gated);
  few = λ few. c.accept_one.ensures.few (c.loop.invariant.few few);
  within = c.accept_one.ensures.within;
  called = (c.accept_one.ensures.called.0 ∙ c.loop.invariant.called.0, c.accept_one.ensures.called.1 ∙ c.loop.invariant.called.1);
}
