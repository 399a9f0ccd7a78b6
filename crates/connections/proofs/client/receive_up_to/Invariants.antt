-- The loop invariant and the measure of `receive_up_to`.
use Rattle.std.proofs.Common.{◌≡◌, ◌-◌, ◌+◌, ◌<◌, length, max}
use Rattle.connections.specs.Clients.{chunk}
use Rattle.connections.specs.Streams.{Receives, stream_of}
use Rattle.connections.proofs.client.receive_up_to.Given as goal

-- what was received before is followed by exactly what the stream has yielded so far, and there isn't too much of it
abbrev pub invariant-loop-stream : goal.invariant-loop-stream
invariant-loop-stream g l = record {
  receives : Receives (stream_of g.L.Stream.held g.L.Stream.taken g.L.Stream.failed) l.fn.stream l.stream l.fn.got.items l.got.items;
  few : length l.got.items < max (length l.fn.got.items + 1) (l.wanted + chunk);
  failed : g.L.Stream.failed l.stream ≡ g.L.Stream.failed l.fn.stream;
  idle : g.L.Stream.idle l.stream ≡ g.L.Stream.idle l.fn.stream;
}

abbrev pub decreases-loop-stream : goal.decreases-loop-stream
decreases-loop-stream g l = l.wanted - length l.got.items
