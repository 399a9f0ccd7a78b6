-- The loop invariant and the measure of `deliver`.
use Rattle.std.proofs.Common.{◌≡◌, ◌-◌, length}
use Rattle.connections.specs.Streams.{Delivers, stream_of}
use Rattle.connections.proofs.client.deliver.Given as goal

-- the stream has accepted the response up to the given position
abbrev pub invariant-loop-answer : goal.invariant-loop-answer
invariant-loop-answer g l = record {
  same : l.answer.bytes.items ≡ l.fn.answer.bytes.items;
  delivers : Delivers (stream_of g.L.Stream.held g.L.Stream.taken g.L.Stream.failed) l.fn.stream l.stream l.fn.answer.bytes.items l.fn.answer.sent l.answer.sent;
  failed : g.L.Stream.failed l.stream ≡ g.L.Stream.failed l.fn.stream;
  idle : g.L.Stream.idle l.stream ≡ g.L.Stream.idle l.fn.stream;
}

abbrev pub decreases-loop-answer : goal.decreases-loop-answer
decreases-loop-answer g l = length l.answer.bytes.items - l.answer.sent
