-- The invariant and the variant of the loop in `put_all`.
use Rattle.std.proofs.Common.{◌≡◌, ◌-◌, ◌≤◌, length, take}
use Rattle.std.specs.Io.KnownBytes.{Appends}
use Rattle.streams.proofs.streams.put_all.Given as goal

abbrev pub invariant-loop-at : goal.invariant-loop-at
invariant-loop-at g l = record {
  within : l.at ≤ length l.bytes;
  taken : Appends (g.W.Sink.taken l.fn.sink) (g.W.Sink.taken l.sink) (take l.at l.bytes);
  failed : g.W.Sink.failed l.sink ≡ g.W.Sink.failed l.fn.sink;
}

abbrev pub decreases-loop-at : goal.decreases-loop-at
decreases-loop-at g l = length l.bytes - l.at
