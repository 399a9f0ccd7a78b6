-- The loop invariant and the measure of `drop_bytes`.
use Rattle.std.proofs.Common.{◌≡◌, ◌≤◌}
use Rattle.connections.proofs.client.drop_bytes.Given as goal

-- the stream accepted nothing, and no call on it failed or was idle
abbrev pub invariant-loop-unread_body_bytes : goal.invariant-loop-unread_body_bytes
invariant-loop-unread_body_bytes g l = record {
  untold : g.L.Stream.taken l.stream ≡ g.L.Stream.taken l.fn.stream;
  less : l.unread_body_bytes ≤ l.fn.unread_body_bytes;
  failed : g.L.Stream.failed l.stream ≡ g.L.Stream.failed l.fn.stream;
  idle : g.L.Stream.idle l.stream ≡ g.L.Stream.idle l.fn.stream;
}

abbrev pub decreases-loop-unread_body_bytes : goal.decreases-loop-unread_body_bytes
decreases-loop-unread_body_bytes g l = l.unread_body_bytes
