-- The loop invariant of `accept_pending`.
use Rattle.std.proofs.Common.{◌≤◌, Bool, [], Some}
use Rattle.connections.specs.Closing.{IsWithin}
use Rattle.connections.specs.Traces.{Trace}
use Rattle.connections.specs.Streams.{stream_of}
use Rattle.server.specs.Servers.{GoesOn, IsUnfailed}
use Rattle.server.specs.Settings.{ServerSettingsEntry}
use Rattle.server.proofs.serving.accept_pending.Given as goal

-- connections have been accepted so far
abbrev pub invariant-loop : goal.invariant-loop
invariant-loop g l = record {
  goes_on : (settings : ServerSettingsEntry) → GoesOn settings (stream_of g.D.Stream.Stream.held g.D.Stream.Stream.taken g.D.Stream.Stream.failed) []
      (g.D.Network.known l.fn.network) (g.D.Network.known l.network) l.fn.table l.table;
  trace : (gated : Bool) → Trace gated (stream_of g.D.Stream.Stream.held g.D.Stream.Stream.taken g.D.Stream.Stream.failed) [] (Some l.now) (Some l.now)
      (g.D.Network.known l.fn.network) (g.D.Network.known l.network) l.fn.table.clients.items l.table.clients.items;
  few : l.fn.table.counted ≤ l.most → l.table.counted ≤ l.most;
  within : IsWithin l.table;
  called : IsUnfailed (g.D.Network.known l.fn.network) (g.D.Network.known l.network);
}
