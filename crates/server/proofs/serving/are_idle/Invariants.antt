-- The invariant of the loop in `are_idle`: all connections so far are idle.
use Rattle.std.proofs.Common.{◌≡◌, drop}
use Rattle.std.specs.List.{list_all}
use Rattle.server.specs.Servers.{is_idle}
use Rattle.server.proofs.serving.are_idle.Given as goal

abbrev pub invariant-loop-client : goal.invariant-loop-client
invariant-loop-client g l = list_all is_idle l.clients ≡ list_all is_idle (drop l.client-index l.clients)
