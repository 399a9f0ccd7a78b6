-- The loop invariant of `bytes_held`.
use Rattle.std.proofs.Common.{◌≡◌, ◌-◌, ◌^◌, min, sum_by, take}
use Rattle.connections.specs.Tables.{bytes_of}
use Rattle.connections.proofs.connection_table.bytes_held.Given as goal

-- the bytes held by the connections counted so far
abbrev pub invariant-loop-client : goal.invariant-loop-client
invariant-loop-client g l = l.held ≡ min (sum_by bytes_of (take l.client-index l.clients)) (2 ^ 64 - 1)
