-- The loop invariant of `longest_waiting`.
use Rattle.std.proofs.Common.{take}
use Rattle.connections.proofs.TableLemmas.{IsFound}
use Rattle.connections.proofs.connection_table.longest_waiting.Given as goal

-- the connection found among those examined so far
abbrev pub invariant-loop-place : goal.invariant-loop-place
invariant-loop-place g l = IsFound l.orders_too (take l.place l.clients) l.found
