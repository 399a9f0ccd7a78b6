-- Connections that were removed from the table.
use Rattle.connections.specs.declared.client.Client.{Client}
use Rattle.connections.specs.declared.client.ReceiveError.{ReceiveError}
use Rattle.connections.specs.declared.client.ReceiveError.TheVariants.{Stream, Memory}
use Rattle.connections.specs.declared.removed.Removed.{Removed}
use Rattle.connections.specs.declared.removed.CloseReason.{CloseReason}
use Rattle.connections.specs.declared.removed.CloseReason.TheVariants.{Broken, Unreadable}

-- the reason for closing a connection from which nothing more can be received
abbrev pub why_of : ReceiveError → CloseReason
why_of Stream = Broken
why_of Memory = Unreadable

-- a connection in its removed form, with the reason
abbrev pub removed_of : {L : Type 0} → Client L → CloseReason → Removed L
removed_of client why = record { number = client.number; stream = client.stream; why = why }
