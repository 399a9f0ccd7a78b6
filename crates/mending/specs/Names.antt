-- The names of orders.
use Rattle.std.specs.Prelude.{ℕ, ◌==◌, ◌++◌, List, codes, if◌then◌else◌, string_bytes}
use Rattle.std.specs.Fmt.{decimal}
use Rattle.register.specs.declared.command.Request.{Request}

-- the name of an order: its id, preceded by the clerk's number and a colon if a clerk sent it
unfoldable pub order_name : Request → List ℕ
order_name r = if r.actor == 0 then string_bytes r.id else decimal r.actor ++ (codes ":" ++ string_bytes r.id)
