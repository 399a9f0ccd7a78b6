-- The invariant of the loop in `has_name`: none of the names so far is this one.
use Rattle.std.proofs.Common.{◌≡◌, drop, map, string_bytes}
use Rattle.std.specs.List.{list_any}
use Rattle.std.specs.Str.{bytes_eq}
use Rattle.mending.proofs.mended.has_name.Given as goal

abbrev pub invariant-loop-name : goal.invariant-loop-name
invariant-loop-name l =
    list_any (bytes_eq l.own) (map string_bytes (drop l.name-index l.names)) ≡ list_any (bytes_eq l.own) (map string_bytes l.names)
