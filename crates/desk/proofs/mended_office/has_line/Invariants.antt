-- The invariant of the loop in `has_line`: none of the lines so far is the given one.
use Rattle.std.proofs.Common.{◌≡◌, drop, map, string_bytes}
use Rattle.std.specs.List.{list_any}
use Rattle.std.specs.Str.{bytes_eq}
use Rattle.desk.proofs.mended_office.has_line.Given as goal

abbrev pub invariant-loop-other : goal.invariant-loop-other
invariant-loop-other l = list_any (bytes_eq l.words) (map string_bytes l.lines) ≡ list_any (bytes_eq l.words) (map string_bytes (drop l.other-index l.lines))
