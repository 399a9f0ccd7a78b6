-- The invariant of the loop in `has_texts`.
use Rattle.std.proofs.Common.{◌≡◌, map, drop, string_bytes}
use Rattle.register.specs.Offices.{keyed_entry}
use Rattle.register.specs.Repeats.{has_texts}
use Rattle.register.proofs.repeats.has_texts.Given as goal

abbrev pub invariant-loop-place : goal.invariant-loop-place
invariant-loop-place l = has_texts (map keyed_entry l.keying) (map string_bytes l.texts) ≡ has_texts (map keyed_entry (drop l.place l.keying)) (map string_bytes (drop l.place l.texts))
