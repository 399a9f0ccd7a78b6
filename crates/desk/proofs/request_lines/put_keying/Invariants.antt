-- The invariant of the loop in `put_keying`: the marks so far, followed by the remaining ones, are all of them.
use Rattle.std.proofs.Common.{◌≡◌, ◌++◌, drop, flat_map, map}
use Rattle.std.specs.Prelude.{string_bytes}
use Rattle.desk.specs.RequestLines.{marks_words}
use Rattle.desk.proofs.request_lines.put_keying.Given as goal

abbrev pub invariant-loop-marks : goal.invariant-loop-marks
invariant-loop-marks l =
    string_bytes l.text ++ flat_map marks_words (map string_bytes (drop l.marks-index l.marks-items)) ≡ string_bytes l.initial.text ++ flat_map marks_words (map string_bytes l.marks-items)
