-- The invariant of the loop in `script_of`: the text so far, followed by the remaining lines, is the whole script.
use Rattle.std.proofs.Common.{◌≡◌, ◌++◌, drop, map, string_bytes}
use Rattle.desk.specs.Mends.{script_of}
use Rattle.desk.proofs.mended_office.script_of.Given as goal

abbrev pub invariant-loop-words : goal.invariant-loop-words
invariant-loop-words l = string_bytes l.text ++ script_of (map string_bytes (drop l.words-index l.lines)) ≡ script_of (map string_bytes l.lines)
