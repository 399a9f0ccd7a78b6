-- The invariant of the loop in `put_differing`: the text so far, followed by the differences of the remaining lines, is the text with all differences.
use Rattle.std.proofs.Common.{◌≡◌, ◌++◌, drop, map, string_bytes}
use Rattle.desk.specs.Mends.{differing}
use Rattle.desk.proofs.mended_office.put_differing.Given as goal

abbrev pub invariant-loop-words : goal.invariant-loop-words
invariant-loop-words l =
    string_bytes l.text ++ differing l.mark (map string_bytes (drop l.words-index l.ours)) (map string_bytes l.theirs)
    ≡ string_bytes l.initial.text ++ differing l.mark (map string_bytes l.ours) (map string_bytes l.theirs)
