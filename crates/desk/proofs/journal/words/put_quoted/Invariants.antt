-- The invariant of the loop in `put_quoted`: the characters so far have been appended.
use Rattle.std.proofs.Common.{◌≡◌, ◌++◌, flat_map}
use Rattle.std.specs.Prelude.{string_bytes}
use Rattle.desk.specs.RequestLines.{quoted_character}
use Rattle.desk.proofs.journal.words.put_quoted.Given as goal

abbrev pub invariant-loop-character : goal.invariant-loop-character
invariant-loop-character l = string_bytes l.text ≡ string_bytes l.initial.text ++ flat_map quoted_character l.yielded
