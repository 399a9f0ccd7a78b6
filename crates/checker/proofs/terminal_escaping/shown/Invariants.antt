-- The invariant of the loop in `shown`: the text contains the characters so far.
use Rattle.std.proofs.Common.{◌≡◌, flat_map}
use Rattle.std.specs.Prelude.{string_bytes}
use Rattle.checker.specs.Reports.{shown_character}
use Rattle.checker.proofs.terminal_escaping.shown.Given as goal

abbrev pub invariant-loop-character : goal.invariant-loop-character
invariant-loop-character l = string_bytes l.shown_text ≡ flat_map shown_character l.yielded
