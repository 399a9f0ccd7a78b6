-- The invariant of the loop in `escaped_ascii`: the text so far, followed by the remaining bytes escaped, is the whole text escaped.
use Rattle.std.proofs.Common.{◌≡◌, ◌++◌, drop, flat_map}
use Rattle.std.specs.Prelude.{string_bytes}
use Rattle.forms.specs.Pages.{escaped_character}
use Rattle.forms.proofs.escaping.escaped_ascii.Given as goal

abbrev pub invariant-loop-byte : goal.invariant-loop-byte
invariant-loop-byte l = string_bytes l.escaped_text ++ flat_map escaped_character (drop l.byte-index l.text) ≡ flat_map escaped_character l.text
