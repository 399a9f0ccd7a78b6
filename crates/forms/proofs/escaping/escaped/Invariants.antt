-- The invariant of the loop in `escaped`: the text so far consists of the characters so far, escaped.
use Rattle.std.proofs.Common.{◌≡◌, flat_map}
use Rattle.std.specs.Prelude.{string_bytes}
use Rattle.forms.specs.Pages.{escaped_character}
use Rattle.forms.proofs.escaping.escaped.Given as goal

abbrev pub invariant-loop-character : goal.invariant-loop-character
invariant-loop-character l = string_bytes l.escaped_text ≡ flat_map escaped_character l.yielded
