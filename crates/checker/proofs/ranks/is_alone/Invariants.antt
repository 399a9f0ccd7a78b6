-- The invariant of the loop in `is_alone`: the bytes read so far aren't equals signs.
use Rattle.std.proofs.Common.{◌≡◌, drop}
use Rattle.std.specs.List.{list_any}
use Rattle.checker.specs.Tokens.{parts}
use Rattle.checker.specs.declared.tokens.Separator.TheVariants.{Equals}
use Rattle.checker.proofs.ranks.is_alone.Given as goal

abbrev pub invariant-loop-byte : goal.invariant-loop-byte
invariant-loop-byte l = list_any (parts Equals) (drop l.byte-index l.word) ≡ list_any (parts Equals) l.word
