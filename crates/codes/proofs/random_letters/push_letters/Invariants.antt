-- The invariant of the loop in `push_letters`.
use Rattle.std.proofs.Common.{◌≡◌, ◌++◌, string_bytes, take}
use Rattle.codes.proofs.random_letters.push_letters.Given as goal

abbrev pub invariant-loop-letter : goal.invariant-loop-letter
invariant-loop-letter l = string_bytes l.text ≡ string_bytes l.fn.text ++ take l.letter-index l.letters
