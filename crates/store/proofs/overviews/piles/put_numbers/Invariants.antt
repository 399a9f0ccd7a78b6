-- The invariant of the loop in `put_numbers`.
use Rattle.std.proofs.Common.{◌≡◌, ◌++◌, drop, string_bytes}
use Rattle.store.specs.Overviews.{candidate_lines}
use Rattle.store.proofs.overviews.piles.put_numbers.Given as goal

abbrev pub invariant-loop-number : goal.invariant-loop-number
invariant-loop-number l = string_bytes l.text ++ candidate_lines (drop l.number-index l.numbers) ≡ string_bytes l.initial.text ++ candidate_lines l.numbers
