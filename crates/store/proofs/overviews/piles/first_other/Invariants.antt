-- The invariant of the loop in `first_other`.
use Rattle.std.proofs.Common.{◌≡◌, ◌==◌, not, find, drop}
use Rattle.store.proofs.overviews.piles.first_other.Given as goal

abbrev pub invariant-loop-other : goal.invariant-loop-other
invariant-loop-other l = find (λ n. not (n == l.number)) l.numbers ≡ find (λ n. not (n == l.number)) (drop l.other-index l.numbers)
