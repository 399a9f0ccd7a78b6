-- The invariant of the loop in `numbers_in`: the numbers so far have been collected.
use Rattle.std.proofs.Common.{◌≡◌, take}
use Rattle.desk.proofs.overviews.numbers_in.Given as goal

abbrev pub invariant-loop-number : goal.invariant-loop-number
invariant-loop-number l = l.numbers.items ≡ take l.number-index l.all
