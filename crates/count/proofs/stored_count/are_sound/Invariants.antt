-- The invariant of the loop in `are_sound`.
use Rattle.std.proofs.Common.{take}
use Rattle.std.specs.List.{AllByRecursion}
use Rattle.count.specs.Inside.Placing.{IsSound}
use Rattle.count.proofs.stored_count.are_sound.Given as goal

abbrev pub invariant-loop-at : goal.invariant-loop-at
invariant-loop-at l = AllByRecursion IsSound (take l.at-index l.places)
