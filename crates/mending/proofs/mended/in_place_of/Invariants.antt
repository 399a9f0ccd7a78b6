-- The invariant of the loop in `in_place_of`: none of the orders so far replaces the given one.
use Rattle.std.proofs.Common.{◌≡◌, drop}
use Rattle.mending.specs.Changes.{in_place_of}
use Rattle.mending.proofs.mended.in_place_of.Given as goal

abbrev pub invariant-loop-other : goal.invariant-loop-other
invariant-loop-other l = in_place_of (drop l.other-index l.instead) l.order ≡ in_place_of l.instead l.order
