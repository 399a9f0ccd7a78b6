-- The invariant of the loop in `is_name_of_one`: none of the orders so far has the name.
use Rattle.std.proofs.Common.{◌≡◌, drop}
use Rattle.mending.specs.Changes.{is_name_of_one}
use Rattle.mending.proofs.checking.is_name_of_one.Given as goal

abbrev pub invariant-loop-order : goal.invariant-loop-order
invariant-loop-order l = is_name_of_one l.orders l.name ≡ is_name_of_one (drop l.order-index l.orders) l.name
