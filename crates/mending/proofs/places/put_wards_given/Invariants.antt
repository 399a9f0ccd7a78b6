-- The invariant of the loop in `put_wards_given`: the wards so far, followed by those of the remaining orders, are all wards.
use Rattle.std.proofs.Common.{◌≡◌, ◌++◌, drop}
use Rattle.mending.specs.Changes.{wards_given}
use Rattle.mending.proofs.places.put_wards_given.Given as goal

abbrev pub invariant-loop-order : goal.invariant-loop-order
invariant-loop-order l = l.wards.items ++ wards_given (drop l.order-index l.orders) l.batch ≡ l.initial.wards.items ++ wards_given l.orders l.batch
