-- The invariant of the loop in `places_for`: the number so far, plus that of the remaining orders, is the number for all orders.
use Rattle.std.proofs.Common.{◌≡◌, ◌+◌, ◌≤◌, drop}
use Rattle.mending.specs.Changes.{places_for}
use Rattle.mending.proofs.checking.places_for.Given as goal

abbrev pub invariant-loop-order : goal.invariant-loop-order
invariant-loop-order l = record {
  counted : l.count + places_for (drop l.order-index l.orders) l.other ≡ places_for l.orders l.other;
  within : l.count ≤ l.order-index;
}
