-- The invariant of the loop in `mend`: from the point of the orders so far, the remaining orders lead to the point of all orders.
use Rattle.std.proofs.Common.{◌≡◌, drop}
use Rattle.register.specs.Offices.{empty_office}
use Rattle.mending.specs.Mending.{IsPoint, MendPoint, mend_all, mended, turns_of}
use Rattle.mending.proofs.mended.mend.Given as goal

abbrev pub invariant-loop-order : goal.invariant-loop-order
invariant-loop-order g l = record {
  turns : turns_of l.mended ≡ l.order-index;
  sound : g.R.Recipient.is_sound l.office → g.R.Recipient.is_sound l.initial.office;
  here : g.R.Recipient.is_sound l.office → g.R.Recipient.is_at l.initial.office empty_office
      → (p : MendPoint) × IsPoint p l.mended × g.R.Recipient.is_at l.office p.state × (mend_all l.changes p (drop l.order-index l.changes.orders.now) ≡ mended l.changes);
}
