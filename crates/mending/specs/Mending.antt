-- The list of orders that results from leaving some out and replacing others, order by order, with the state that it leads to and what is printed about it.
use Rattle.std.specs.Prelude.{◌≡◌, ◌+◌, ℕ, Bool, true, false, List, [], ◌∷◌, ◌++◌, Option, Some, None, fold, string_bytes}
use Rattle.register.specs.Machine.{Outcome, accepted, kept, refused, state_after, step_of}
use Rattle.register.specs.Offices.{OfficeState, empty_office}
use Rattle.register.specs.declared.command.Request.{Request}
use Rattle.mending.specs.Changes.{in_place_of, is_named, names_of, ward_changed, wards_about}
use Rattle.mending.specs.Reports.{left_line, replaced_line}
use Rattle.mending.specs.declared.changes.Changes.{Changes}
use Rattle.mending.specs.declared.mended.Mended.{Mended}
use Rattle.mending.specs.declared.recipients.Sent.{Sent}
use Rattle.mending.specs.declared.recipients.Sent.TheVariants.{Accepted, Known, Denied}
use Rattle.mending.specs.declared.reports.Cause.{Cause}
use Rattle.mending.specs.declared.reports.Cause.TheVariants.{Asked, Changed, Refused, Unaccepted, Repeated}

-- The progress of mending a list: the state, the orders that led to it, the wards on which an order was left out or replaced, what is printed, and how many orders were
-- kept, replaced and left out.
pub record MendPoint : Type 0 where
  pub state : OfficeState
  pub sent : List Request
  pub changed : List ℕ
  pub told : List ℕ
  pub kept_orders : ℕ
  pub replaced_orders : ℕ
  pub left_orders : ℕ

-- before the first order
abbrev pub start : OfficeState → MendPoint
start s = record { state = s; sent = []; changed = []; told = []; kept_orders = 0; replaced_orders = 0; left_orders = 0 }

-- an order is kept
abbrev pub keeping : MendPoint → Request → MendPoint
keeping p r = record p { sent = p.sent ++ r ∷ []; kept_orders = p.kept_orders + 1 }

-- an order is replaced by another
abbrev pub replacing : List Request → MendPoint → Request → Request → MendPoint
replacing orders p r other = record p {
  sent = p.sent ++ other ∷ [];
  changed = (p.changed ++ wards_about orders r.command) ++ wards_about orders other.command;
  told = p.told ++ replaced_line r other;
  replaced_orders = p.replaced_orders + 1;
}

-- an order is left out
abbrev pub leaving : List Request → MendPoint → Request → Cause → MendPoint
leaving orders p r cause = record p { changed = p.changed ++ wards_about orders r.command; told = p.told ++ left_line r cause; left_orders = p.left_orders + 1 }

-- the outcome of an order that was sent, given the outcome of the machine
abbrev pub sent_of : Outcome → Sent
sent_of (accepted next reply) = Accepted
sent_of (kept reply) = Known
sent_of (refused why) = Denied why

-- the order was sent: it is kept if it was accepted, and left out otherwise
abbrev pub after_sent : List Request → MendPoint → Request → Sent → MendPoint
after_sent orders p r Accepted = keeping p r
after_sent orders p r Known = leaving orders p r Repeated
after_sent orders p r (Denied why) = leaving orders p r (Refused why)

-- another order was sent in its place: it is replaced if the other was accepted, and left out otherwise
abbrev pub after_other : List Request → MendPoint → Request → Request → Sent → MendPoint
after_other orders p r other Accepted = replacing orders p r other
after_other orders p r other Known = leaving orders p r Repeated
after_other orders p r other (Denied why) = leaving orders p r (Unaccepted why)

-- the point with the state after an outcome
abbrev pub moved : MendPoint → Outcome → MendPoint
moved p outcome = record p { state = state_after p.state outcome }

-- The turn of an order. If another replaces it, that one is sent. Otherwise it is left out if it is named, or if it counts a ward that changed. Otherwise it is sent.
abbrev pub by_turn : List Request → MendPoint → Request → Option Request → Bool → Option ℕ → MendPoint
by_turn orders p r (Some other) named ward = after_other orders (moved p (step_of p.state other)) r other (sent_of (step_of p.state other))
by_turn orders p r None true ward = leaving orders p r Asked
by_turn orders p r None false (Some ward) = leaving orders p r (Changed ward)
by_turn orders p r None false None = after_sent orders (moved p (step_of p.state r)) r (sent_of (step_of p.state r))

unfoldable pub mend_one : Changes → MendPoint → Request → MendPoint
mend_one changes p r = by_turn changes.orders.now p r (in_place_of changes.instead.now r) (is_named (names_of changes) r) (ward_changed p.changed r.command)

-- several orders, one after another
abbrev pub mend_all : Changes → MendPoint → List Request → MendPoint
mend_all changes = fold (mend_one changes)

-- the orders of an office, with these changes, sent to an empty office
abbrev pub mended : Changes → MendPoint
mended changes = mend_all changes (start empty_office) changes.orders.now

-- the program's outcome so far matches this point: what is printed, the wards that changed, and how many orders were kept, replaced and left out
pub record IsPoint (p : MendPoint) (m : Mended) : Type 0 where
  pub told : string_bytes m.text ≡ p.told
  pub changed : m.changed.items ≡ p.changed
  pub kept_orders : m.kept ≡ p.kept_orders
  pub replaced_orders : m.replaced ≡ p.replaced_orders
  pub left_orders : m.left_out ≡ p.left_orders

-- the number of orders that have had their turn
abbrev pub turns_of : Mended → ℕ
turns_of m = m.kept + (m.replaced + m.left_out)
