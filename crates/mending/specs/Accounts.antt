-- The account of a mended list: the fate of each order of the office, the reason for it, and the list that results.
use Rattle.std.specs.Prelude.{◌≡◌, ◌⊎◌, ⊤, ℕ, Bool, true, false, List, [], ◌∷◌, ◌++◌, Some, None, map, count_by}
use Rattle.std.specs.List.{flat_map}
use Rattle.register.specs.Machine.{Outcome, accepted_of, after, is_accepted, kept, refused, step_of}
use Rattle.register.specs.Offices.{OfficeState, empty_office}
use Rattle.register.specs.declared.command.Request.{Request}
use Rattle.mending.specs.Changes.{in_place_of, is_named, names_of, ward_changed, wards_about}
use Rattle.mending.specs.Mending.{MendPoint}
use Rattle.mending.specs.Reports.{left_line, replaced_line}
use Rattle.mending.specs.declared.changes.Changes.{Changes}
use Rattle.mending.specs.declared.reports.Cause.{Cause}
use Rattle.mending.specs.declared.reports.Cause.TheVariants.{Asked, Changed, Refused, Unaccepted, Repeated}

-- the fate of an order of the office: it was kept, another replaced it, or it was left out
pub data Fate : Type 0 where
  stays : Fate
  makes_way : Request → Fate
  goes : Cause → Fate

-- an order of the office, and its fate
pub record Turn : Type 0 where
  pub order : Request
  pub fate : Fate

-- ---- what a turn results in

-- in the new list: the order itself if it was kept, or the one that replaced it
abbrev pub orders_from : Request → Fate → List Request
orders_from r stays = r ∷ []
orders_from r (makes_way other) = other ∷ []
orders_from r (goes cause) = []

-- in what is printed: a line, unless it was kept
abbrev pub lines_on : Request → Fate → List ℕ
lines_on r stays = []
lines_on r (makes_way other) = replaced_line r other
lines_on r (goes cause) = left_line r cause

-- the wards that changed: those that it was about, unless it was kept
abbrev pub wards_changed : List Request → Request → Fate → List ℕ
wards_changed orders r stays = []
wards_changed orders r (makes_way other) = wards_about orders r.command ++ wards_about orders other.command
wards_changed orders r (goes cause) = wards_about orders r.command

-- ... and what several turns result in, one after another
abbrev pub list_of : List Turn → List Request
list_of = flat_map (λ (t : Turn). orders_from t.order t.fate)

abbrev pub text_of : List Turn → List ℕ
text_of = flat_map (λ (t : Turn). lines_on t.order t.fate)

abbrev pub wards_of : List Request → List Turn → List ℕ
wards_of orders = flat_map (λ (t : Turn). wards_changed orders t.order t.fate)

-- the state that the part of the new list from these turns leads to
abbrev pub state_of : List Turn → OfficeState
state_of turns = after empty_office (list_of turns)

-- ---- the number of orders with each fate

abbrev pub is_kept : Fate → Bool
is_kept stays = true
is_kept (makes_way other) = false
is_kept (goes cause) = false

abbrev pub is_replaced : Fate → Bool
is_replaced stays = false
is_replaced (makes_way other) = true
is_replaced (goes cause) = false

abbrev pub is_left_out : Fate → Bool
is_left_out stays = false
is_left_out (makes_way other) = false
is_left_out (goes cause) = true

-- ---- the reasons

-- the machine had already accepted an order with the same id
abbrev pub IsRepeated : Outcome → Type 0
IsRepeated o = (reply : List ℕ) × (o ≡ kept reply)

-- An order is due to be sent after these turns: no other replaces it, it isn't named, and it counts no ward that changed.
pub record IsDue (changes : Changes) (before : List Turn) (r : Request) : Type 0 where
  pub unplaced : in_place_of changes.instead.now r ≡ None
  pub unnamed : is_named (names_of changes) r ≡ false
  pub unchanged : ward_changed (wards_of changes.orders.now before) r.command ≡ None

-- The reason for the fate of an order after these turns. If it was kept, it was due, and the machine accepts it. If it made way, another is to replace it, and the
-- machine accepts that one. If it was left out as requested or because it counts a ward that changed, no other is to replace it. Otherwise it was left out for one of
-- three reasons. It was due, and the machine refuses it; the machine refuses the order that is to replace it; or its id, or the id of that order, was already used.
abbrev pub IsJust : Changes → List Turn → Request → Fate → Type 0
IsJust changes before r stays = IsDue changes before r × (is_accepted (step_of (state_of before) r) ≡ true)
IsJust changes before r (makes_way other) = (in_place_of changes.instead.now r ≡ Some other) × (is_accepted (step_of (state_of before) other) ≡ true)
IsJust changes before r (goes Asked) = (in_place_of changes.instead.now r ≡ None) × (is_named (names_of changes) r ≡ true)
IsJust changes before r (goes (Changed ward)) = (in_place_of changes.instead.now r ≡ None) × (ward_changed (wards_of changes.orders.now before) r.command ≡ Some ward)
IsJust changes before r (goes (Refused why)) = IsDue changes before r × (step_of (state_of before) r ≡ refused why)
IsJust changes before r (goes (Unaccepted why)) = (other : Request) × (in_place_of changes.instead.now r ≡ Some other) × (step_of (state_of before) other ≡ refused why)
IsJust changes before r (goes Repeated) =
    (IsDue changes before r × IsRepeated (step_of (state_of before) r))
    ⊎ ((other : Request) × (in_place_of changes.instead.now r ≡ Some other) × IsRepeated (step_of (state_of before) other))

-- each of these turns has its reason, given the turns before it
abbrev pub AreJust : Changes → List Turn → List Turn → Type 0
AreJust changes before [] = ⊤
AreJust changes before (t ∷ turns) = IsJust changes before t.order t.fate × AreJust changes (before ++ t ∷ []) turns

-- The result of mending a list is accounted for. Each order of the office has a turn, in sequence, with its reason. The new list has the orders that were kept and those
-- that replaced others, in that sequence, and nothing else. Each was accepted after those before it, and they lead to this state. What is printed is a line for each
-- order that was left out or replaced, and the numbers count the orders with each fate.
pub record IsMended (changes : Changes) (p : MendPoint) : Type 0 where
  pub turns : List Turn
  pub each : map (λ (t : Turn). t.order) turns ≡ changes.orders.now
  pub just : AreJust changes [] turns
  pub sent : p.sent ≡ list_of turns
  pub accepted : accepted_of empty_office p.sent ≡ p.sent
  pub leads : p.state ≡ after empty_office p.sent
  pub told : p.told ≡ text_of turns
  pub kept_orders : p.kept_orders ≡ count_by (λ (t : Turn). is_kept t.fate) turns
  pub replaced_orders : p.replaced_orders ≡ count_by (λ (t : Turn). is_replaced t.fate) turns
  pub left_orders : p.left_orders ≡ count_by (λ (t : Turn). is_left_out t.fate) turns
