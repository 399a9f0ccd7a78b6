-- The changes to the orders of an office: which are left out, which replace others, and which wards are affected.
use Rattle.std.specs.Prelude.{◌≡◌, ℕ, Bool, true, not, ◌==◌, ◌&&◌, List, [], ◌∷◌, Option, Some, None, find, map, string_bytes, if◌then◌else◌, count_by}
use Rattle.std.specs.List.{flat_map, list_any, list_all}
use Rattle.std.specs.Str.{bytes_eq}
use Rattle.register.specs.Machine.{subject_of}
use Rattle.register.specs.declared.command.Command.{Command}
use Rattle.register.specs.declared.command.Command.TheVariants as command
use Rattle.register.specs.declared.command.Request.{Request}
use Rattle.register.specs.declared.wards.WardCommand.TheVariants as ward_command
use Rattle.register.specs.declared.candidates.CandidateCommand.TheVariants as candidate_command
use Rattle.register.specs.declared.batches.BatchCommand.TheVariants as batch_command
use Rattle.register.specs.declared.counts.CountCommand.TheVariants as count_command
use Rattle.mending.specs.Names.{order_name}
use Rattle.mending.specs.declared.changes.Changes.{Changes}
use Rattle.mending.specs.declared.changes.Flaw.{Flaw}
use Rattle.mending.specs.declared.changes.Flaw.TheVariants.{NoSuchOrder, NotOne, Several}
use Rattle.mending.specs.declared.places.Place.{Place}
use Rattle.mending.specs.declared.places.Place.TheVariants as place

-- the names of the orders to leave out
abbrev pub names_of : Changes → List (List ℕ)
names_of changes = map string_bytes changes.without.now

-- whether an order is named
abbrev pub is_named : List (List ℕ) → Request → Bool
is_named names r = list_any (bytes_eq (order_name r)) names

-- whether the other order may replace this one: it has the same actor and the same subject
abbrev pub takes_place_of : Request → Request → Bool
takes_place_of r other = r.actor == other.actor && bytes_eq (subject_of r.command) (subject_of other.command)

-- the order that replaces the given one, if any
abbrev pub in_place_of : List Request → Request → Option Request
in_place_of instead r = find (takes_place_of r) instead

-- ---- wards

-- the ward or batch that a command is about
abbrev pub place_of : Command → Place
place_of (command.Ward (ward_command.Add ward seats name)) = place.Ward ward
place_of (command.Ward (ward_command.Close ward)) = place.Ward ward
place_of (command.Candidate (candidate_command.Add ward candidate name)) = place.Ward ward
place_of (command.Candidate (candidate_command.Withdraw ward candidate)) = place.Ward ward
place_of (command.Batch (batch_command.Add batch ward size first_clerk second_clerk)) = place.Ward ward
place_of (command.Batch (batch_command.Again batch)) = place.Batch batch
place_of (command.Batch (batch_command.Third batch clerk)) = place.Batch batch
place_of (command.Keying k) = place.Batch k.batch
place_of (command.Verdict v) = place.Batch v.batch
place_of (command.Count (count_command.Seal ward)) = place.Ward ward
place_of (command.Count (count_command.Advance ward)) = place.Ward ward
place_of (command.Count (count_command.Lot ward stage candidate)) = place.Ward ward
place_of (command.Count (count_command.Declare ward)) = place.Ward ward

-- the ward of this batch, if the command gives it out
abbrev pub ward_given : ℕ → Command → Option ℕ
ward_given number (command.Batch (batch_command.Add batch ward size first_clerk second_clerk)) = if batch == number then Some ward else None
ward_given number other = None

-- the number as a list: empty, or with one element
abbrev pub none_or_one : Option ℕ → List ℕ
none_or_one None = []
none_or_one (Some n) = n ∷ []

-- the wards for which the orders give out this batch
abbrev pub wards_given : List Request → ℕ → List ℕ
wards_given orders number = flat_map (λ (r : Request). none_or_one (ward_given number r.command)) orders

-- the wards of a place; for a batch, the wards for which these orders give it out
abbrev pub wards_at : List Request → Place → List ℕ
wards_at orders (place.Ward ward) = ward ∷ []
wards_at orders (place.Batch batch) = wards_given orders batch

-- the wards that a command is about
abbrev pub wards_about : List Request → Command → List ℕ
wards_about orders c = wards_at orders (place_of c)

-- the ward in which a command counts a stage, records a lot or declares the result, if it does one of these
abbrev pub ward_counted : Command → Option ℕ
ward_counted (command.Count (count_command.Advance ward)) = Some ward
ward_counted (command.Count (count_command.Lot ward stage candidate)) = Some ward
ward_counted (command.Count (count_command.Declare ward)) = Some ward
ward_counted other = None

-- the ward, if it is among these wards
abbrev pub among : List ℕ → Option ℕ → Option ℕ
among wards None = None
among wards (Some ward) = if list_any (λ w. w == ward) wards then Some ward else None

-- the ward that a command counts, if that ward is among those that changed
abbrev pub ward_changed : List ℕ → Command → Option ℕ
ward_changed wards c = among wards (ward_counted c)

-- ---- whether the changes can be made

-- whether a name is that of one of the orders
abbrev pub is_name_of_one : List Request → List ℕ → Bool
is_name_of_one orders name = list_any (λ r. bytes_eq (order_name r) name) orders

-- how many of the orders the other order could replace
abbrev pub places_for : List Request → Request → ℕ
places_for orders other = count_by (λ r. takes_place_of r other) orders

-- each name is that of an order
abbrev pub AreNamed : Changes → Type 0
AreNamed changes = list_all (is_name_of_one changes.orders.now) (names_of changes) ≡ true

-- each replacing order matches exactly one order
abbrev pub ArePlaced : Changes → Type 0
ArePlaced changes = list_all (λ other. places_for changes.orders.now other == 1) changes.instead.now ≡ true

-- The changes can be made: each name is that of an order, and each replacing order matches exactly one order and is the only one that does.
pub record CanBeMade (changes : Changes) : Type 0 where
  pub named : AreNamed changes
  pub placed : ArePlaced changes
  pub once : list_all (λ other. places_for changes.instead.now other == 1) changes.instead.now ≡ true

-- the first of the names that isn't the name of any order
abbrev pub first_unnamed : List Request → List (List ℕ) → Option (List ℕ)
first_unnamed orders names = find (λ name. not (is_name_of_one orders name)) names

-- the first of the replacing orders that doesn't match exactly one of the orders
abbrev pub first_unplaced : List Request → List Request → Option Request
first_unplaced orders instead = find (λ other. not (places_for orders other == 1)) instead

-- the first of the replacing orders that doesn't match exactly one of these orders has this subject, and matches this many of them
abbrev pub MissesOne : List Request → List Request → ℕ → List ℕ → Type 0
MissesOne orders instead count subject = (other : Request) × (first_unplaced orders instead ≡ Some other) × (places_for orders other ≡ count) × (subject ≡ subject_of other.command)

-- The first reason why the changes can't be made. No order has this name, and it is the first such name. If each name is that of an order: this many orders, rather than
-- exactly one, could be replaced by the first such order, which has this subject. If each replacing order matches exactly one: this many orders, rather than one, are
-- to replace the order with this subject.
abbrev pub IsFlawOf : Changes → Flaw → Type 0
IsFlawOf changes (NoSuchOrder name) = first_unnamed changes.orders.now (names_of changes) ≡ Some (string_bytes name)
IsFlawOf changes (NotOne count subject) = AreNamed changes × MissesOne changes.orders.now changes.instead.now count (string_bytes subject)
IsFlawOf changes (Several count subject) = AreNamed changes × ArePlaced changes × MissesOne changes.instead.now changes.instead.now count (string_bytes subject)
