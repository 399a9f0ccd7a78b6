-- The page listing all wards in a given state.
use Rattle.std.specs.Prelude.{ℕ, Bool, false, nat_eq, nat_lt, List, map, Option, Some, None, Result, Ok}
use Rattle.std.specs.List.{filter, list_any}
use Rattle.sheet.specs.Index.{ListedEntry, index}
use Rattle.sheet.specs.declared.index.WardStanding.{WardStanding}
use Rattle.sheet.specs.declared.index.WardStanding.TheVariants as standing
use Rattle.register.specs.declared.phase.Phase.{Phase}
use Rattle.register.specs.declared.phase.Phase.TheVariants.{Nominations, Keying, Sealed, Declared}
use Rattle.register.specs.declared.refusal.Reason.{Reason}
use Rattle.register.specs.Offices.{CandidateEntry, OfficeState}
use Rattle.store.specs.Overviews.{WardView, ward_views}
use Rattle.office.specs.Sheets.{candidate_shown}

-- the public standing of a ward in the given phase
abbrev pub standing_in : Phase → WardStanding
standing_in Nominations = standing.Nominations
standing_in Keying = standing.Keying
standing_in Sealed = standing.Sealed
standing_in Declared = standing.Declared

-- whether the elected candidates are known and include the given candidate
abbrev pub is_among_elected : Option (List ℕ) → CandidateEntry → Bool
is_among_elected None c = false
is_among_elected (Some elected) c = list_any (nat_eq c.number) elected

-- a ward's entry in the list, with whether it has more candidates than seats, and the numbers and names of the elected candidates once the ward is declared
abbrev pub listed_shown : WardView → ListedEntry
listed_shown v = record {
  number = v.ward.number;
  name = v.ward.name;
  seats = v.ward.seats;
  standing = standing_in v.ward.phase;
  is_contested = nat_lt v.ward.seats v.status.candidates;
  elected = map candidate_shown (filter (is_among_elected v.elected) v.candidates);
}

-- the page listing all wards in numerical order, with the given title
abbrev pub index_of : List ℕ → OfficeState → List ℕ
index_of title s = index title (map listed_shown (ward_views s))

-- the answer to a request for the page, which is never refused
abbrev pub index_answer : List ℕ → OfficeState → Result (List ℕ) Reason
index_answer title s = Ok (index_of title s)
