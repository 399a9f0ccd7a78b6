-- What is published of an election.
use Rattle.std.specs.Prelude.{ℕ, ◌+◌, nat_le, nat_lt, Bool, true, ◌&&◌, List, [], ◌∷◌, map, Option}
use Rattle.std.specs.Option.{option_copied}
use Rattle.publication.specs.declared.election.PublishedElection.{PublishedElection}
use Rattle.publication.specs.declared.election.WardTexts.{WardTexts}

-- a ward as plain texts: its number, its name, and what the office prints of it; the declaration if it is declared, and the ballots if they are published
pub record WardEntry : Type 0 where
  pub number : ℕ
  pub name : List ℕ
  pub page : List ℕ
  pub sheet : List ℕ
  pub declaration : Option (List ℕ)
  pub table : List ℕ
  pub results : List ℕ
  pub ballots : Option (List ℕ)

-- an election as plain texts: its title, the page of all wards, and the sealed wards
pub record ElectionEntry : Type 0 where
  pub title : List ℕ
  pub index : List ℕ
  pub wards : List WardEntry

-- the texts of a ward
abbrev pub ward_entry : WardTexts → WardEntry
ward_entry ward = record {
  number = ward.number;
  name = ward.name.now;
  page = ward.page.now;
  sheet = ward.sheet.now;
  declaration = option_copied ward.declaration;
  table = ward.table.now;
  results = ward.results.now;
  ballots = option_copied ward.ballots;
}

-- the texts of an election
abbrev pub election_entry : PublishedElection → ElectionEntry
election_entry election = record { title = election.title.now; index = election.index.now; wards = map ward_entry election.wards.now }

-- the numbers of wards
abbrev pub numbers : List WardEntry → List ℕ
numbers wards = map (λ ward. ward.number) wards

-- whether numbers below 256 ascend, none twice, and the first is at least the given one
abbrev pub ascend_from : ℕ → List ℕ → Bool
ascend_from least [] = true
ascend_from least (n ∷ ns) = nat_le least n && (nat_lt n 256 && ascend_from (n + 1) ns)

-- whether wards are in ascending order of their numbers
abbrev pub are_in_order : List WardEntry → Bool
are_in_order wards = ascend_from 0 (numbers wards)
