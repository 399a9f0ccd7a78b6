-- What is published of an office at a state, and the files of the folder in which that is done.
use Rattle.std.specs.Prelude.{ℕ, Bool, if◌then◌else◌, List, map, Option, Some, None}
use Rattle.std.specs.List.{filter}
use Rattle.register.specs.Elections.{ElectionEntry, election_of, is_counted, is_declared}
use Rattle.register.specs.Offices.{OfficeState, WardEntry}
use Rattle.office.specs.Index.{index_of}
use Rattle.office.specs.Sheets.{ballots_of, declaration_of, result_page_of, results_of, sheet_of, table_of}
use Rattle.publication.specs.Election.{ElectionEntry as PublishedEntry, WardEntry as PublishedWard}
use Rattle.publication.specs.Files.{FileEntry}
use Rattle.publication.specs.Folder.{published}

-- the wards whose results are published: those that are sealed
abbrev pub sealed_wards : OfficeState → List WardEntry
sealed_wards s = filter (λ (w : WardEntry). is_counted w.phase) s.wards

-- the declaration of an election, once it is declared
abbrev pub declaration_in : ElectionEntry → Option (List ℕ)
declaration_in e = if is_declared e.ward.phase then Some (declaration_of e) else None

-- the ballots of an election, if they are to be published
abbrev pub ballots_in : Bool → ElectionEntry → Option (List ℕ)
ballots_in with_ballots e = if with_ballots then Some (ballots_of e) else None

-- the texts of an election that are published, its page with this title
abbrev pub texts_of : List ℕ → Bool → ElectionEntry → PublishedWard
texts_of title with_ballots e = record {
  number = e.ward.number;
  name = e.ward.name;
  page = result_page_of title e;
  sheet = sheet_of e;
  declaration = declaration_in e;
  table = table_of e;
  results = results_of e;
  ballots = ballots_in with_ballots e;
}

-- what is published of each sealed ward
abbrev pub wards_published : List ℕ → Bool → OfficeState → List PublishedWard
wards_published title with_ballots s = map (λ (w : WardEntry). texts_of title with_ballots (election_of s w)) (sealed_wards s)

-- what is published of the office: the page of all wards, and the texts of each sealed ward, all of them at the same state
abbrev pub election_published : List ℕ → Bool → OfficeState → PublishedEntry
election_published title with_ballots s = record { title = title; index = index_of title s; wards = wards_published title with_ballots s }

-- the files of the folder, given the title, whether it has the ballots, and the state
abbrev pub published_of : List ℕ → Bool → OfficeState → List FileEntry
published_of title with_ballots s = published (election_published title with_ballots s)
