-- A folder in which an election was published, checked by nothing but its own files: what has to be in it.
use Rattle.std.specs.Prelude.{◌≡◌, ◌≤◌, ◌+◌, ℕ, nat_eq, nat_lt, Bool, true, false, if◌then◌else◌, List, [], ◌∷◌, length, map, take, option_map, Option, Some, None, Ok, ⊤}
use Rattle.std.specs.List.{All, Contains, filter, find, list_any}
use Rattle.std.specs.Str.{is_utf8}
use Rattle.count.specs.Bundles.{Bundle}
use Rattle.count.specs.declared.count_to_end.CountEnd.{CountEnd}
use Rattle.count.specs.declared.count_to_end.CountEnd.TheVariants as end
use Rattle.count.specs.declared.stages.Stage.{Stage}
use Rattle.publication.specs.Election.{ElectionEntry, WardEntry, ascend_from}
use Rattle.publication.specs.Files.{FileEntry, names}
use Rattle.publication.specs.Folder.{published}
use Rattle.sheet.specs.Ballots.{ballots}
use Rattle.sheet.specs.Entries.{SheetEntry}
use Rattle.sheet.specs.Index.{ListedEntry, index}
use Rattle.sheet.specs.Page.{page}
use Rattle.sheet.specs.Results.{results}
use Rattle.sheet.specs.Sheet.{declaration, sheet}
use Rattle.sheet.specs.Spreadsheet.{spreadsheet}
use Rattle.sheet.specs.declared.index.WardStanding.TheVariants as standing
use Rattle.sheet.specs.declared.surpluses.PassedOn.{PassedOn}
use Rattle.checker.specs.Counts.{IsWardCount, lots_in, surpluses_in}
use Rattle.checker.specs.InputFiles.{InputFiles, HoldsInside, HoldsNames}
use Rattle.checker.specs.Reading.{ReaderEntry, read}
use Rattle.checker.specs.Tokens.{Text}
use Rattle.checker.specs.Wards.{ward_told}
use Rattle.checker.specs.declared.counting.WardCount.{WardCount}

-- ---- the texts of a sealed ward

-- the candidates elected, once the ward is declared
abbrev pub elected_in : List (ℕ × Text) → List ℕ → Bool → List (ℕ × Text)
elected_in candidates elected is_declared = if is_declared then filter (λ candidate. list_any (nat_eq candidate.0) elected) candidates else []

-- the ward on the page of all wards
abbrev pub listed_as : SheetEntry → List ℕ → Bool → ListedEntry
listed_as ward elected is_declared = record {
  number = ward.number;
  name = ward.name;
  seats = ward.seats;
  standing = if is_declared then standing.Declared else standing.Sealed;
  is_contested = nat_lt ward.seats (length ward.candidates);
  elected = elected_in ward.candidates elected is_declared;
}

-- its texts, as the office publishes them under the given title, with its ballots; they show the given stages, and the papers that passed on with their surpluses
abbrev pub texts_as : Text → SheetEntry → List Bundle → List (ℕ × ℕ) → List Stage → List PassedOn → List ℕ → Bool → WardEntry
texts_as title ward bundles lots stages surpluses elected is_declared = record {
  number = ward.number;
  name = ward.name;
  page = page ward title is_declared stages lots surpluses;
  sheet = sheet ward stages;
  declaration = if is_declared then Some (declaration ward elected) else None;
  table = spreadsheet ward stages;
  results = results ward is_declared stages lots;
  ballots = Some (ballots ward bundles lots);
}

-- ---- the wards of a folder

-- a sealed ward: what its ballots say, their count as far as it goes, the stages that its texts show, and whether it is declared
pub record SealedEntry : Type 0 where
  pub reading : ReaderEntry
  pub count : WardCount
  pub stages : List Stage
  pub is_declared : Bool

abbrev pub ward_of : SealedEntry → SheetEntry
ward_of w = ward_told w.reading

-- the lots that its texts show; an uncontested ward has none
abbrev pub lots_of : SealedEntry → List (ℕ × ℕ)
lots_of w = lots_in (ward_of w).poll w.reading.remarks.lots

-- its ballots, as the office prints them
abbrev pub ballots_of : SealedEntry → Text
ballots_of w = ballots (ward_of w) w.reading.papers.bundles (lots_of w)

-- the stages that a ward's texts show are the first ones of its count, and all of them if it is declared: the office may not have carried out the others yet
pub record AreShown (is_declared : Bool) (all stages : List Stage) : Type 0 where
  pub done : ℕ
  pub first : stages ≡ take done all
  pub whole : is_declared ≡ true → stages ≡ all

-- the stage of the first lot that can't have been drawn yet when the given stages are done: it is later than the next one
abbrev pub early_lot : List Stage → List (ℕ × ℕ) → Option ℕ
early_lot stages lots = option_map (λ lot. lot.0) (find (λ lot. nat_lt (length stages + 1) lot.0) lots)

-- how the count of a ward may end: that of a declared ward is finished; that of another may be waiting for a lot
abbrev pub MayEnd : Bool → CountEnd → Type 0
MayEnd is_declared end.Finished = ⊤
MayEnd is_declared (end.LotNeeded stage among) = is_declared ≡ false
MayEnd is_declared (end.LotNotAmong stage) = ⊥

-- The ward is the one that its ballots describe, and it has the count of these ballots with the lots recorded in them, which is the only count by the rules. Each lot that its
-- texts show was drawn in that count, at one of the stages that they show or at the next one.
pub record IsSealed (w : SealedEntry) : Type 0 where
  pub understood : read (ballots_of w) ≡ Ok w.reading
  pub counted : IsWardCount (ward_of w).poll (ward_of w) w.reading.papers.bundles w.reading.remarks.lots w.count
  pub ends : MayEnd w.is_declared w.count.end
  pub shows : AreShown w.is_declared w.count.stages.items w.stages
  pub drawn : early_lot w.stages (lots_of w) ≡ None

-- a ward that isn't sealed: its number, name and seats, and whether its papers are being keyed
pub record UnsealedEntry : Type 0 where
  pub number : ℕ
  pub name : Text
  pub seats : ℕ
  pub is_keying : Bool

pub data FolderWard : Type 0 where
  is_sealed : SealedEntry → FolderWard
  is_unsealed : UnsealedEntry → FolderWard

-- the sealed wards
abbrev pub sealed_in : List FolderWard → List SealedEntry
sealed_in [] = []
sealed_in (is_sealed w ∷ wards) = w ∷ sealed_in wards
sealed_in (is_unsealed w ∷ wards) = sealed_in wards

-- a ward on the page of all wards, which shows of one that isn't sealed neither whether it is contested nor whom it elects
abbrev pub listed_of : FolderWard → ListedEntry
listed_of (is_sealed w) = listed_as (ward_of w) w.count.elected w.is_declared
listed_of (is_unsealed w) = record {
  number = w.number;
  name = w.name;
  seats = w.seats;
  standing = if w.is_keying then standing.Keying else standing.Nominations;
  is_contested = false;
  elected = [];
}

-- the papers that passed on with each surplus at the stages that its texts show
abbrev pub passed_of : SealedEntry → List PassedOn
passed_of w = surpluses_in (ward_of w).poll (ward_of w) w.reading.papers.bundles w.reading.remarks.lots (length w.stages)

-- the texts of a sealed ward
abbrev pub texts_of : Text → SealedEntry → WardEntry
texts_of title w = texts_as title (ward_of w) w.reading.papers.bundles (lots_of w) w.stages (passed_of w) w.count.elected w.is_declared

-- what is published of the wards under the given title
abbrev pub election_of : Text → List FolderWard → ElectionEntry
election_of title wards = record { title = title; index = index title (map listed_of wards); wards = map (texts_of title) (sealed_in wards) }

-- ---- the folder

-- The files are those that are published of the given wards under the given title. The wards are in the order of their numbers, and each sealed one is counted from its
-- ballots.
pub record ArePublished (title : Text) (wards : List FolderWard) (files : List FileEntry) : Type 0 where
  pub counted : All IsSealed (sealed_in wards)
  pub ordered : ascend_from 0 (map (λ ward. (listed_of ward).number) wards) ≡ true
  pub are : files ≡ published (election_of title wards)

-- the files are those of a published election
pub record IsPublishedFolder (files : List FileEntry) : Type 0 where
  pub title : Text
  pub wards : List FolderWard
  pub so : ArePublished title wards files

-- the wards that aren't sealed
abbrev pub unsealed_in : List FolderWard → List UnsealedEntry
unsealed_in [] = []
unsealed_in (is_sealed w ∷ wards) = unsealed_in wards
unsealed_in (is_unsealed w ∷ wards) = w ∷ unsealed_in wards

-- a ward that isn't sealed, as it may occur in an office: its name is UTF-8, and the number of its seats fits in one byte
pub record IsUnsealedText (w : UnsealedEntry) : Type 0 where
  pub name : is_utf8 w.name ≡ true
  pub seats : w.seats ≤ 255

-- the files are those of a published election, as it may occur in an office: its title is UTF-8, and so are the names of the wards that aren't sealed
pub record IsOfficeFolder (files : List FileEntry) : Type 0 where
  pub title : Text
  pub wards : List FolderWard
  pub so : ArePublished title wards files
  pub title_text : is_utf8 title ≡ true
  pub unsealed : All IsUnsealedText (unsealed_in wards)

-- the folder at the given path has exactly the given files: each is there with its bytes, and nothing else is there
pub record HasExactly (held : InputFiles) (path : Text) (files : List FileEntry) : Type 0 where
  pub inside : List Text
  pub listed : HoldsNames held path inside
  pub there : All (λ (file : FileEntry). Contains inside file.name) files
  pub same : All (λ (file : FileEntry). HoldsInside held path file.name file.text) files
  pub alone : All (Contains (names files)) inside

-- the folder at the given path has exactly the files of a published election, and this number of them
pub record IsConfirmedFolder (held : InputFiles) (path : Text) (count : ℕ) : Type 0 where
  pub files : List FileEntry
  pub has : HasExactly held path files
  pub is : IsPublishedFolder files
  pub many : count ≡ length files
