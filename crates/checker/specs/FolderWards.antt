-- The wards of a folder as the checker makes them again.
use Rattle.std.specs.Prelude.{◌≡◌, ◌++◌, ℕ, Bool, List, [], ◌∷◌, length, map, option_map, Option, Some, None, Result, Ok, Err, codes, decimal, string_bytes, ⊤}
use Rattle.std.specs.List.{All}
use Rattle.publication.specs.Election.{ElectionEntry, WardEntry}
use Rattle.publication.specs.Parts.{ward_file}
use Rattle.sheet.specs.Index.{ListedEntry, index, listed}
use Rattle.count.specs.Bundles.{Bundle}
use Rattle.count.specs.declared.stages.Stage.{Stage}
use Rattle.sheet.specs.Entries.{SheetEntry}
use Rattle.sheet.specs.Lines.{plain}
use Rattle.sheet.specs.Sheet.{sheet}
use Rattle.sheet.specs.declared.ward.Poll.{Poll}
use Rattle.checker.specs.Counts.{IsWardCount, lots_in, surpluses_in}
use Rattle.checker.specs.Folders.{AreShown, FolderWard, IsSealed, IsUnsealedText, MayEnd, SealedEntry, UnsealedEntry}
use Rattle.checker.specs.Folders.{ballots_of, early_lot, is_sealed, is_unsealed, listed_as, listed_of, sealed_in, texts_as, texts_of, ward_of}
use Rattle.checker.specs.FolderViews.{bytes_named}
use Rattle.checker.specs.IndexPage.{PageEntry, RowEntry}
use Rattle.checker.specs.Reading.{ReaderEntry}
use Rattle.checker.specs.Wards.{ward_told}
use Rattle.checker.specs.declared.counting.WardCount.{WardCount}
use Rattle.checker.specs.Tokens.{Text}
use Rattle.checker.specs.declared.folder_texts.SealedTexts.{SealedTexts}
use Rattle.checker.specs.declared.folder_wards.SealedWard.{SealedWard}
use Rattle.checker.specs.declared.folder_election.FolderElection.{FolderElection}
use Rattle.checker.specs.declared.folder_files.FolderFile.{FolderFile}

-- the texts of a sealed ward
abbrev pub told_texts : SealedTexts → WardEntry
told_texts texts = record {
  number = texts.number;
  name = string_bytes texts.name;
  page = string_bytes texts.page;
  sheet = string_bytes texts.sheet;
  declaration = option_map string_bytes texts.declaration;
  table = string_bytes texts.table;
  results = string_bytes texts.results;
  ballots = Some (string_bytes texts.ballots);
}

-- Stages are those that the texts of a ward show, given the content of its sheet, if it was read: where that is the sheet of stages that may be shown, they are these.
pub record AreShownBy (ward : SheetEntry) (is_declared : Bool) (text : Option Text) (all stages : List Stage) : Type 0 where
  pub shows : AreShown is_declared all stages
  pub alone : (others : List Stage) → AreShown is_declared all others → text ≡ Some (sheet ward others) → stages ≡ others

-- a count has no stages if its ward is uncontested
abbrev pub HasStages : Option Poll → List Stage → Type 0
HasStages None stages = stages ≡ []
HasStages (Some poll) stages = ⊤

-- the count of a ward may end as it does, and the ward's texts may show the given stages and lots
pub record MayShow (lots : List (ℕ × ℕ)) (is_declared : Bool) (count : WardCount) (stages : List Stage) : Type 0 where
  pub ends : MayEnd is_declared count.end
  pub shows : AreShown is_declared count.stages.items stages
  pub drawn : early_lot stages lots ≡ None

-- a sealed ward was counted from the given bundles and lots, and made again under the given title, given the content of its sheet, if it was read
pub record IsCountMade (title : Text) (ward : SheetEntry) (bundles : List Bundle) (lots : List (ℕ × ℕ)) (is_declared : Bool) (text : Option Text) (made : SealedWard) : Type 0 where
  pub count : WardCount
  pub stages : List Stage
  pub counted : IsWardCount ward.poll ward bundles lots count
  pub ends : MayEnd is_declared count.end
  pub shows : AreShownBy ward is_declared text count.stages.items stages
  pub drawn : early_lot stages (lots_in ward.poll lots) ≡ None
  pub texts_are : told_texts made.texts ≡ texts_as title ward bundles (lots_in ward.poll lots) stages (surpluses_in ward.poll ward bundles lots (length stages)) count.elected is_declared
  pub listed_is : listed made.listed ≡ listed_as ward count.elected is_declared

-- the same, from the content of a file of ballots
abbrev pub IsReadingMade : Text → ReaderEntry → Bool → Option Text → SealedWard → Type 0
IsReadingMade title reading is_declared text made = IsCountMade title (ward_told reading) reading.papers.bundles reading.remarks.lots is_declared text made

-- a sealed ward was made again under the given title
pub record IsWardMade (title : Text) (made : SealedWard) : Type 0 where
  pub ward : SealedEntry
  pub so : IsSealed ward
  pub texts_are : told_texts made.texts ≡ texts_of title ward
  pub listed_is : listed made.listed ≡ listed_of (is_sealed ward)

-- a sealed ward was made again under the given title, as the given one
pub record IsMadeAs (title : Text) (ward : SealedEntry) (made : SealedWard) : Type 0 where
  pub texts_are : told_texts made.texts ≡ texts_of title ward
  pub listed_is : listed made.listed ≡ listed_of (is_sealed ward)

-- a sealed ward is made again from the given ballots, by the content of its sheet, if that was read
pub record IsMadeFrom (ward : SealedEntry) (ballots : Text) (is_declared : Bool) (text : Option Text) : Type 0 where
  pub so : IsSealed ward
  pub ballots_are : ballots ≡ ballots_of ward
  pub declared_is : is_declared ≡ ward.is_declared
  pub sheet_is : text ≡ Some (sheet (ward_of ward) ward.stages)

-- a ward that isn't sealed was made again, as it is listed
pub record IsUnsealedMade (listed_ward : ListedEntry) : Type 0 where
  pub ward : UnsealedEntry
  pub listed_is : listed_ward ≡ listed_of (is_unsealed ward)

-- wards were made again under the given title: as they are listed, and the texts of those that are sealed
pub record AreWardsMade (title : Text) (listed_wards : List ListedEntry) (texts : List WardEntry) : Type 0 where
  pub wards : List FolderWard
  pub so : All IsSealed (sealed_in wards)
  pub listed_are : listed_wards ≡ map listed_of wards
  pub texts_are : texts ≡ map (texts_of title) (sealed_in wards)

abbrev pub IsElectionMade : Text → FolderElection → Type 0
IsElectionMade title election = AreWardsMade title (map listed election.listed.items) (map told_texts election.sealed.items)

-- what is published of such wards
abbrev pub made_election : Text → FolderElection → ElectionEntry
made_election title election = record { title = title; index = index title (map listed election.listed.items); wards = map told_texts election.sealed.items }

-- ---- the wards of an office's folder

-- a result is as it has to be, unless it is the given error
abbrev pub OkUnless : {X E : Type 0} → E → Result X E → (X → Type 0) → Type 0
OkUnless unless (Ok x) P = P x
OkUnless unless (Err e) P = e ≡ unless

-- the row of a ward on the page of all wards, as it is read
abbrev pub row_listed : ListedEntry → RowEntry
row_listed ward = record { number = ward.number; name = plain ward.name; seats = decimal ward.seats; standing = ward.standing }

-- the page of all wards with the given title, as it is read
abbrev pub page_of : Text → List FolderWard → PageEntry
page_of title wards = record { title = plain title; rows = map (λ ward. row_listed (listed_of ward)) wards }

-- the texts from which a ward is made again are among the files of a folder
pub record HasTexts (found : List FolderFile) (ward : SealedEntry) : Type 0 where
  pub so : IsSealed ward
  pub ballots : bytes_named (ward_file (ward_of ward).number (codes "-ballots.txt")) found ≡ Some (ballots_of ward)
  pub sheet_is : bytes_named (ward_file (ward_of ward).number (codes "-sheet.txt")) found ≡ Some (sheet (ward_of ward) ward.stages)

-- a ward can be made again from a folder
abbrev pub IsGiven : List FolderFile → FolderWard → Type 0
IsGiven found (is_sealed ward) = HasTexts found ward
IsGiven found (is_unsealed ward) = IsUnsealedText ward

-- a ward was appended to those that were made again under the given title
pub record IsAppended (title : Text) (old new : FolderElection) (ward : FolderWard) : Type 0 where
  pub listed_are : map listed new.listed.items ≡ map listed old.listed.items ++ listed_of ward ∷ []
  pub texts_are : map told_texts new.sealed.items ≡ map told_texts old.sealed.items ++ map (texts_of title) (sealed_in (ward ∷ []))

-- the given wards were made again under the given title
pub record AreMadeAs (title : Text) (wards : List FolderWard) (election : FolderElection) : Type 0 where
  pub listed_are : map listed election.listed.items ≡ map listed_of wards
  pub texts_are : map told_texts election.sealed.items ≡ map (texts_of title) (sealed_in wards)
