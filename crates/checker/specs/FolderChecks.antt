-- The outcome of checking a folder.
use Rattle.std.specs.Prelude.{◌≡◌, ℕ, true, List, length, Some, Ok}
use Rattle.std.specs.List.{All, Contains}
use Rattle.publication.specs.Files.{FileEntry, names}
use Rattle.checker.specs.Folders.{IsConfirmedFolder, IsOfficeFolder, IsPublishedFolder}
use Rattle.checker.specs.FolderViews.{AreFound, are_same}
use Rattle.checker.specs.InputFiles.{InputFiles}
use Rattle.checker.specs.Tokens.{Text}
use Rattle.checker.specs.declared.folder_checking.FolderChecked.{FolderChecked}
use Rattle.checker.specs.declared.folder_checking.FolderChecked.TheVariants.{Confirmed, Differs}
use Rattle.checker.specs.declared.folder_files.FolderFile.{FolderFile}

-- it is known that the folder at the given path has exactly the given files
pub record IsKnownFolder (held : InputFiles) (path : Text) (files : List FileEntry) : Type 0 where
  pub inside : List Text
  pub listed : held.folders path ≡ Some (Ok inside)
  pub there : All (λ (file : FileEntry). Contains inside file.name) files
  pub same : All (λ (file : FileEntry). held.inside path file.name ≡ Some (Ok file.text)) files
  pub alone : All (Contains (names files)) inside

-- no office published the folder at the given path with the ballots, as far as its files are known: they aren't those of an election that may occur in an office
abbrev pub IsNoOfficeFolder : InputFiles → Text → Type 0
IsNoOfficeFolder held path = (files : List FileEntry) → IsKnownFolder held path files → ¬ (IsOfficeFolder files)

-- The outcome for the folder at the given path. It is confirmed only if it has exactly the files of a published election, and each folder that an office published with the
-- ballots is confirmed.
abbrev pub IsFolderChecked : InputFiles → Text → FolderChecked → Type 0
IsFolderChecked held path (Confirmed files) = IsConfirmedFolder held path files
IsFolderChecked held path (Differs lines) = IsNoOfficeFolder held path

-- the files that were read are confirmed only if they are the files of a published election
pub record IsFoundConfirmed (found : List FolderFile) (count : ℕ) : Type 0 where
  pub files : List FileEntry
  pub same : are_same found files ≡ true
  pub is : IsPublishedFolder files
  pub many : count ≡ length files

-- the outcome for the files that were read: if they aren't confirmed, no office published them with the ballots
abbrev pub IsFoundChecked : List FolderFile → FolderChecked → Type 0
IsFoundChecked found (Confirmed files) = IsFoundConfirmed found files
IsFoundChecked found (Differs lines) = (files : List FileEntry) → AreFound found files → ¬ (IsOfficeFolder files)
