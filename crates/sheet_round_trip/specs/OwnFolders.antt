-- An office's own folders, checked independently of it: the files that it publishes with its ballots at a state, compared with those that are made again from these ballots alone.
use Rattle.std.specs.Prelude.{◌≡◌, ℕ, true, List, length}
use Rattle.std.specs.Str.{is_utf8}
use Rattle.register.specs.Offices.{OfficeState}
use Rattle.register.specs.StateConditions.{IsState}
use Rattle.checker.specs.FolderChecks.{IsFolderChecked, IsKnownFolder}
use Rattle.checker.specs.Folders.{IsOfficeFolder}
use Rattle.checker.specs.InputFiles.{AreNamesUnreadBy, InputFiles}
use Rattle.checker.specs.declared.folder_checking.FolderChecked.{FolderChecked}
use Rattle.checker.specs.declared.folder_checking.FolderChecked.TheVariants.{Confirmed}
use Rattle.checker.specs.declared.input_files.NotRead.{NotRead}
use Rattle.checker.specs.declared.input_files.NotRead.TheVariants.{Memory}
use Rattle.published_office.specs.OfficeFolder.{published_of}

-- The folder at the given path is confirmed, with the given number of files: the check has no other outcome. Only a failed allocation can prevent the check.
pub record IsFolderConfirmed (held : InputFiles) (path : List ℕ) (count : ℕ) : Type 0 where
  pub alone : (checked : FolderChecked) → IsFolderChecked held path checked → checked ≡ Confirmed count
  pub unhindered : (why : NotRead) → AreNamesUnreadBy held path why → why ≡ Memory

-- the files that an office publishes with its ballots at a state, under a title that is UTF-8, are those of a published election, as it may occur in an office
abbrev pub OwnFoldersAreOfficeFolders : Type 0
OwnFoldersAreOfficeFolders = (s : OfficeState) (title : List ℕ) → IsState s → is_utf8 title ≡ true → IsOfficeFolder (published_of title true s)

-- a folder that is known to have exactly these files is confirmed, with their number
abbrev pub OwnFoldersAreConfirmed : Type 0
OwnFoldersAreConfirmed =
    (s : OfficeState) (title : List ℕ) (held : InputFiles) (path : List ℕ) → IsState s → is_utf8 title ≡ true → IsKnownFolder held path (published_of title true s) →
    IsFolderConfirmed held path (length (published_of title true s))
