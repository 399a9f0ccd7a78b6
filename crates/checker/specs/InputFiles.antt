-- Files by path, folders by path, and the files in folders, as far as they are known.
use Rattle.std.specs.Prelude.{◌≡◌, List, Option, None, IfSome, Result, Ok, Err, string_bytes, ⊤}
use Rattle.checker.specs.Tokens.{Text}
use Rattle.checker.specs.declared.input_files.NotRead.{NotRead}
use Rattle.checker.specs.declared.input_files.NotRead.TheVariants as unread

-- a file: its bytes, or the reason why it can't be read
abbrev pub File : Type 0
File = Result Text Text

-- a folder: the names in it, or the reason why they can't be read
abbrev pub Folder : Type 0
Folder = Result (List Text) Text

-- the files at each path, the folders at each path, and the files of each name in the folder at each path, as far as they are known
pub record InputFiles : Type 0 where
  pub files : Text → Option File
  pub folders : Text → Option Folder
  pub inside : Text → Text → Option File

-- nothing is known
abbrev pub nothing_known : InputFiles
nothing_known = record { files = λ path. None; folders = λ path. None; inside = λ path name. None }

-- the file at the given path has the given bytes
abbrev pub Holds : InputFiles → Text → Text → Type 0
Holds held path bytes = IfSome (held.files path) (λ file. file ≡ Ok bytes)

-- the file at the given path can't be read, for the given reason
abbrev pub Withholds : InputFiles → Text → Text → Type 0
Withholds held path why = IfSome (held.files path) (λ file. file ≡ Err why)

-- the folder at the given path has the given names, and no others
abbrev pub HoldsNames : InputFiles → Text → List Text → Type 0
HoldsNames held path names = IfSome (held.folders path) (λ folder. folder ≡ Ok names)

-- the names in the folder at the given path can't be read, for the given reason
abbrev pub WithholdsNames : InputFiles → Text → Text → Type 0
WithholdsNames held path why = IfSome (held.folders path) (λ folder. folder ≡ Err why)

-- the file with the given name in the folder at the given path has the given bytes
abbrev pub HoldsInside : InputFiles → Text → Text → Text → Type 0
HoldsInside held path name bytes = IfSome (held.inside path name) (λ file. file ≡ Ok bytes)

-- the file with the given name in the folder at the given path can't be read, for the given reason
abbrev pub WithholdsInside : InputFiles → Text → Text → Text → Type 0
WithholdsInside held path name why = IfSome (held.inside path name) (λ file. file ≡ Err why)

-- the reason why a file, or the names in a folder, weren't read: they can't be read, or an allocation failed
abbrev pub IsUnreadBy : InputFiles → Text → NotRead → Type 0
IsUnreadBy held path unread.Memory = ⊤
IsUnreadBy held path (unread.Because why) = Withholds held path (string_bytes why)

abbrev pub AreNamesUnreadBy : InputFiles → Text → NotRead → Type 0
AreNamesUnreadBy held path unread.Memory = ⊤
AreNamesUnreadBy held path (unread.Because why) = WithholdsNames held path (string_bytes why)

abbrev pub IsUnreadInside : InputFiles → Text → Text → NotRead → Type 0
IsUnreadInside held path name unread.Memory = ⊤
IsUnreadInside held path name (unread.Because why) = WithholdsInside held path name (string_bytes why)
