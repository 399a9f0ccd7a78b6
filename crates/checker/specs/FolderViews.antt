-- The files of a folder as the checker reads them, and their comparison with the files that it makes.
use Rattle.std.specs.Prelude.{◌≡◌, Bool, true, false, ◌&&◌, if◌then◌else◌, List, [], ◌∷◌, Option, Some, None, bytes_eq, string_bytes}
use Rattle.std.specs.List.{All, list_all, list_any}
use Rattle.publication.specs.Files.{FileEntry}
use Rattle.checker.specs.InputFiles.{InputFiles, HoldsInside, WithholdsInside}
use Rattle.checker.specs.Tokens.{Text}
use Rattle.checker.specs.declared.folder_files.FileContent.{FileContent}
use Rattle.checker.specs.declared.folder_files.FileContent.TheVariants.{Bytes, Unread}
use Rattle.checker.specs.declared.folder_files.FolderFile.{FolderFile}

-- the name of a file
abbrev pub name_of : FolderFile → Text
name_of file = string_bytes file.name

-- the content of the file with the given name in the folder at the given path
abbrev pub IsContent : InputFiles → Text → Text → FileContent → Type 0
IsContent held path name (Bytes bytes) = HoldsInside held path name bytes.items
IsContent held path name (Unread why) = WithholdsInside held path name (string_bytes why)

-- a file in the folder at the given path
abbrev pub IsFileIn : InputFiles → Text → FolderFile → Type 0
IsFileIn held path file = IsContent held path (name_of file) file.content

-- whether a file was read, and has the given text
abbrev pub has_text : Text → FileContent → Bool
has_text text (Bytes bytes) = bytes_eq bytes.items text
has_text text (Unread why) = false

-- whether a file of a folder is the given one: it has its name and its text
abbrev pub is_file : FileEntry → FolderFile → Bool
is_file file found = bytes_eq (name_of found) file.name && has_text file.text found.content

-- whether the given file is in a folder
abbrev pub is_found : List FolderFile → FileEntry → Bool
is_found found file = list_any (is_file file) found

-- whether there is a file with the given name
abbrev pub has_name : Text → FileEntry → Bool
has_name name file = bytes_eq file.name name

abbrev pub is_named : List FileEntry → FolderFile → Bool
is_named files found = list_any (has_name (name_of found)) files

-- whether a folder has exactly the given files
abbrev pub are_same : List FolderFile → List FileEntry → Bool
are_same found files = list_all (is_found found) files && list_all (is_named files) found

-- the bytes of a file that was read; otherwise other bytes
abbrev pub bytes_or : FileContent → Option Text → Option Text
bytes_or (Bytes bytes) others = Some bytes.items
bytes_or (Unread why) others = others

-- the bytes of the first file with the given name that was read
abbrev pub bytes_named : Text → List FolderFile → Option Text
bytes_named name [] = None
bytes_named name (file ∷ files) = if bytes_eq (name_of file) name then bytes_or file.content (bytes_named name files) else bytes_named name files

-- a folder has exactly the given files, and each is found by its name
pub record AreFound (found : List FolderFile) (files : List FileEntry) : Type 0 where
  pub same : are_same found files ≡ true
  pub each : All (λ (file : FileEntry). bytes_named file.name found ≡ Some file.text) files
