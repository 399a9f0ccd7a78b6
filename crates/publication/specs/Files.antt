-- The files of a folder.
use Rattle.std.specs.Prelude.{ℕ, List, map, string_bytes}
use Rattle.publication.specs.declared.files.PublishedFile.{PublishedFile}

-- a file of a folder: its name and its text
pub record FileEntry : Type 0 where
  pub name : List ℕ
  pub text : List ℕ

-- the file with the given name and text
abbrev pub file : List ℕ → List ℕ → FileEntry
file name text = record { name = name; text = text }

-- a file as plain texts
abbrev pub file_entry : PublishedFile → FileEntry
file_entry published = file (string_bytes published.name) (string_bytes published.text)

-- the names of files
abbrev pub names : List FileEntry → List (List ℕ)
names files = map (λ file. file.name) files
