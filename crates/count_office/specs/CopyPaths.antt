-- The path to which a served office is copied.
use Rattle.std.specs.Prelude.{◌==◌, List, [], if◌then◌else◌, length, unwrap_or, ℕ}
use Rattle.std.specs.Path.{path_join, path_parent}

-- the folder of a file
abbrev pub folder_of : List ℕ → List ℕ
folder_of file = unwrap_or (path_parent file) []

-- the path of a copy, relative to the folder in which the order was typed or, if that is empty, to the folder of the database
abbrev pub copy_path : List ℕ → List ℕ → List ℕ → List ℕ
copy_path database folder path = path_join (if length folder == 0 then folder_of database else folder) path
