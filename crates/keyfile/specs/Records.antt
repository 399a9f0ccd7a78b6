-- The records of an import file.
use Rattle.std.specs.Prelude.{ℕ, List}
use Rattle.csv.specs.Reading.{default_config, records, strip_bom}

-- a record is the list of its fields
abbrev pub Record : Type 0
Record = List (List ℕ)

-- the records of a file's bytes, as `csv` parses them by default, after a byte order mark if there is one
abbrev pub file_records : List ℕ → List Record
file_records bytes = records default_config (strip_bom bytes)
