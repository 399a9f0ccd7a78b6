-- What an import file is parsed into.
use Rattle.std.specs.Prelude.{◌≡◌, ℕ, suc, ◌≤◌, true, false, not, ◌==◌, nat_lt, if◌then◌else◌, List, [], ◌∷◌, length, Option, Some, None, Result, Ok, Err, IfErr}
use Rattle.std.specs.List.{list_all}
use Rattle.std.specs.Str.{is_utf8}
use Rattle.keyfile.specs.Records.{Record}
use Rattle.keyfile.specs.Faults.{is_stop}
use Rattle.keyfile.specs.declared.fault.FileFault.{FileFault}
use Rattle.keyfile.specs.declared.fault.Flaw.{Flaw}
use Rattle.keyfile.specs.declared.fault.Flaw.TheVariants.{Header, RecordLength, NotUtf8, TooManyRecords}

-- the format of a file: what is wrong with its first record as a header, if anything is; the maximum number of records after it; and what the record with a given
-- number is parsed into
pub record Format (Row : Type 0) : Type 0 where
  pub header_flaw : Record → Option Flaw
  pub most : ℕ
  pub read : ℕ → Record → Result Row Flaw

-- what is wrong with a first record; a record that isn't UTF-8 isn't a header
abbrev pub text_header_flaw : {Row : Type 0} → Format Row → Record → Option Flaw
text_header_flaw format fields = if list_all is_utf8 fields then format.header_flaw fields else Some Header

-- what a record is parsed into if all its fields are UTF-8
abbrev pub read_as_text : {Row : Type 0} → Format Row → ℕ → Record → Result Row Flaw
read_as_text format k fields = if list_all is_utf8 fields then format.read k fields else Err NotUtf8

-- what the record with the given number is parsed into; its length is checked first, and then its number
abbrev pub read_record : {Row : Type 0} → Format Row → Record → ℕ → Record → Result Row Flaw
read_record format header k fields =
    if not (length fields == length header) then Err RecordLength else (
    if nat_lt format.most k then Err TooManyRecords else read_as_text format k fields)

-- the fault of the record with the given number
abbrev pub fault_at : ℕ → Flaw → FileFault
fault_at k flaw = record { flaw = flaw; record_number = k }

-- a row and the rows that follow it; the row's own fault takes precedence
abbrev pub and_rows : {Row : Type 0} → ℕ → Result Row Flaw → Result (List Row) FileFault → Result (List Row) FileFault
and_rows k (Err flaw) later = Err (fault_at k flaw)
and_rows k (Ok row) (Err fault) = Err fault
and_rows k (Ok row) (Ok rows) = Ok (row ∷ rows)

-- the rows of records, the first of which has number `k`, or the fault of the first faulty record
abbrev pub rows_from : {Row : Type 0} → (ℕ → Record → Result Row Flaw) → ℕ → List Record → Result (List Row) FileFault
rows_from read k [] = Ok []
rows_from read k (fields ∷ others) = and_rows k (read k fields) (rows_from read (suc k) others)

-- what is read after a header, or what is wrong with the header
abbrev pub behind_header : {Row : Type 0} → Option Flaw → Result (List Row) FileFault → Result (List Row) FileFault
behind_header None rows = rows
behind_header (Some flaw) rows = Err (fault_at 0 flaw)

-- the rows of the records after a file's header, or the file's fault; the header is record 0
abbrev pub file_rows : {Row : Type 0} → Format Row → List Record → Result (List Row) FileFault
file_rows format [] = Err (fault_at 0 Header)
file_rows format (header ∷ others) = behind_header (text_header_flaw format header) (rows_from (read_record format header) 1 others)

-- what is reported for a file: either its own fault, or that reading stopped at a record, in which case no record before that one is faulty
pub record IsFaultOf {Row : Type 0} (format : Format Row) (records : List Record) (fault : FileFault) : Type 0 where
  pub own : is_stop fault.flaw ≡ false → file_rows format records ≡ Err fault
  pub within : is_stop fault.flaw ≡ true → fault.record_number ≤ length records
  pub before : is_stop fault.flaw ≡ true → IfErr (file_rows format records) (λ first. fault.record_number ≤ first.record_number)
