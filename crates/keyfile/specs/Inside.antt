-- The position of the reader of an import file, record by record, for contracts between private functions. No public contract depends on these definitions.
use Rattle.std.specs.Prelude.{◌≡◌, ◌≢◌, ◌∷◌, ◌++◌, ℕ, false, List, [], Option, Some, None, length, IfSome, Ok, ⊤}
use Rattle.csv.specs.Reading.{Reached, Ready, default_config, expected_len, has_failed, is_flexible, reader_config, reader_state, reader_trim, source_of, strip_bom}
use Rattle.csv.specs.declared.reader.Reader.{Reader}
use Rattle.csv.specs.declared.parser.State.{State}
use Rattle.csv.specs.declared.parser.State.TheVariants as st
use Rattle.csv.specs.declared.reader.Trim.TheVariants as trim
use Rattle.keyfile.specs.Files.{Format, file_rows}
use Rattle.keyfile.specs.Reading.{Known}
use Rattle.keyfile.specs.Records.{Record, file_records}
use Rattle.keyfile.specs.declared.fault.Flaw.{Flaw}
use Rattle.keyfile.specs.declared.fault.Flaw.TheVariants.{Header, RecordLength, Number, PaperOrder, Marks, NotUtf8, TooManyRecords, ReadFailed, Memory, OtherKeying, OtherFile}

-- the required length of the next record, which is that of the first one
abbrev pub wanted : List Record → Option ℕ
wanted [] = None
wanted (first ∷ others) = Some (length first)

-- the remaining bytes follow the given records, if the bytes are known
abbrev pub Follows : Option (List ℕ) → List Record → State → Option (List ℕ) → Type 0
Follows None records s left = ⊤
Follows (Some bytes) records s None = ⊥
Follows (Some bytes) records s (Some rest) = Reached default_config st.StartRecord (strip_bom bytes) records s rest

module _ {R : Type 0} (rem : R → Option (List ℕ)) where
  -- the reader has returned the given records of a file, and continues after them
  pub record IsAfter (bytes : Option (List ℕ)) (records : List Record) (file : Reader R) : Type 0 where
    pub config : reader_config file ≡ default_config
    pub trim : reader_trim file ≡ trim.None
    pub ready : Ready file
    pub strict : is_flexible file ≡ false
    pub goes : has_failed file ≡ false
    pub length : expected_len file ≡ wanted records
    pub follows : Follows bytes records (reader_state file) (source_of rem file)

  -- the reader has returned another record, with the same length as the first one
  pub record IsNext (bytes : Option (List ℕ)) (records : List Record) (fields : Record) (file : Reader R) : Type 0 where
    pub after : IsAfter bytes (records ++ fields ∷ []) file
    pub even : IfSome (wanted records) (λ n. length fields ≡ n)

  -- the given number of records have been read, including the header, and those after the header have been parsed into the given rows
  pub record StandsAt {Row : Type 0} (bytes : Option (List ℕ)) (format : Format Row) (number : ℕ) (rows : List Row) (file : Reader R) : Type 0 where
    pub records : List Record
    pub count : length records ≡ number
    pub after : IsAfter bytes records file
    pub read : file_rows format records ≡ Ok rows

-- a file's records begin with the given ones
abbrev pub Begins : List ℕ → List Record → Type 0
Begins bytes records = (others : List Record) × (file_records bytes ≡ records ++ others)

-- the next record of a file doesn't have the same length as the first one
abbrev pub IsUneven : List ℕ → List Record → Type 0
IsUneven bytes records = (fields : Record) × (n : ℕ) × Begins bytes (records ++ fields ∷ []) × (wanted records ≡ Some n) × (n ≢ length fields)

-- why no record was read after the given ones
abbrev pub EndsBefore : Option (List ℕ) → List Record → Flaw → Type 0
EndsBefore bytes records RecordLength = Known bytes (λ xs. IsUneven xs records)
EndsBefore bytes records ReadFailed = ⊤
EndsBefore bytes records Memory = ⊤
EndsBefore bytes records Header = ⊥
EndsBefore bytes records Number = ⊥
EndsBefore bytes records PaperOrder = ⊥
EndsBefore bytes records Marks = ⊥
EndsBefore bytes records NotUtf8 = ⊥
EndsBefore bytes records TooManyRecords = ⊥
EndsBefore bytes records (OtherKeying batch clerk) = ⊥
EndsBefore bytes records OtherFile = ⊥
