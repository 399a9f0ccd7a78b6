-- A file's fault is the one at its first faulty record.
use Rattle.std.proofs.Common.{◌≡◌, ◌≢◌, ◌∙◌, ◌≤◌, ◌<◌, ◌+◌, ◌∷◌, ◌++◌, ℕ, suc, List, [], length, Option, Some, None, Result, Ok, Err, refl, sym, ap, arith}
use Rattle.std.specs.Prelude.{IfErr, IfSome}
use Rattle.std.proofs.lemmas.Bool.{eq-eqb, ne_eqb, le-ltb, lt-ltb}
use Rattle.keyfile.specs.Files.{Format, and_rows, behind_header, fault_at, file_rows, read_as_text, read_record, rows_from, text_header_flaw}
use Rattle.keyfile.specs.Inside.{wanted}
use Rattle.keyfile.specs.Records.{Record}
use Rattle.keyfile.specs.declared.fault.FileFault.{FileFault}
use Rattle.keyfile.specs.declared.fault.Flaw.{Flaw}
use Rattle.keyfile.specs.declared.fault.Flaw.TheVariants.{Header, RecordLength, TooManyRecords}

-- rows, followed by the result for other records
abbrev pub before : {Row : Type 0} → List Row → Result (List Row) FileFault → Result (List Row) FileFault
before rows (Ok later) = Ok (rows ++ later)
before rows (Err fault) = Err fault

module _ {Row : Type 0} (read : ℕ → Record → Result Row Flaw) where
  pub rows_from-append : (k : ℕ) (records others : List Record) (rows : List Row) → rows_from read k records ≡ Ok rows
      → rows_from read k (records ++ others) ≡ before rows (rows_from read (k + length records) others)
  rows_from-append k [] others rows is =
      let none : [] ≡ rows = cc in
      let same : k + 0 ≡ k = omega arith in
      rw (← none, same) (keeps (rows_from read k others))
    where
      keeps : (later : Result (List Row) FileFault) → later ≡ before [] later
      keeps (Ok later) = refl
      keeps (Err fault) = refl
  rows_from-append k (r ∷ rs) others rows is = by_results (read k r) (rows_from read (suc k) rs) refl is (rows_from-append (suc k) rs others)
    where
      pushed : (row : Row) (later : List Row) (rest : Result (List Row) FileFault) → and_rows k (Ok row) (before later rest) ≡ before (row ∷ later) rest
      pushed row later (Ok rest) = refl
      pushed row later (Err fault) = refl

      by_results : (one : Result Row Flaw) (more : Result (List Row) FileFault) → rows_from read (suc k) rs ≡ more → and_rows k one more ≡ Ok rows
          → ((later : List Row) → rows_from read (suc k) rs ≡ Ok later → rows_from read (suc k) (rs ++ others) ≡ before later (rows_from read (suc k + length rs) others))
          → and_rows k one (rows_from read (suc k) (rs ++ others)) ≡ before rows (rows_from read (k + length (r ∷ rs)) others)
      by_results (Err flaw) more are both ih = cc
      by_results (Ok row) (Err fault) are both ih = cc
      by_results (Ok row) (Ok later) are both ih =
          let same : suc k + length rs ≡ k + length (r ∷ rs) = omega arith in
          let whole : row ∷ later ≡ rows = cc in
          rw (ih later are, same, ← whole) (pushed row later (rows_from read (k + length (r ∷ rs)) others))

  -- no fault in the given records is at a record with a smaller number
  pub rows_from-late : (k : ℕ) (records : List Record) → IfErr (rows_from read k records) (λ fault. k ≤ fault.record_number)
  rows_from-late k [] = tt
  rows_from-late k (r ∷ rs) = by_results (read k r) (rows_from read (suc k) rs) (rows_from-late (suc k) rs)
    where
      by_results : (one : Result Row Flaw) (more : Result (List Row) FileFault) → IfErr more (λ fault. suc k ≤ fault.record_number) → IfErr (and_rows k one more) (λ fault. k ≤ fault.record_number)
      by_results (Err flaw) more late = omega arith
      by_results (Ok row) (Err fault) late = omega (arith, late)
      by_results (Ok row) (Ok rows) late = tt

-- what a record that follows others is parsed into
abbrev pub read_behind : {Row : Type 0} → Format Row → List Record → Record → Result Row Flaw
read_behind format [] fields = Err Header
read_behind format (header ∷ others) fields = read_record format header (suc (length others)) fields

module _ {Row : Type 0} (format : Format Row) where
  -- the result for records that follow a file's first records, which are parsed into rows
  abbrev pub rows_behind : List Record → List Record → Result (List Row) FileFault
  rows_behind [] others = Err (fault_at 0 Header)
  rows_behind (header ∷ records) others = rows_from (read_record format header) (suc (length records)) others

  pub file_rows-append : (records others : List Record) (rows : List Row) → file_rows format records ≡ Ok rows
      → file_rows format (records ++ others) ≡ before rows (rows_behind records others)
  file_rows-append [] others rows is = cc
  file_rows-append (header ∷ records) others rows is = by_header (text_header_flaw format header) is
    where
      by_header : (o : Option Flaw) → behind_header o (rows_from (read_record format header) 1 records) ≡ Ok rows
          → behind_header o (rows_from (read_record format header) 1 (records ++ others)) ≡ before rows (rows_from (read_record format header) (suc (length records)) others)
      by_header None is =
          let same : 1 + length records ≡ suc (length records) = omega arith in
          rows_from-append (read_record format header) 1 records others rows is ∙ ap (λ (k : ℕ). before rows (rows_from (read_record format header) k others)) same
      by_header (Some flaw) is = cc

  pub some_record : (records : List Record) (rows : List Row) → file_rows format records ≡ Ok rows → 1 ≤ length records
  some_record [] rows is = cc
  some_record (header ∷ records) rows is = omega arith

  -- another record is parsed into a row
  pub file_rows-more : (records : List Record) (fields : Record) (rows : List Row) (row : Row) → file_rows format records ≡ Ok rows → read_behind format records fields ≡ Ok row
      → file_rows format (records ++ fields ∷ []) ≡ Ok (rows ++ row ∷ [])
  file_rows-more [] fields rows row is read = cc
  file_rows-more (header ∷ records) fields rows row is read = file_rows-append (header ∷ records) (fields ∷ []) rows is ∙ rw read refl

  -- the next record is faulty, whatever follows it
  pub file_rows-told : (records others : List Record) (fields : Record) (rows : List Row) (flaw : Flaw) → file_rows format records ≡ Ok rows
      → read_behind format records fields ≡ Err flaw → file_rows format (records ++ fields ∷ others) ≡ Err (fault_at (length records) flaw)
  file_rows-told [] others fields rows flaw is read = cc
  file_rows-told (header ∷ records) others fields rows flaw is read = file_rows-append (header ∷ records) (fields ∷ others) rows is ∙ rw read refl

  -- a fault can only be at a record after those that are parsed into rows
  pub file_rows-late : (records others : List Record) (rows : List Row) → file_rows format records ≡ Ok rows
      → IfErr (file_rows format (records ++ others)) (λ fault. length records ≤ fault.record_number)
  file_rows-late [] others rows is = cc
  file_rows-late (header ∷ records) others rows is =
      rw (file_rows-append (header ∷ records) others rows is) (later (rows_from (read_record format header) (suc (length records)) others)
      (rows_from-late (read_record format header) (suc (length records)) others))
    where
      later : (rest : Result (List Row) FileFault) → IfErr rest (λ fault. suc (length records) ≤ fault.record_number) → IfErr (before rows rest) (λ fault. suc (length records) ≤ fault.record_number)
      later (Ok rest) late = tt
      later (Err fault) late = late

  pub read_behind-uneven : (records : List Record) (fields : Record) (n : ℕ) → wanted records ≡ Some n → n ≢ length fields → read_behind format records fields ≡ Err RecordLength
  read_behind-uneven [] fields n is differs = cc
  read_behind-uneven (header ∷ others) fields n is differs =
      let same : length header ≡ n = cc in
      rw (ne_eqb (length fields) (length header) (λ e. differs (sym same ∙ sym e))) refl

  pub read_behind-many : (records : List Record) (fields : Record) → 1 ≤ length records → IfSome (wanted records) (λ n. length fields ≡ n) → format.most < length records
      → read_behind format records fields ≡ Err TooManyRecords
  read_behind-many [] fields some even many = absurd (omega (arith, some))
  read_behind-many (header ∷ others) fields some even many =
      rw (eq-eqb (length fields) (length header) even, lt-ltb format.most (suc (length others)) many) refl

  pub read_behind-even : (records : List Record) (fields : Record) → 1 ≤ length records → IfSome (wanted records) (λ n. length fields ≡ n) → length records ≤ format.most
      → read_behind format records fields ≡ read_as_text format (length records) fields
  read_behind-even [] fields some even few = absurd (omega (arith, some))
  read_behind-even (header ∷ others) fields some even few =
      rw (eq-eqb (length fields) (length header) even, le-ltb format.most (suc (length others)) few) refl
