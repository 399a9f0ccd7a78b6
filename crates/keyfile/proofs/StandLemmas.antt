-- What is reported for a file, given that its reader is positioned after some of its records.
use Rattle.std.proofs.Common.{◌≡◌, ◌∙◌, ◌≤◌, ◌+◌, ◌∷◌, ◌++◌, ℕ, true, false, List, [], length, Option, Some, None, Result, Ok, Err, refl, sym, ap, subst, arith, length-append, append_assoc}
use Rattle.std.specs.Prelude.{IfErr}
use Rattle.std.specs.Result.{IsErrAnd}
use Rattle.csv.specs.declared.reader.Reader.{Reader}
use Rattle.keyfile.specs.Faults.{is_stop}
use Rattle.keyfile.specs.Files.{Format, IsFaultOf, fault_at, file_rows, read_as_text, text_header_flaw}
use Rattle.keyfile.specs.Inside.{Begins, EndsBefore, IsNext, IsUneven, StandsAt}
use Rattle.keyfile.specs.Reading.{Known}
use Rattle.keyfile.specs.Records.{Record, file_records}
use Rattle.keyfile.specs.declared.fault.FileFault.{FileFault}
use Rattle.keyfile.specs.declared.fault.Flaw.{Flaw}
use Rattle.keyfile.specs.declared.fault.Flaw.TheVariants.{Header, RecordLength, Number, PaperOrder, Marks, NotUtf8, TooManyRecords, ReadFailed, Memory, OtherKeying, OtherFile}
use Rattle.keyfile.proofs.FileLemmas.{file_rows-late, file_rows-more, file_rows-told, read_behind, read_behind-even, read_behind-many, read_behind-uneven, some_record}
use Rattle.keyfile.proofs.ReadLemmas.{after-begins}

-- a fault at the header is determined by its flaw
at_header : (fault : FileFault) → fault.record_number ≡ 0 → fault ≡ fault_at 0 fault.flaw
at_header fault at = rw (← at) refl

-- what may be reported for a file, if its bytes are known
abbrev pub Told : {Row : Type 0} → Format Row → Option (List ℕ) → FileFault → Type 0
Told format bytes fault = Known bytes (λ xs. IsFaultOf format (file_records xs) fault)

known-map : {P Q : List ℕ → Type 0} → (bytes : Option (List ℕ)) → ((xs : List ℕ) → P xs → Q xs) → Known bytes P → Known bytes Q
known-map None f h = tt
known-map (Some xs) f h = f xs h

module _ {Row : Type 0} (format : Format Row) where
  -- the file's own fault may be reported, if it is at a record that the file has
  own_fault : (records : List Record) (fault : FileFault) → file_rows format records ≡ Err fault → fault.record_number ≤ length records → IsFaultOf format records fault
  own_fault records fault is within = record {
    own = λ _. is;
    within = λ _. within;
    before = λ _. rw is (omega arith);
  }

  told_at : (xs : List ℕ) (records : List Record) (fields : Record) (rows : List Row) (fault : FileFault) → Begins xs (records ++ fields ∷ []) → fault.record_number ≡ length records
      → file_rows format records ≡ Ok rows → read_behind format records fields ≡ Err fault.flaw → IsFaultOf format (file_records xs) fault
  told_at xs records fields rows fault starts at is read =
      let whole : file_records xs ≡ records ++ fields ∷ starts.0 = starts.1 ∙ append_assoc records (fields ∷ []) starts.0 in
      let told = file_rows-told format records starts.0 fields rows fault.flaw is read in
      let size = length-append records (fields ∷ starts.0) in
      rw whole (own_fault (records ++ fields ∷ starts.0) fault (rw at told) (omega (arith, at, size)))

  stopped_at : (xs : List ℕ) (records : List Record) (rows : List Row) (fault : FileFault) → Begins xs records → fault.record_number ≡ length records
      → file_rows format records ≡ Ok rows → is_stop fault.flaw ≡ true → IsFaultOf format (file_records xs) fault
  stopped_at xs records rows fault starts at is stop =
      let late = file_rows-late format records starts.0 rows is in
      let size = length-append records starts.0 in
      rw starts.1 (record {
        own = λ (goes : is_stop fault.flaw ≡ false). absurd (let e : true ≡ false = sym stop ∙ goes in cc);
        within = λ _. omega (arith, at, size);
        before = λ _. rw at late;
      })

  module _ {R : Type 0} (rem : R → Option (List ℕ)) (bytes : Option (List ℕ)) (number : ℕ) (rows : List Row) (a : Reader R) (st : StandsAt rem bytes format number rows a) where
    -- reading stopped
    pub stands-stopped : (fault : FileFault) → fault.record_number ≡ number → is_stop fault.flaw ≡ true → Told format bytes fault
    stands-stopped fault at stop =
        known-map bytes (λ xs (starts : Begins xs st.records). stopped_at xs st.records rows fault starts (at ∙ sym st.count) st.read stop) (after-begins rem a bytes st.records st.after)

    -- no record could be read
    pub stands-ended : (fault : FileFault) → fault.record_number ≡ number → EndsBefore bytes st.records fault.flaw → Told format bytes fault
    stands-ended fault at ends = by_flaw fault.flaw refl ends
      where
        by_flaw : (flaw : Flaw) → fault.flaw ≡ flaw → EndsBefore bytes st.records flaw → Told format bytes fault
        by_flaw RecordLength is ends =
            known-map bytes
            (λ xs (u : IsUneven xs st.records). told_at xs st.records u.0 rows fault u.2 (at ∙ sym st.count) st.read (read_behind-uneven format st.records u.0 u.1 u.3 u.4 ∙ ap Err (sym is)))
            ends
        by_flaw ReadFailed is ends = stands-stopped fault at (ap is_stop is)
        by_flaw Memory is ends = stands-stopped fault at (ap is_stop is)
        by_flaw Header is ends = absurd ends
        by_flaw Number is ends = absurd ends
        by_flaw PaperOrder is ends = absurd ends
        by_flaw Marks is ends = absurd ends
        by_flaw NotUtf8 is ends = absurd ends
        by_flaw TooManyRecords is ends = absurd ends
        by_flaw (OtherKeying batch clerk) is ends = absurd ends
        by_flaw OtherFile is ends = absurd ends

    module _ (b : Reader R) (fields : Record) (next : IsNext rem bytes st.records fields b) where
      -- another record was parsed into a row
      pub stands-more : (row : Row) → number ≤ format.most → read_as_text format number fields ≡ Ok row → StandsAt rem bytes format (number + 1) (rows ++ row ∷ []) b
      stands-more row few read =
          let some = some_record format st.records rows st.read in
          let size = length-append st.records (fields ∷ []) in
          record {
            records = st.records ++ fields ∷ [];
            count = omega (arith, size, st.count);
            after = next.after;
            read = file_rows-more format st.records fields rows row st.read (read_behind-even format st.records fields some next.even (omega (arith, few, st.count)) ∙ rw st.count read);
          }

      faulty : (fault : FileFault) → fault.record_number ≡ number → read_behind format st.records fields ≡ Err fault.flaw → Told format bytes fault
      faulty fault at read =
          known-map bytes (λ xs (starts : Begins xs (st.records ++ fields ∷ [])). told_at xs st.records fields rows fault starts (at ∙ sym st.count) st.read read)
          (after-begins rem b bytes (st.records ++ fields ∷ []) next.after)

      -- the next record is faulty
      pub stands-told : (fault : FileFault) → fault.record_number ≡ number → number ≤ format.most → read_as_text format number fields ≡ Err fault.flaw → Told format bytes fault
      stands-told fault at few read =
          let some = some_record format st.records rows st.read in
          faulty fault at (read_behind-even format st.records fields some next.even (omega (arith, few, st.count)) ∙ rw st.count read)

      -- the next record is past the limit
      pub stands-many : (fault : FileFault) → fault.record_number ≡ number → number ≡ format.most + 1 → fault.flaw ≡ TooManyRecords → Told format bytes fault
      stands-many fault at past is =
          let some = some_record format st.records rows st.read in
          faulty fault at (read_behind-many format st.records fields some next.even (omega (arith, past, st.count)) ∙ ap Err (sym is))

  -- ---- the header

  module _ {R : Type 0} (rem : R → Option (List ℕ)) (bytes : Option (List ℕ)) where
    -- reading stopped at the header, and there is no faulty record before it
    pub header-stopped : (fault : FileFault) → fault.record_number ≡ 0 → is_stop fault.flaw ≡ true → Told format bytes fault
    header-stopped fault at stop = by_bytes bytes
      where
        late : (result : Result (List Row) FileFault) → IfErr result (λ first. 0 ≤ first.record_number)
        late (Ok rows) = tt
        late (Err first) = omega arith

        by_bytes : (bytes : Option (List ℕ)) → Told format bytes fault
        by_bytes None = tt
        by_bytes (Some xs) = record {
          own = λ (goes : is_stop fault.flaw ≡ false). absurd (let e : true ≡ false = sym stop ∙ goes in cc);
          within = λ _. omega (arith, at);
          before = λ _. rw at (late (file_rows format (file_records xs)));
        }

    module _ (b : Reader R) (fields : Record) (next : IsNext rem bytes [] fields b) where
      -- the first record isn't the header
      pub header-other : (fault : FileFault) → fault.record_number ≡ 0 → text_header_flaw format fields ≡ Some fault.flaw → Told format bytes fault
      header-other fault at other =
          known-map bytes
          (λ xs (starts : Begins xs (fields ∷ [])).
          rw starts.1 (own_fault (fields ∷ starts.0) fault (rw other (ap Err (sym (at_header fault at)))) (omega (arith, at))))
          (after-begins rem b bytes (fields ∷ []) next.after)

-- ---- results

module _ {Row : Type 0} (format : Format Row) (bytes : Option (List ℕ)) {T : Type 0} where
  -- a fault is propagated
  pub passed-on : (r : Result T FileFault) (fault : FileFault) → IsErrAnd r (λ f. f ≡ fault) → Told format bytes fault → IfErr r (Told format bytes)
  passed-on (Ok x) fault is told = absurd is
  passed-on (Err f) fault is told = subst (Told format bytes) (sym is) told

  -- the only fault of a result
  pub told-only : (r : Result T FileFault) (fault : FileFault) → r ≡ Err fault → Told format bytes fault → IfErr r (Told format bytes)
  told-only r fault is told = rw is told
