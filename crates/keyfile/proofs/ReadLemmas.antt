-- The effect of one read on the position of a reader.
use Rattle.std.proofs.Common.{◌≡◌, ◌≢◌, ◌∙◌, ◌∷◌, ◌++◌, ℕ, List, Option, Some, None, [], true, false, length, refl, sym, ap}
use Rattle.std.specs.Prelude.{IfSome, option_map, unwrap_or}
use Rattle.csv.specs.Machine.{next_record, Read}
use Rattle.csv.specs.Reading.{ExplainsRead, NextIs, Reached, ReadRecord, ReadsNext, ReadsOn, TookRecord, default_config, has_failed, pending_of, source_of, strip_bom}
use Rattle.csv.specs.declared.reader.Reader.{Reader}
use Rattle.csv.specs.declared.parser.State.{State}
use Rattle.csv.specs.declared.parser.State.TheVariants as st
use Rattle.csv.specs.declared.error.ErrorKind.{ErrorKind}
use Rattle.csv.specs.declared.error.ErrorKind.TheVariants as kind
use Rattle.csv.proofs.ReadFacts.{rows-more}
use Rattle.keyfile.specs.Faults.{flaw_of}
use Rattle.keyfile.specs.Inside.{Begins, EndsBefore, Follows, IsAfter, IsNext, IsUneven, wanted}
use Rattle.keyfile.specs.Reading.{Known}
use Rattle.keyfile.specs.Records.{Record, file_records}
use Rattle.keyfile.proofs.RecordLemmas.{file-begins, file-whole}

-- no records have been read from a newly opened file
pub opened : (bytes : Option (List ℕ)) (s : State) → s ≡ st.StartRecord → Follows bytes [] s (option_map strip_bom bytes)
unfolding Reached
opened None s e = tt
opened (Some xs) s e = (sym e, refl)

same_length : (m n : ℕ) → Some m ≡ Some n → m ≡ n
same_length m n e = ap (λ o. unwrap_or o m) e

wanted_next : (records : List Record) (fields : Record) (old new : Option ℕ) → old ≡ wanted records → IfSome old (λ n. new ≡ Some n) → new ≡ Some (length fields)
    → (new ≡ wanted (records ++ fields ∷ [])) × IfSome (wanted records) (λ n. length fields ≡ n)
wanted_next [] fields old new is keeps now = (now, tt)
wanted_next (r ∷ rs) fields old new is keeps now =
    let kept : new ≡ Some (length r) = rw is at keeps in
    (kept, same_length _ _ (sym now ∙ kept))

reached_next : (s0 s s2 : State) (xs ys zs : List ℕ) (records : List Record) (fields : Record) → Reached default_config s0 xs records s ys
    → NextIs (next_record default_config s [] [] ys) true fields s2 zs → Reached default_config s0 xs (records ++ fields ∷ []) s2 zs
unfolding Reached
reached_next s0 s s2 xs ys zs [] fields h n = last (next_record default_config s [] [] ys) refl n
  where
    last : (o : Option Read) → next_record default_config s [] [] ys ≡ o → NextIs o true fields s2 zs → Reached default_config s0 xs (fields ∷ []) s2 zs
    last None e m = cc m
    last (Some p) e m = (p, rw (h.0, h.1) e, m.1, (sym m.2, sym m.3))
reached_next s0 s s2 xs ys zs (r ∷ rs) fields h n =
    let (p, is, same, rest) = h in
    (p, is, same, reached_next p.1 s s2 p.2 ys zs rs fields rest n)

module _ {R : Type 0} (rem : R → Option (List ℕ)) where
  follows_next : (a b : Reader R) (bytes left : Option (List ℕ)) (records : List Record) (fields : Record) → source_of rem a ≡ left → IsAfter rem bytes records a
      → ReadRecord rem a b true fields → Follows bytes records a.state left → Follows bytes (records ++ fields ∷ []) b.state (source_of rem b)
  follows_next a b None left records fields is after read h = tt
  follows_next a b (Some xs) None records fields is after read h = absurd h
  follows_next a b (Some xs) (Some ys) records fields is after read h =
      let (z, at_z, reached) = rows-more rem a b fields default_config st.StartRecord (strip_bom xs) ys records after.config is h read in
      rw at_z reached

  -- the effect of a read that returned a record
  pub read-more : (a b : Reader R) (bytes : Option (List ℕ)) (records : List Record) (fields : Record) → IsAfter rem bytes records a → ReadRecord rem a b true fields
      → ReadsOn a b → has_failed b ≡ has_failed a → IsNext rem bytes records fields b
  read-more a b bytes records fields after read on failed =
      let lengths = read.5 refl after.strict in
      let next = wanted_next records fields a.expected b.expected after.length lengths.0 lengths.1 in
      record {
        after = record {
          config = read.2 ∙ after.config;
          trim = read.3 ∙ after.trim;
          ready = (on.4 after.ready).0;
          strict = on.2 ∙ after.strict;
          goes = failed ∙ after.goes;
          length = next.0;
          follows = follows_next a b bytes (source_of rem a) records fields refl after read after.follows;
        };
        even = next.1;
      }

  -- the effect of a read that returned no record
  pub read-end : (a b : Reader R) (bytes : Option (List ℕ)) (records : List Record) (fields : Record) → IsAfter rem bytes records a → ReadRecord rem a b false fields
      → Known bytes (λ xs. file_records xs ≡ records)
  read-end a b bytes records fields after read = by_bytes bytes (source_of rem a) (pending_of (rem b.rdr) b) (rw after.config at read.0) after.follows
    where
      ended : (o : Option Read) (s : State) (rest : List ℕ) → NextIs o false fields s rest → o ≡ None
      ended None s rest h = refl
      ended (Some p) s rest h = cc h.0

      by_bytes : (bytes left right : Option (List ℕ)) → ReadsNext default_config a.state left right false fields b.state → Follows bytes records a.state left
          → Known bytes (λ xs. file_records xs ≡ records)
      by_bytes None left right t h = tt
      by_bytes (Some xs) None right t h = absurd h
      by_bytes (Some xs) (Some ys) None t h = absurd t
      by_bytes (Some xs) (Some ys) (Some zs) t h = file-whole xs records a.state ys h (ended _ _ _ t)

  -- the file's records begin with the ones that were read
  pub after-begins : (a : Reader R) (bytes : Option (List ℕ)) (records : List Record) → IsAfter rem bytes records a → Known bytes (λ xs. Begins xs records)
  after-begins a bytes records after = by_bytes bytes (source_of rem a) after.follows
    where
      by_bytes : (bytes left : Option (List ℕ)) → Follows bytes records a.state left → Known bytes (λ xs. Begins xs records)
      by_bytes None left h = tt
      by_bytes (Some xs) None h = absurd h
      by_bytes (Some xs) (Some ys) h = file-begins xs records a.state ys h

  uneven : (a b : Reader R) (bytes : Option (List ℕ)) (records : List Record) (fields : Record) (n : ℕ) → IsAfter rem bytes records a
      → a.expected ≡ Some n → n ≢ length fields → TookRecord rem a b fields → Known bytes (λ xs. IsUneven xs records)
  uneven a b bytes records fields n after expected differs took = by_bytes bytes (source_of rem a) (pending_of (rem b.rdr) b) (rw after.config at took) after.follows
    where
      by_bytes : (bytes left right : Option (List ℕ)) → ReadsNext default_config a.state left right true fields b.state → Follows bytes records a.state left
          → Known bytes (λ xs. IsUneven xs records)
      by_bytes None left right t h = tt
      by_bytes (Some xs) None right t h = absurd h
      by_bytes (Some xs) (Some ys) None t h = absurd t
      by_bytes (Some xs) (Some ys) (Some zs) t h =
          (fields, n, file-begins xs (records ++ fields ∷ []) b.state zs (reached_next st.StartRecord a.state b.state (strip_bom xs) ys zs records fields h t), sym after.length ∙ expected, differs)

  -- the effect of a read that failed
  pub read-failed : (a b : Reader R) (bytes : Option (List ℕ)) (records : List Record) (k : ErrorKind) → IsAfter rem bytes records a
      → ExplainsRead rem a b false k → EndsBefore bytes records (flaw_of k)
  read-failed a b bytes records (kind.UnequalLengths pos expected len) after why =
      let (strict, told, differs, fields, took, size) = why in
      uneven a b bytes records fields expected after told (λ e. differs (e ∙ size)) took
  read-failed a b bytes records kind.OutOfMemory after why = tt
  read-failed a b bytes records (kind.Io e) after why = tt
  read-failed a b bytes records (kind.Utf8 pos err) after why = tt
  read-failed a b bytes records (kind.Serialize text) after why = tt
  read-failed a b bytes records (kind.Deserialize pos err) after why = tt
