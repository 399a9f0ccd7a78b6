-- The records that a reader returned one by one are the first records of its file.
use Rattle.std.proofs.Common.{◌≡◌, ◌∙◌, ◌<◌, ◌≤◌, ◌+◌, ◌++◌, ◌∷◌, ℕ, zero, suc, Bool, true, false, List, [], length, Some, None, refl, sym, ap, arith, inl, inr, cond}
use Rattle.std.specs.Prelude.{◌⊎◌}
use Rattle.std.proofs.lemmas.List.{append-nil}
use Rattle.csv.specs.Machine.{Read, ends_at_end, field_after, fields_after, is_end, next_record, step}
use Rattle.csv.specs.Reading.{Reached, default_config, records_from, strip_bom}
use Rattle.csv.specs.declared.parser.Config.{Config}
use Rattle.csv.specs.declared.parser.State.{State}
use Rattle.csv.specs.declared.parser.State.TheVariants as st
use Rattle.keyfile.specs.Records.{Record, file_records}
use Rattle.keyfile.specs.Inside.{Begins}

-- a record consumes a byte, if there is one
takes : (cfg : Config) (s : State) (fields : Record) (field : List ℕ) (b : ℕ) (xs : List ℕ) (p : Read) → next_record cfg s fields field (b ∷ xs) ≡ Some p
    → length p.2 ≤ length xs
unfolding next_record
takes cfg s fields field b [] p is = by_end (is_end (step cfg s b).1) is
  where
    by_state : (ends : Bool) → cond ends (Some (fields_after (step cfg s b).1 fields field ++ (field_after (step cfg s b).1 b field ∷ []), st.StartRecord, [])) None ≡ Some p
        → length p.2 ≤ 0
    by_state true is = let same : [] ≡ p.2 = cc in rw (← same) (omega arith)
    by_state false is = cc

    by_end : (ends : Bool)
        → cond ends (Some (fields_after (step cfg s b).1 fields field, (step cfg s b).0, []))
        (next_record cfg (step cfg s b).0 (fields_after (step cfg s b).1 fields field) (field_after (step cfg s b).1 b field) []) ≡ Some p
        → length p.2 ≤ 0
    by_end true is = let same : [] ≡ p.2 = cc in rw (← same) (omega arith)
    by_end false is = by_state (ends_at_end (step cfg s b).0) is
takes cfg s fields field b (c ∷ rest) p is =
    by_end (is_end (step cfg s b).1) is (takes cfg (step cfg s b).0 (fields_after (step cfg s b).1 fields field) (field_after (step cfg s b).1 b field) c rest p)
  where
    by_end : (ends : Bool)
        → cond ends (Some (fields_after (step cfg s b).1 fields field, (step cfg s b).0, c ∷ rest))
        (next_record cfg (step cfg s b).0 (fields_after (step cfg s b).1 fields field) (field_after (step cfg s b).1 b field) (c ∷ rest)) ≡ Some p
        → (next_record cfg (step cfg s b).0 (fields_after (step cfg s b).1 fields field) (field_after (step cfg s b).1 b field) (c ∷ rest) ≡ Some p → length p.2 ≤ length rest)
        → length p.2 ≤ length (c ∷ rest)
    by_end true is ih = let same : c ∷ rest ≡ p.2 = cc in rw (← same) (omega arith)
    by_end false is ih = let shorter = ih is in omega (arith, shorter)

-- enough steps for the records in the given bytes: one more than there are bytes, or none if there is no record
abbrev Suffices : ℕ → State → List ℕ → Type 0
Suffices n s xs = (length xs < n) ⊎ ((xs ≡ []) × (ends_at_end s ≡ false))

no_record : (cfg : Config) (s : State) (p : Read) → ends_at_end s ≡ false → next_record cfg s [] [] [] ≡ Some p → ⊥
unfolding next_record
no_record cfg s p ends is = let none : None ≡ Some p = rw ends at is in cc

suffices_next : (cfg : Config) (n : ℕ) (s : State) (xs : List ℕ) (p : Read) → Suffices (suc n) s xs → next_record cfg s [] [] xs ≡ Some p → Suffices n p.1 p.2
unfolding next_record
suffices_next cfg n s [] p enough is = by_state (ends_at_end s) is
  where
    by_state : (ends : Bool) → cond ends (Some ([] ++ ([] ∷ []), st.StartRecord, [])) None ≡ Some p → Suffices n p.1 p.2
    by_state true is =
        let rest : [] ≡ p.2 = cc in
        let start : st.StartRecord ≡ p.1 = cc in
        inr (sym rest, rw (← start) refl)
    by_state false is = cc
suffices_next cfg n s (b ∷ xs) p enough is = elim enough [
  | inl more ↦ let shorter = takes cfg s [] [] b xs p is in inl (omega (arith, more, shorter))
  | inr none ↦ absurd (let e : b ∷ xs ≡ [] = none.0 in cc)
]

begins : (cfg : Config) (n : ℕ) (s : State) (xs : List ℕ) (records : List Record) (s2 : State) (ys : List ℕ) → Suffices n s xs → Reached cfg s xs records s2 ys
    → (m : ℕ) × (records_from cfg n s xs ≡ records ++ records_from cfg m s2 ys)
unfolding records_from Reached
begins cfg n s xs [] s2 ys enough h = (n, rw (h.0, h.1) refl)
begins cfg zero s xs (r ∷ rs) s2 ys enough h = elim enough [
  | inl more ↦ absurd (omega (arith, more))
  | inr none ↦ absurd (no_record cfg s h.0 none.1 (rw none.0 at h.1))
]
begins cfg (suc n) s xs (r ∷ rs) s2 ys enough h =
    let (p, is, same, rest) = h in
    let later = begins cfg n p.1 p.2 rs s2 ys (suffices_next cfg n s xs p enough is) rest in
    (later.0, rw (is, same) (ap (λ (l : List Record). p.0 ∷ l) later.1))

reached-begins : (bytes : List ℕ) (records : List Record) (s : State) (ys : List ℕ) → Reached default_config st.StartRecord (strip_bom bytes) records s ys
    → (m : ℕ) × (file_records bytes ≡ records ++ records_from default_config m s ys)
reached-begins bytes records s ys h = begins default_config (length (strip_bom bytes) + 1) st.StartRecord (strip_bom bytes) records s ys (inl (omega arith)) h

-- the records read so far are the first ones of the file
pub file-begins : (bytes : List ℕ) (records : List Record) (s : State) (ys : List ℕ) → Reached default_config st.StartRecord (strip_bom bytes) records s ys
    → Begins bytes records
file-begins bytes records s ys h = let (m, is) = reached-begins bytes records s ys h in (records_from default_config m s ys, is)

no_more : (records : List Record) (s : State) (ys : List ℕ) (m : ℕ) → next_record default_config s [] [] ys ≡ None → records ++ records_from default_config m s ys ≡ records
unfolding records_from
no_more records s ys zero end = append-nil records
no_more records s ys (suc m) end = rw end (append-nil records)

-- the records read so far are all the records of the file if no other record follows
pub file-whole : (bytes : List ℕ) (records : List Record) (s : State) (ys : List ℕ) → Reached default_config st.StartRecord (strip_bom bytes) records s ys
    → next_record default_config s [] [] ys ≡ None → file_records bytes ≡ records
file-whole bytes records s ys h end = let (m, is) = reached-begins bytes records s ys h in is ∙ no_more records s ys m end
