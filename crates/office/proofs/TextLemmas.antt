-- The answer to a request for one of a ward's texts, given what was found for the ward.
use Rattle.std.proofs.Common.{◌≡◌, inl, inr, ℕ, Bool, true, false, Option, Some, None, option_map, Result, Ok, Err, IfOk, IfErr, OnOk, String, string_bytes, refl, sym, ap, subst, ◌∙◌}
use Rattle.std.specs.declared.alloc.Global.{Global}
use Rattle.std.proofs.lemmas.Bool.{cond-true, cond-false}
use Rattle.std.proofs.lemmas.Option.{same_Some}
use Rattle.sqlite.specs.State.{State}
use Rattle.register.specs.declared.elections.CountedWard.{CountedWard}
use Rattle.register.specs.declared.elections.WardSheet.{WardSheet}
use Rattle.register.specs.declared.phase.Phase.{Phase}
use Rattle.register.specs.Ranges.{is_ward_number}
use Rattle.register.specs.Offices.{WardEntry, OfficeState, ward_at}
use Rattle.register.specs.Elections.{ElectionEntry, election_of}
use Rattle.register.specs.Tabulated.{IsCountedWard, IsSheetOf}
use Rattle.register.proofs.MapLemmas.{found_number}
use Rattle.store.specs.Elections.{IsCountedInFor, IsSheetFor}
use Rattle.store.specs.StateTables.{IsAt}
use Rattle.office.specs.declared.answers.ReadError.{ReadError}
use Rattle.office.specs.declared.answers.ReadError.TheVariants.{Refused, Fault as Failed}
use Rattle.office.specs.declared.sheets.WardText.{WardText}
use Rattle.office.specs.Reads.{Read}
use Rattle.office.specs.Sheets.{is_printable_in, text_shown, text_found, text_answer, FailsToPrint, IsTextual}

-- ---- what was found

-- what was found for a ward represents an election in the state
pub sheet_found : {R : Type 0} (s : OfficeState) (ward : ℕ) (sheet : WardSheet) → IsSheetFor (option_map (election_of s) (ward_at s ward)) (Some sheet)
    → ((w : WardEntry) → ward_at s ward ≡ Some w → IsSheetOf (election_of s w) sheet → R) → R
sheet_found {R = R} s ward sheet made so = by_ward (ward_at s ward) refl made
  where
    by_ward : (o : Option WardEntry) → ward_at s ward ≡ o → IsSheetFor (option_map (election_of s) o) (Some sheet) → R
    by_ward None none gone = absurd (cc)
    by_ward (Some w) there is = so w there (subst (IsSheetOf (election_of s w)) (sym (same_Some _ _ is.1)) is.2)

pub counted_found : {R : Type 0} (s : OfficeState) (ward : ℕ) (counted : CountedWard) → IsCountedInFor (option_map (election_of s) (ward_at s ward)) (Some counted)
    → ((w : WardEntry) → ward_at s ward ≡ Some w → IsCountedWard (election_of s w) counted → R) → R
counted_found {R = R} s ward counted made so = by_ward (ward_at s ward) refl made
  where
    by_ward : (o : Option WardEntry) → ward_at s ward ≡ o → IsCountedInFor (option_map (election_of s) o) (Some counted) → R
    by_ward None none gone = absurd (cc)
    by_ward (Some w) there is = so w there (subst (IsCountedWard (election_of s w)) (sym (same_Some _ _ is.1)) is.2)

-- the texts of an existing ward can be written
pub textual_at : (s : OfficeState) (ward : ℕ) (w : WardEntry) → ((x : WardEntry) → ward_at s x.number ≡ Some x → IsTextual (election_of s x)) → ward_at s ward ≡ Some w → IsTextual (election_of s w)
textual_at s ward w law there = law w (subst (λ (n : ℕ). ward_at s n ≡ Some w) (found_number (λ (x : WardEntry). x.number) s.wards ward w there) there)

-- ---- what is returned

told_there : (text : WardText) (s : OfficeState) (ward : ℕ) (w : WardEntry) → is_ward_number ward ≡ true → ward_at s ward ≡ Some w → text_answer text s ward ≡ text_found text s (Some w)
told_there text s ward w in_range there = cond-true (is_ward_number ward) _ _ in_range ∙ ap (text_found text s) there

-- if a read of an existing ward returns a text, or the reason why there is none, then that is the answer to a request for that text
pub text_read : (text : WardText) (Stands : ElectionEntry → Type 0) (s : OfficeState) (ward : ℕ) (w : WardEntry) (phase : Phase)
    (r : Result (String Global) ReadError) (before closed : Bool) (st : State)
    → is_ward_number ward ≡ true → ward_at s ward ≡ Some w → phase ≡ w.phase → Stands (election_of s w) → before ≡ false → IsAt s st
    → IfOk r (λ told. (is_printable_in text phase ≡ true) × ((e : ElectionEntry) → Stands e → string_bytes told ≡ text_shown text e))
    → OnOk r (closed ≡ before) → IfErr r (FailsToPrint text phase closed)
    → Read string_bytes s (text_answer text s ward) r closed st
text_read text Stands s ward w phase (Ok told) before closed st in_range there same stands is_open at tells still stops = (
  told_there text s ward w in_range there ∙ cond-true (is_printable_in text w.phase) _ _ (subst (λ (p : Phase). is_printable_in text p ≡ true) same tells.0)
      ∙ ap Ok (sym (tells.1 (election_of s w) stands)),
  record { is_open = still ∙ is_open; at = at },
)
text_read text Stands s ward w phase (Err (Refused why)) before closed st in_range there same stands is_open at tells still stops = (
  told_there text s ward w in_range there ∙ cond-false (is_printable_in text w.phase) _ _ (subst (λ (p : Phase). is_printable_in text p ≡ false) same stops.1) ∙ ap Err (sym stops.0),
  record { is_open = stops.2; at = at },
)
text_read text Stands s ward w phase (Err (Failed f)) before closed st in_range there same stands is_open at tells still stops = elim stops [
  | inl want ↦ inl (record { memory = want.0; open_at = record { is_open = want.1; at = at } })
  | inr shut ↦ inr (record { is_closed = shut.1; fault = shut.0; leaves = at.leaves })
]
