-- The response to a request for a text of a ward.
use Rattle.std.proofs.Common.{◌≡◌, ℕ, Bool, true, false, cond, List, Some, Ok, Err, refl, sym, ap, ◌∙◌}
use Rattle.register.specs.declared.refusal.Reason.TheVariants.{NumberOutOfRange, WrongPhase}
use Rattle.register.specs.Ranges.{is_ward_number}
use Rattle.register.specs.Offices.{OfficeState, WardEntry, ward_at}
use Rattle.register.specs.Elections.{election_of}
use Rattle.office.specs.Sheets.{is_printable_in, text_found, text_shown, text_answer}
use Rattle.office.specs.declared.sheets.WardText.{WardText}

-- the text is available in the ward's phase, and it is the text of the ward's election
pub record IsToldOf (text : WardText) (s : OfficeState) (w : WardEntry) (told : List ℕ) : Type 0 where
  pub in_phase : is_printable_in text w.phase ≡ true
  pub is : told ≡ text_shown text (election_of s w)

pub told_of : (text : WardText) (s : OfficeState) (w : WardEntry) (told : List ℕ) → ward_at s w.number ≡ Some w → text_answer text s w.number ≡ Ok told → IsToldOf text s w told
told_of text s w told there is = by_number (is_ward_number w.number) is
  where
    by_phase : (b : Bool) → is_printable_in text w.phase ≡ b → cond b (Ok (text_shown text (election_of s w))) (Err WrongPhase) ≡ Ok told → IsToldOf text s w told
    by_phase true in_phase same = record { in_phase = in_phase; is = cc }
    by_phase false in_phase same = absurd (cc)

    by_number : (b : Bool) → cond b (text_found text s (ward_at s w.number)) (Err NumberOutOfRange) ≡ Ok told → IsToldOf text s w told
    by_number true same = by_phase (is_printable_in text w.phase) refl (sym (ap (text_found text s) there) ∙ same)
    by_number false same = absurd (cc)
