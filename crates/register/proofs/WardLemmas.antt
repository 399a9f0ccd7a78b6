-- If there is no objection to a ward command, applying it to a state yields a state, and its receipt is in
-- range.
use Rattle.std.proofs.Common.{rules, ◌≡◌, ℕ, Bool, true, false, cond, ◌&&◌, ◌==◌, ◌++◌, codes, List, Some, None, string_bytes, refl, sym, ap, ◌∙◌, arith}
use Rattle.std.specs.Fmt.{decimal}
use Rattle.std.proofs.lemmas.Bool.{and_parts, and_from}
use Rattle.register.specs.declared.phase.Phase.TheVariants.{Nominations, Keying, Sealed}
use Rattle.register.specs.declared.refusal.Reason.TheVariants.{NumberOutOfRange, BadName, WardExists, WrongPhase, NoCandidates}
use Rattle.register.specs.declared.wards.WardCommand.{WardCommand}
use Rattle.register.specs.declared.wards.WardCommand.TheVariants.{Add, Close}
use Rattle.register.specs.Phases.{phase_number}
use Rattle.register.specs.Reasons.{first_reason}
use Rattle.register.specs.Ranges.{last_ward, is_office, is_ward_number, is_seat_number, is_name}
use Rattle.register.specs.Subjects.{is_office_subject}
use Rattle.register.specs.Offices.{WardEntry, CandidateEntry, OfficeState, ward_compared, ward_at, candidates_of}
use Rattle.register.specs.Nominations.{is_contested, is_stood_in}
use Rattle.register.specs.StateConditions.{is_ward, IsState}
use Rattle.register.specs.Effects.{in_phase, with_effect}
use Rattle.register.specs.Wards.{part_of, is_in_range, objections, is_to_be_polled, closed_phase, subject_of, reply_to, effect_of}
use Rattle.register.proofs.LineLemmas.{is_plain-decimal, IsLine, words, line_append, line_number, line_reply, line_text}
use Rattle.register.proofs.ObjectionLemmas.{no_objection, asked, absent, there}
use Rattle.register.proofs.MapLemmas.{found_passes, found_number}
use Rattle.register.proofs.ItemLemmas.{IsFit, ward_stays, office_about, has_enough}
use Rattle.register.proofs.NominationLemmas.{moved, changed_stays}
use Rattle.register.proofs.ElectionLemmas.{sound_of, is_sound}
use Rattle.register.proofs.ProgressLemmas.{sound_closed}
use Rattle.register.proofs.TabulationLemmas.{tabulation_added, tabulation_moved}
use Rattle.register.specs.Elections.{election_of}

-- the subjects of receipts for ward commands
ward_about : (n : ℕ) → is_ward_number n ≡ true → is_office_subject (codes "ward " ++ decimal n) ≡ true
unfolding is_office_subject
ward_about n h = rw (is_plain-decimal last_ward n (omega arith) h) refl

close_about : (n : ℕ) → is_ward_number n ≡ true → is_office_subject (codes "close " ++ decimal n) ≡ true
unfolding is_office_subject
close_about n h = rw (is_plain-decimal last_ward n (omega arith) h) refl

-- ---- closing the nominations of a ward

-- the word in the reply is a line
told : (b : Bool) → IsLine 12 (cond b (codes " polled") (codes " uncontested"))
told true = record { ascii = search rules; short = omega arith; plain = refl }
told false = record { ascii = search rules; short = omega arith; plain = refl }

-- a ward, whether contested or not, moves to a phase for which it has enough candidates
closed_enough : (w : WardEntry) (candidates : List CandidateEntry) → is_stood_in candidates ≡ true → (b : Bool) → is_contested w candidates ≡ b
    → has_enough (in_phase (cond b Keying Sealed) w) candidates ≡ true
closed_enough w candidates stood true is = is
closed_enough w candidates stood false is = stood

closed_past : (b : Bool) → (phase_number (cond b Keying Sealed) == phase_number Nominations) ≡ false
closed_past true = refl
closed_past false = refl

closed_stays : (s : OfficeState) (actor ward : ℕ) (w : WardEntry) → ward_at s ward ≡ Some w → w.phase ≡ Nominations → is_stood_in (candidates_of s ward) ≡ true → IsState s
    → IsState (with_effect (effect_of (Close ward) (part_of s actor (Close ward))) s)
closed_stays s actor ward w found phased stood is =
    let contested = is_contested w (candidates_of s ward) in
    let same : ward ≡ w.number = found_number (λ (x : WardEntry). x.number) s.wards ward w found in
    let enough = ap (λ (n : ℕ). has_enough (in_phase (cond contested Keying Sealed) w) (candidates_of s n)) (sym same) ∙ closed_enough w (candidates_of s ward) stood contested refl in
    let was = found_passes (ward_compared ward) (λ x. is_sound (election_of s x)) w s.wards (sound_of is) found in
    let sound = sound_closed (election_of s w) contested phased (ap (λ (n : ℕ). is_contested w (candidates_of s n)) (sym same)) was in
    rw found (changed_stays s ward w (in_phase (cond contested Keying Sealed)) found (moved (cond contested Keying Sealed) (closed_past contested)) enough sound is)

-- ---- each command

pub ward_fits : (s : OfficeState) (actor : ℕ) (command : WardCommand) → IsState s → first_reason (objections actor command (part_of s actor command)) ≡ None
    → IsFit s actor (effect_of command (part_of s actor command)) (subject_of command) (reply_to command (part_of s actor command))
unfolding subject_of reply_to is_ward
ward_fits s actor (Add ward seats name) is none =
    let met = no_objection (objections actor (Add ward seats name) (part_of s actor (Add ward seats name))) none in
    let range = and_parts (is_office actor) (is_ward_number ward && is_seat_number seats) (asked (is_in_range actor (Add ward seats name)) NumberOutOfRange (met 0)) in
    let numbers = and_parts (is_ward_number ward) (is_seat_number seats) range.1 in
    let good = asked (is_name (string_bytes name)) BadName (met 1) in
    let new = absent (ward_at s ward) WardExists (met 2) in
    let front = words (codes "ward ") (search rules) refl in
    let digits = line_number last_ward ward (omega arith) numbers.0 in
    record {
      state = ward_stays s _ (and_from _ _ numbers.0 (and_from _ _ numbers.1 good)) refl refl new is;
      tabulated = tabulation_added s _ refl;
      about = office_about actor _ range.0 (ward_about ward numbers.0);
      text = line_text (line_append front digits);
      line = line_reply (line_append front (line_append digits (words (codes " added") (search rules) refl))) (omega arith);
    }
ward_fits s actor (Close ward) is none =
    let met = no_objection (objections actor (Close ward) (part_of s actor (Close ward))) none in
    let range = and_parts (is_office actor) (is_ward_number ward) (asked (is_in_range actor (Close ward)) NumberOutOfRange (met 0)) in
    let found = there Nominations (ward_at s ward) WrongPhase (met 2) in
    let stood = asked (is_stood_in (candidates_of s ward)) NoCandidates (met 3) in
    let digits = line_number last_ward ward (omega arith) range.1 in
    let part = part_of s actor (Close ward) in
    record {
      state = closed_stays s actor ward found.ward found.is found.phased stood is;
      tabulated = tabulation_moved s ward (closed_phase part);
      about = office_about actor _ range.0 (close_about ward range.1);
      text = line_text (line_append (words (codes "close ") (search rules) refl) digits);
      line = line_reply (line_append (words (codes "ward ") (search rules) refl) (line_append digits (told (is_to_be_polled part.ward part.candidates)))) (omega arith);
    }
