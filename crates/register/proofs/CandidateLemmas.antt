-- If there is no objection to a candidate command, applying it to a state yields a state, and its receipt is in
-- range.
use Rattle.std.proofs.Common.{rules, ◌≡◌, ℕ, ◌<◌, true, ◌&&◌, ◌++◌, codes, List, None, string_bytes, refl, arith}
use Rattle.std.specs.Fmt.{decimal}
use Rattle.std.proofs.lemmas.Bool.{and_parts, and_from}
use Rattle.paper.specs.Columns.{max_candidates}
use Rattle.register.specs.declared.phase.Phase.TheVariants.{Nominations}
use Rattle.register.specs.declared.refusal.Reason.TheVariants.{NumberOutOfRange, BadName, WrongPhase, CandidateExists}
use Rattle.register.specs.declared.candidates.CandidateCommand.{CandidateCommand}
use Rattle.register.specs.declared.candidates.CandidateCommand.TheVariants.{Add, Withdraw}
use Rattle.register.specs.Reasons.{first_reason}
use Rattle.register.specs.Ranges.{last_ward, is_office, is_ward_number, is_candidate_number, is_name, is_reply}
use Rattle.register.specs.Subjects.{is_office_subject}
use Rattle.register.specs.Offices.{OfficeState, ward_at, candidate_at}
use Rattle.register.specs.StateConditions.{is_candidate, IsState}
use Rattle.register.specs.Candidates.{part_of, is_in_range, objections, subject_of, reply_to, effect_of}
use Rattle.register.proofs.LineLemmas.{are_plain-decimals, IsLine, words, line_append, line_number, line_reply, line_text}
use Rattle.register.proofs.ObjectionLemmas.{no_objection, asked, absent, there}
use Rattle.register.proofs.ItemLemmas.{IsFit, office_about}
use Rattle.register.proofs.NominationLemmas.{added_before, withdrawn_before, candidate_stays, withdrawn_stays}
use Rattle.register.proofs.TabulationLemmas.{tabulation_kept}

-- the subjects of receipts for candidate commands
candidate_about : (m n : ℕ) → is_ward_number m ≡ true → is_candidate_number n ≡ true → is_office_subject (codes "candidate " ++ (decimal m ++ (codes " " ++ decimal n))) ≡ true
unfolding is_office_subject
candidate_about m n h k = rw (are_plain-decimals last_ward max_candidates m n (omega arith) (omega arith) h k) refl

withdraw_about : (m n : ℕ) → is_ward_number m ≡ true → is_candidate_number n ≡ true → is_office_subject (codes "withdraw " ++ (decimal m ++ (codes " " ++ decimal n))) ≡ true
unfolding is_office_subject
withdraw_about m n h k = rw (are_plain-decimals last_ward max_candidates m n (omega arith) (omega arith) h k) refl

-- the numbers of a ward and a candidate, separated by a space, form a line; so does a reply that contains them
module _ (ward candidate : ℕ) (good : is_ward_number ward ≡ true) (fine : is_candidate_number candidate ≡ true) where
  both : IsLine 21 (decimal ward ++ (codes " " ++ decimal candidate))
  both = line_append (line_number last_ward ward (omega arith) good) (line_append (words (codes " ") (search rules) refl) (line_number max_candidates candidate (omega arith) fine))

  told : {k : ℕ} {word : List ℕ} → IsLine k word → k < 100 → is_reply (codes "candidate " ++ (decimal candidate ++ (codes " of ward " ++ (decimal ward ++ word)))) ≡ true
  told line short =
      let numbered =
      line_append (line_number max_candidates candidate (omega arith) fine)
      (line_append (words (codes " of ward ") (search rules) refl) (line_append (line_number last_ward ward (omega arith) good) line))
      in
      line_reply (line_append (words (codes "candidate ") (search rules) refl) numbered) (omega (arith, short))

-- every candidate command to which there is no objection
pub candidate_fits : (s : OfficeState) (actor : ℕ) (command : CandidateCommand) → IsState s → first_reason (objections actor command (part_of s actor command)) ≡ None
    → IsFit s actor (effect_of command (part_of s actor command)) (subject_of command) (reply_to command (part_of s actor command))
unfolding subject_of reply_to is_candidate
candidate_fits s actor (Add ward candidate name) is none =
    let met = no_objection (objections actor (Add ward candidate name) (part_of s actor (Add ward candidate name))) none in
    let range = and_parts (is_office actor) (is_ward_number ward && is_candidate_number candidate) (asked (is_in_range actor (Add ward candidate name)) NumberOutOfRange (met 0)) in
    let numbers = and_parts (is_ward_number ward) (is_candidate_number candidate) range.1 in
    let good = asked (is_name (string_bytes name)) BadName (met 1) in
    let found = there Nominations (ward_at s ward) WrongPhase (met 3) in
    let new = absent (candidate_at s ward candidate) CandidateExists (met 4) in
    record {
      state = candidate_stays s _ (and_from _ _ numbers.0 (and_from _ _ numbers.1 good)) new found is;
      tabulated = tabulation_kept s _ is (added_before s _ found);
      about = office_about actor _ range.0 (candidate_about ward candidate numbers.0 numbers.1);
      text = line_text (line_append (words (codes "candidate ") (search rules) refl) (both ward candidate numbers.0 numbers.1));
      line = told ward candidate numbers.0 numbers.1 (words (codes " added") (search rules) refl) (omega arith);
    }
candidate_fits s actor (Withdraw ward candidate) is none =
    let met = no_objection (objections actor (Withdraw ward candidate) (part_of s actor (Withdraw ward candidate))) none in
    let range = and_parts (is_office actor) (is_ward_number ward && is_candidate_number candidate) (asked (is_in_range actor (Withdraw ward candidate)) NumberOutOfRange (met 0)) in
    let numbers = and_parts (is_ward_number ward) (is_candidate_number candidate) range.1 in
    let found = there Nominations (ward_at s ward) WrongPhase (met 2) in
    record {
      state = withdrawn_stays s ward candidate found is;
      tabulated = tabulation_kept s _ is (withdrawn_before s ward candidate found);
      about = office_about actor _ range.0 (withdraw_about ward candidate numbers.0 numbers.1);
      text = line_text (line_append (words (codes "withdraw ") (search rules) refl) (both ward candidate numbers.0 numbers.1));
      line = told ward candidate numbers.0 numbers.1 (words (codes " withdrawn") (search rules) refl) (omega arith);
    }
