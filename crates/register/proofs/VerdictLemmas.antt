-- If there is no objection to a verdict command, applying it to a state yields a state, and its receipt is in range.
use Rattle.std.proofs.Common.{rules, ◌≡◌, ℕ, Bool, true, false, ◌&&◌, ◌==◌, ◌++◌, codes, List, [], ◌∷◌, filter, Option, Some, None, is_some, string_bytes, refl, sym, ap, ◌∙◌, arith, cond}
use Rattle.std.specs.Fmt.{decimal}
use Rattle.std.specs.List.{list_all}
use Rattle.std.specs.declared.cmp.Ordering.{Ordering}
use Rattle.std.specs.Ordering.{is_lt}
use Rattle.std.proofs.lemmas.Bool.{and_parts, and_from, or_right, le-leb}
use Rattle.std.proofs.lemmas.Str.{IsUtf8-nil, IsUtf8-string_bytes, is_utf8-from_IsUtf8}
use Rattle.register.specs.declared.phase.Phase.TheVariants.{Keying}
use Rattle.register.specs.declared.refusal.Reason.TheVariants.{NumberOutOfRange, NoSuchBatch, WrongPhase, NotDoubtful, AlreadyJudged, BadVerdict}
use Rattle.register.specs.declared.verdicts.Verdict.{Verdict}
use Rattle.register.specs.declared.verdicts.Verdict.TheVariants.{Accept, Reject}
use Rattle.register.specs.declared.verdicts.VerdictCommand.{VerdictCommand}
use Rattle.register.specs.Reasons.{first_reason}
use Rattle.register.specs.Ranges.{last_batch, most_papers, is_office, is_batch_number, is_paper_number}
use Rattle.register.specs.Subjects.{is_office_subject}
use Rattle.register.specs.Offices.{BatchEntry, JudgedEntry, OfficeState, put, judged_cmp, batch_at, verdict_at}
use Rattle.register.specs.Marks.{columns_of, is_valid}
use Rattle.register.specs.Agreement.{agreed, has_doubtful, taken_papers}
use Rattle.register.specs.BatchConditions.{columns_for, is_verdict_for}
use Rattle.register.specs.StateConditions.{is_judged_paper, IsState}
use Rattle.register.specs.Effects.{paper_judged, with_effect}
use Rattle.register.specs.Batches.{ward_for, candidates_for, keyings_for}
use Rattle.register.specs.Verdicts.{part_of, is_in_range, is_verdict, objections, subject_of, verdict_word, reply_to, judged_as, effect_of}
use Rattle.register.proofs.LineLemmas.{lower, upper, are_plain-decimals, IsLine, words, line_append, line_number, line_reply, line_text}
use Rattle.register.proofs.ObjectionLemmas.{no_objection, asked, absent, present, there}
use Rattle.register.proofs.MapLemmas.{put_all, put_is_map}
use Rattle.register.proofs.ElectionLemmas.{lots_placed_of}
use Rattle.register.proofs.ElsewhereLemmas.{judged_elsewhere, IsBeforeCount, batch_in_keying, sound_kept}
use Rattle.register.proofs.TabulationLemmas.{tabulation_kept}
use Rattle.register.proofs.ItemLemmas.{MapName, judged_map, Holds, maps_of, state_from, rounds_still, judged_total, IsFit, office_about}

-- the filtered entries still pass a test after an entry that passes it is inserted
put_kept : {X : Type 0} (cmp : X → X → Ordering) (p q : X → Bool) (x : X) (ys : List X) → p x ≡ true → list_all p (filter q ys) ≡ true → list_all p (filter q (put cmp x ys)) ≡ true
put_kept {X} cmp p q x [] good all = elim (q x) as (λ b. list_all p (cond b (x ∷ []) []) ≡ true) [ true ↦ and_from _ _ good refl | false ↦ refl ]
put_kept {X} cmp p q x (y ∷ ys) good all = elim (is_lt (cmp x y)) as (λ b. list_all p (filter q (cond b (x ∷ y ∷ ys) (y ∷ put cmp x ys))) ≡ true) [
  | true ↦ elim (q x) as (λ b. list_all p (cond b (x ∷ filter q (y ∷ ys)) (filter q (y ∷ ys))) ≡ true) [ true ↦ and_from _ _ good all | false ↦ all ]
  | false ↦ go (q y) (λ each. put_kept cmp p q x ys good each) all
]
  where
    go : (b : Bool) → (list_all p (filter q ys) ≡ true → list_all p (filter q (put cmp x ys)) ≡ true) → list_all p (cond b (y ∷ filter q ys) (filter q ys)) ≡ true
        → list_all p (cond b (y ∷ filter q (put cmp x ys)) (filter q (put cmp x ys))) ≡ true
    go true later each = and_from _ _ (and_parts _ _ each).0 (later (and_parts _ _ each).1)
    go false later each = later each

-- adding a verdict yields a state if it is in range and is on a doubtful paper among a batch's agreed papers that has no
-- verdict yet
judged_stays : (s : OfficeState) (v : JudgedEntry) (b : BatchEntry) → is_judged_paper v ≡ true → batch_at s v.batch ≡ Some b → is_verdict_for s b v ≡ true
    → verdict_at s v.batch v.paper ≡ None → IsBeforeCount s (paper_judged v) → IsState s → IsState (with_effect (paper_judged v) s)
judged_stays s v b good found on new before is =
    let keyed = and_parts _ _ is.keyed in
    let judged = and_parts _ _ is.judged in
    let belongs : is_some (batch_at s v.batch) ≡ true = rw found refl in
    state_from
    (with_effect (paper_judged v) s)
    maps
    (record {
      nominated = is.nominated;
      given_out = is.given_out;
      keyed = and_from _ _ keyed.0 (rounds_still s (with_effect (paper_judged v) s) s.batches (λ x m round. round) keyed.1);
      judged = and_from
          _
          _
          (put_all judged_cmp (λ x. is_some (batch_at s x.batch)) v s.verdicts belongs judged.0)
          (judged_elsewhere s (paper_judged v) v.batch b is found refl (put_kept judged_cmp (is_verdict_for s b) (λ (x : JudgedEntry). x.batch == b.number) v s.verdicts on));
      lots_placed = lots_placed_of is;
      sound = sound_kept s (paper_judged v) is before;
    })
  where
    maps : (m : MapName) → Holds m (with_effect (paper_judged v) s)
    maps judged_map = put_is_map judged_total v s.verdicts good new (maps_of is judged_map)
    maps m = maps_of is m

-- ---- the command

-- adding a verdict in the form in which it is stored yields a state
verdict_stays : (s : OfficeState) (batch paper : ℕ) (verdict : Verdict) (b : BatchEntry) → is_batch_number batch ≡ true → is_paper_number paper ≡ true → batch_at s batch ≡ Some b
    → has_doubtful (taken_papers s b) paper ≡ true → is_verdict (columns_for s b) verdict ≡ true → verdict_at s batch paper ≡ None
    → IsBeforeCount s (paper_judged (judged_as batch paper verdict)) → IsState s
    → IsState (with_effect (paper_judged (judged_as batch paper verdict)) s)
unfolding is_judged_paper
verdict_stays s batch paper (Accept marks) b number numbered found doubtful valid new before is =
    let text = is_utf8-from_IsUtf8 (string_bytes marks) (IsUtf8-string_bytes marks) in
    judged_stays s _ b (and_from _ _ number (and_from _ _ numbered text)) found (and_from _ _ doubtful (rw valid refl)) new before is
verdict_stays s batch paper (Reject code) b number numbered found doubtful good new before is =
    let low = upper 3 5 code good in
    let range = and_from _ _ number (and_from _ _ numbered (and_from _ _ (le-leb code 5 low) (is_utf8-from_IsUtf8 [] IsUtf8-nil))) in
    judged_stays s _ b range found (and_from _ _ doubtful (or_right ((code == 0) && is_valid (columns_for s b) []) _ (and_from _ _ good refl))) new before is

judged_batch : (batch paper : ℕ) (verdict : Verdict) → (judged_as batch paper verdict).batch ≡ batch
judged_batch batch paper (Accept marks) = refl
judged_batch batch paper (Reject code) = refl

-- the word that reports a verdict is a line
told : (columns : List ℕ) (verdict : Verdict) → is_verdict columns verdict ≡ true → IsLine 20 (verdict_word verdict)
told columns (Accept marks) good = record { ascii = search rules; short = omega arith; plain = refl }
told columns (Reject code) good =
    let low = lower 3 5 code good in
    let high = upper 3 5 code good in
    line_append (words (codes " rejected ") (search rules) refl) (line_number 5 code (omega arith) (and_from _ _ (le-leb 1 code (omega (arith, low))) (le-leb code 5 high)))

-- the subjects of receipts for verdicts
judge_about : (m n : ℕ) → is_batch_number m ≡ true → is_paper_number n ≡ true → is_office_subject (codes "judge " ++ (decimal m ++ (codes " " ++ decimal n))) ≡ true
unfolding is_office_subject
judge_about m n h k = rw (are_plain-decimals last_batch most_papers m n (omega arith) (omega arith) h k) refl

pub verdict_fits : (s : OfficeState) (actor : ℕ) (command : VerdictCommand) → IsState s → first_reason (objections actor command (part_of s actor command)) ≡ None
    → IsFit s actor (effect_of command) (subject_of command) (reply_to command)
unfolding subject_of reply_to
verdict_fits s actor command is none =
    let part = part_of s actor command in
    let met = no_objection (objections actor command part) none in
    let range = and_parts (is_office actor) (is_batch_number command.batch && is_paper_number command.paper) (asked (is_in_range actor command) NumberOutOfRange (met 0)) in
    let numbers = and_parts (is_batch_number command.batch) (is_paper_number command.paper) range.1 in
    let found = present (batch_at s command.batch) NoSuchBatch (met 1) in
    let b = found.it in
    let before =
    batch_in_keying s command.batch b (effect_of command) found.is (there Keying (ward_for s (batch_at s command.batch)) WrongPhase (met 2))
    (judged_batch command.batch command.paper command.verdict) (λ own. own) refl refl
    in
    let doubtful : has_doubtful (taken_papers s b) command.paper ≡ true =
    ap (λ (o : Option BatchEntry). has_doubtful (agreed (keyings_for s o)) command.paper) (sym found.is) ∙ asked (has_doubtful (agreed part.keyings) command.paper) NotDoubtful (met 5)
    in
    let new = absent part.verdict AlreadyJudged (met 6) in
    let valid : is_verdict (columns_for s b) command.verdict ≡ true =
    ap (λ (o : Option BatchEntry). is_verdict (columns_of (candidates_for s o)) command.verdict) (sym found.is)
    ∙ asked (is_verdict (columns_of part.candidates) command.verdict) BadVerdict (met 7)
    in
    let digits = line_number last_batch command.batch (omega arith) numbers.0 in
    let papers = line_number most_papers command.paper (omega arith) numbers.1 in
    record {
      state = verdict_stays s command.batch command.paper command.verdict b numbers.0 numbers.1 found.is doubtful valid new before is;
      tabulated = tabulation_kept s _ is before;
      about = office_about actor _ range.0 (judge_about command.batch command.paper numbers.0 numbers.1);
      text = line_text (line_append (words (codes "judge ") (search rules) refl) (line_append digits (line_append (words (codes " ") (search rules) refl) papers)));
      line =
          line_reply (line_append (words (codes "batch ") (search rules) refl)
          (line_append digits (line_append (words (codes " paper ") (search rules) refl) (line_append papers (told (columns_for s b) command.verdict valid))))) (omega arith);
    }
