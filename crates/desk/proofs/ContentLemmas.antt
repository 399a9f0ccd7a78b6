-- The machine decides a request by its content: two requests that ask for the same are decided alike, even if their texts are stored in different places.
use Rattle.std.proofs.Common.{◌≡◌, ◌∙◌, [], ◌++◌, codes, ℕ, List, Option, Some, None, refl, sym, ap, arith, string_bytes}
use Rattle.std.specs.Prelude.{if◌then◌else◌}
use Rattle.std.specs.Fmt.{decimal}
use Rattle.std.specs.Str.{bytes_eq}
use Rattle.std.specs.declared.alloc.Global.{Global}
use Rattle.std.specs.declared.string.String.{String}
use Rattle.register.specs.CommandInputs.{CommandInputEntries}
use Rattle.register.specs.Keyings.{texts_of}
use Rattle.register.specs.Marks.{columns_of, is_valid, marks_objection}
use Rattle.register.specs.Machine.{Ruling, answered, decided, effect_of, judged, keeps, objections, outcome_at, part_of, refuses, reply_to, ruling_at, step, step_of, subject_of}
use Rattle.register.specs.Offices.{OfficeState, ReceiptEntry, receipt_at}
use Rattle.register.specs.Ranges.{is_id}
use Rattle.register.specs.Reasons.{first_reason}
use Rattle.register.specs.Candidates as candidates
use Rattle.register.specs.Keyings as keyings
use Rattle.register.specs.Verdicts as verdicts
use Rattle.register.specs.Wards as wards
use Rattle.register.specs.declared.batches.BatchCommand.{BatchCommand}
use Rattle.register.specs.declared.batches.BatchCommand.TheVariants as batch_command
use Rattle.register.specs.declared.candidates.CandidateCommand.{CandidateCommand}
use Rattle.register.specs.declared.candidates.CandidateCommand.TheVariants as candidate_command
use Rattle.register.specs.declared.command.Command.{Command}
use Rattle.register.specs.declared.command.Command.TheVariants as command
use Rattle.register.specs.declared.command.Request.{Request}
use Rattle.register.specs.declared.counts.CountCommand.{CountCommand}
use Rattle.register.specs.declared.counts.CountCommand.TheVariants as count_command
use Rattle.register.specs.declared.keyings.KeyingCommand.{KeyingCommand}
use Rattle.register.specs.declared.refusal.Reason.{Reason}
use Rattle.register.specs.declared.refusal.Reason.TheVariants.{BadId, IdUsed}
use Rattle.register.specs.declared.verdicts.Verdict.{Verdict}
use Rattle.register.specs.declared.verdicts.Verdict.TheVariants as verdict
use Rattle.register.specs.declared.verdicts.VerdictCommand.{VerdictCommand}
use Rattle.register.specs.declared.wards.WardCommand.{WardCommand}
use Rattle.register.specs.declared.wards.WardCommand.TheVariants as ward_command
use Rattle.desk.specs.Orders.{Asked, Sent, asked_by, sent_as}
use Rattle.desk.specs.Orders.{batch_for_third_clerk, batch_to_add, batch_to_key_again, candidate_to_add, candidate_to_withdraw, keying_to_keep, lot_to_record, paper_to_judge, stage_to_count}
use Rattle.desk.specs.Orders.{ward_to_add, ward_to_close, ward_to_declare, ward_to_seal}
use Rattle.desk.specs.Verdicts.{judgement_given}

-- ---- what the machine reads of a command

-- two commands need the same part of the state, and have the same objections, subject, reply and effect
record IsAlike (a b : Command) : Type 0 where
  part : (s : OfficeState) (actor : ℕ) → part_of s actor a ≡ part_of s actor b
  subject : subject_of a ≡ subject_of b
  objects : (actor : ℕ) (part : CommandInputEntries) → objections actor a part ≡ objections actor b part
  replies : (part : CommandInputEntries) → reply_to a part ≡ reply_to b part
  effect : (actor : ℕ) (part : CommandInputEntries) → effect_of actor a part ≡ effect_of actor b part

judged_alike : (actor : ℕ) (id : List ℕ) (a b : Command) (part : CommandInputEntries) (why : Option Reason) → IsAlike a b → judged actor id a part why ≡ judged actor id b part why
judged_alike actor id a b part (Some why) alike = refl
judged_alike actor id a b part None alike =
    let subject = alike.subject in
    let reply = alike.replies part in
    let effect = alike.effect actor part in
    cc

answered_alike : (actor : ℕ) (id : List ℕ) (a b : Command) (receipt : Option ReceiptEntry) (part : CommandInputEntries) → IsAlike a b
    → answered actor id a receipt part ≡ answered actor id b receipt part
answered_alike actor id a b (Some receipt) part alike =
    ap (λ (subject : List ℕ). if bytes_eq receipt.subject subject then keeps receipt.reply else refuses IdUsed) alike.subject
answered_alike actor id a b None part alike =
    judged_alike actor id a b part (first_reason (objections actor a part)) alike
    ∙ ap (λ (why : List (Option Reason)). judged actor id b part (first_reason why)) (alike.objects actor part)

decided_alike : (s : OfficeState) (actor : ℕ) (id : List ℕ) (a b : Command) → IsAlike a b → ruling_at s actor id a ≡ ruling_at s actor id b
unfolding decided
decided_alike s actor id a b alike =
    ap (λ (r : Ruling). if is_id id then r else refuses BadId)
    (answered_alike actor id a b (receipt_at s actor id) (part_of s actor a) alike
    ∙ ap (λ (part : CommandInputEntries). answered actor id b (receipt_at s actor id) part) (alike.part s actor))

-- ---- the commands with texts

same_command : (a b : Command) → a ≡ b → IsAlike a b
same_command a b is =
    record {
      part = λ s actor. ap (part_of s actor) is;
      subject = ap subject_of is;
      objects = λ actor part. ap (λ (c : Command). objections actor c part) is;
      replies = λ part. ap (λ (c : Command). reply_to c part) is;
      effect = λ actor part. ap (λ (c : Command). effect_of actor c part) is;
    }

added_wards : (ward seats : ℕ) (name other : String Global) → string_bytes name ≡ string_bytes other
    → IsAlike (command.Ward (ward_command.Add ward seats name)) (command.Ward (ward_command.Add ward seats other))
unfolding wards.subject_of wards.reply_to
added_wards ward seats name other same =
    record { part = λ s actor. refl; subject = refl; objects = λ actor part. rw same refl; replies = λ part. refl; effect = λ actor part. rw same refl }

added_candidates : (ward number : ℕ) (name other : String Global) → string_bytes name ≡ string_bytes other
    → IsAlike (command.Candidate (candidate_command.Add ward number name)) (command.Candidate (candidate_command.Add ward number other))
unfolding candidates.subject_of candidates.reply_to
added_candidates ward number name other same =
    record { part = λ s actor. refl; subject = refl; objects = λ actor part. rw same refl; replies = λ part. refl; effect = λ actor part. rw same refl }

keyed : (k l : KeyingCommand) → k.batch ≡ l.batch → k.round ≡ l.round → texts_of k ≡ texts_of l → IsAlike (command.Keying k) (command.Keying l)
unfolding keyings.subject_of keyings.reply_to
keyed k l batch round texts =
    record {
      part = λ s actor. rw (batch, round) refl;
      subject = rw (batch, round) refl;
      objects = λ actor part. rw (batch, round, texts) refl;
      replies = λ part. rw (batch, round) refl;
      effect = λ actor part. rw (batch, round, texts) refl;
    }

-- a function of a verdict that reads only its content
by_content : {X : Type 0} (accepts : List ℕ → X) (rejects : ℕ → X) (f : Verdict → X) → ((marks : String Global) → f (verdict.Accept marks) ≡ accepts (string_bytes marks))
    → ((code : ℕ) → f (verdict.Reject code) ≡ rejects code) → (v w : Verdict) → judgement_given v ≡ judgement_given w → f v ≡ f w
by_content accepts rejects f by_marks by_code (verdict.Accept marks) (verdict.Accept others) same =
    let texts : string_bytes marks ≡ string_bytes others = cc in by_marks marks ∙ ap accepts texts ∙ sym (by_marks others)
by_content accepts rejects f by_marks by_code (verdict.Accept marks) (verdict.Reject code) same = absurd (cc same)
by_content accepts rejects f by_marks by_code (verdict.Reject code) (verdict.Accept marks) same = absurd (cc same)
by_content accepts rejects f by_marks by_code (verdict.Reject code) (verdict.Reject other) same =
    let codes : code ≡ other = cc in by_code code ∙ ap rejects codes ∙ sym (by_code other)

-- what the machine reads of a verdict
same_objection : (columns : List ℕ) (paper : ℕ) (v w : Verdict) → judgement_given v ≡ judgement_given w → verdicts.verdict_objection columns paper v ≡ verdicts.verdict_objection columns paper w
same_objection columns paper = by_content (λ marks. marks_objection columns paper marks) (λ code. None) (verdicts.verdict_objection columns paper) (λ marks. refl) (λ code. refl)

same_validity : (columns : List ℕ) (v w : Verdict) → judgement_given v ≡ judgement_given w → verdicts.is_verdict columns v ≡ verdicts.is_verdict columns w
same_validity columns = by_content (is_valid columns) verdicts.is_rejection_code (verdicts.is_verdict columns) (λ marks. refl) (λ code. refl)

same_word : (v w : Verdict) → judgement_given v ≡ judgement_given w → verdicts.verdict_word v ≡ verdicts.verdict_word w
same_word = by_content (λ marks. codes " accepted") (λ code. codes " rejected " ++ decimal code) verdicts.verdict_word (λ marks. refl) (λ code. refl)

same_judged : (batch paper : ℕ) (v w : Verdict) → judgement_given v ≡ judgement_given w → verdicts.judged_as batch paper v ≡ verdicts.judged_as batch paper w
same_judged batch paper =
    by_content (λ marks. record { batch = batch; paper = paper; code = 0; marks = marks }) (λ code. record { batch = batch; paper = paper; code = code; marks = [] })
    (verdicts.judged_as batch paper) (λ marks. refl) (λ code. refl)

judged_papers : (j k : VerdictCommand) → j.batch ≡ k.batch → j.paper ≡ k.paper → judgement_given j.verdict ≡ judgement_given k.verdict → IsAlike (command.Verdict j) (command.Verdict k)
unfolding verdicts.subject_of verdicts.reply_to
judged_papers j k batch paper given =
    record {
      part = λ s actor. rw (batch, paper) refl;
      subject = rw (batch, paper) refl;
      objects = λ actor part. rw (
        batch,
        paper,
        same_objection (columns_of part.candidates) k.paper j.verdict k.verdict given,
        same_validity (columns_of part.candidates) j.verdict k.verdict given,
      ) refl;
      replies = λ part. rw (batch, paper, same_word j.verdict k.verdict given) refl;
      effect = λ actor part. rw (batch, paper, same_judged k.batch k.paper j.verdict k.verdict given) refl;
    }

-- ---- commands that ask for the same

wards_alike : (a b : WardCommand) → asked_by (command.Ward a) ≡ asked_by (command.Ward b) → IsAlike (command.Ward a) (command.Ward b)
wards_alike (ward_command.Add w n t) (ward_command.Add v m u) same =
    let number : w ≡ v = cc in
    let seats : n ≡ m = cc in
    let name : string_bytes t ≡ string_bytes u = cc in
    rw (number, seats) (added_wards v m t u name)
wards_alike (ward_command.Close w) (ward_command.Close v) same = same_command (command.Ward (ward_command.Close w)) (command.Ward (ward_command.Close v)) cc
wards_alike a b same = absurd (cc same)

candidates_alike : (a b : CandidateCommand) → asked_by (command.Candidate a) ≡ asked_by (command.Candidate b) → IsAlike (command.Candidate a) (command.Candidate b)
candidates_alike (candidate_command.Add w n t) (candidate_command.Add v m u) same =
    let number : w ≡ v = cc in
    let candidate : n ≡ m = cc in
    let name : string_bytes t ≡ string_bytes u = cc in
    rw (number, candidate) (added_candidates v m t u name)
candidates_alike (candidate_command.Withdraw w n) (candidate_command.Withdraw v m) same =
    same_command (command.Candidate (candidate_command.Withdraw w n)) (command.Candidate (candidate_command.Withdraw v m)) cc
candidates_alike a b same = absurd (cc same)

batches_alike : (a b : BatchCommand) → asked_by (command.Batch a) ≡ asked_by (command.Batch b) → command.Batch a ≡ command.Batch b
batches_alike (batch_command.Add b w n f g) (batch_command.Add c v m h i) same = cc
batches_alike (batch_command.Again b) (batch_command.Again c) same = cc
batches_alike (batch_command.Third b f) (batch_command.Third c g) same = cc
batches_alike a b same = absurd (cc same)

counts_alike : (a b : CountCommand) → asked_by (command.Count a) ≡ asked_by (command.Count b) → command.Count a ≡ command.Count b
counts_alike (count_command.Seal w) (count_command.Seal v) same = cc
counts_alike (count_command.Advance w) (count_command.Advance v) same = cc
counts_alike (count_command.Lot w n c) (count_command.Lot v m d) same = cc
counts_alike (count_command.Declare w) (count_command.Declare v) same = cc
counts_alike a b same = absurd (cc same)

-- the number of the subject that a command is about
abbrev subject_asked : Asked → ℕ
subject_asked (ward_to_add ward seats name) = 0
subject_asked (ward_to_close ward) = 0
subject_asked (candidate_to_add ward candidate name) = 1
subject_asked (candidate_to_withdraw ward candidate) = 1
subject_asked (batch_to_add batch ward size first_clerk second_clerk) = 2
subject_asked (batch_to_key_again batch) = 2
subject_asked (batch_for_third_clerk batch clerk) = 2
subject_asked (keying_to_keep batch round papers) = 3
subject_asked (paper_to_judge batch paper judgement) = 4
subject_asked (ward_to_seal ward) = 5
subject_asked (stage_to_count ward) = 5
subject_asked (lot_to_record ward stage candidate) = 5
subject_asked (ward_to_declare ward) = 5

abbrev subject_number : Command → ℕ
subject_number (command.Ward c) = 0
subject_number (command.Candidate c) = 1
subject_number (command.Batch c) = 2
subject_number (command.Keying c) = 3
subject_number (command.Verdict c) = 4
subject_number (command.Count c) = 5

asked_of_subject : (a : Command) → subject_asked (asked_by a) ≡ subject_number a
asked_of_subject (command.Ward (ward_command.Add w n t)) = refl
asked_of_subject (command.Ward (ward_command.Close w)) = refl
asked_of_subject (command.Candidate (candidate_command.Add w n t)) = refl
asked_of_subject (command.Candidate (candidate_command.Withdraw w n)) = refl
asked_of_subject (command.Batch (batch_command.Add b w n f g)) = refl
asked_of_subject (command.Batch (batch_command.Again b)) = refl
asked_of_subject (command.Batch (batch_command.Third b f)) = refl
asked_of_subject (command.Keying k) = refl
asked_of_subject (command.Verdict k) = refl
asked_of_subject (command.Count (count_command.Seal w)) = refl
asked_of_subject (command.Count (count_command.Advance w)) = refl
asked_of_subject (command.Count (count_command.Lot w n c)) = refl
asked_of_subject (command.Count (count_command.Declare w)) = refl

alike : (a b : Command) → asked_by a ≡ asked_by b → IsAlike a b
alike (command.Ward a) (command.Ward b) same = wards_alike a b same
alike (command.Candidate a) (command.Candidate b) same = candidates_alike a b same
alike (command.Batch a) (command.Batch b) same = same_command (command.Batch a) (command.Batch b) (batches_alike a b same)
alike (command.Keying k) (command.Keying l) same = keyed k l (cc) (cc) (cc)
alike (command.Verdict j) (command.Verdict k) same = judged_papers j k (cc) (cc) (cc)
alike (command.Count a) (command.Count b) same = same_command (command.Count a) (command.Count b) (counts_alike a b same)
alike a b same = absurd (let other : subject_number a ≡ subject_number b = sym (asked_of_subject a) ∙ ap subject_asked same ∙ asked_of_subject b in omega (arith, other))

-- two requests with the same content have the same step
pub same_step : (s : OfficeState) (a b : Request) → sent_as a ≡ sent_as b → step_of s a ≡ step_of s b
unfolding step
same_step s a b same =
    let actor : a.actor ≡ b.actor = ap (λ (sent : Sent). sent.actor) same in
    let id : string_bytes a.id ≡ string_bytes b.id = ap (λ (sent : Sent). sent.id) same in
    let asked : asked_by a.command ≡ asked_by b.command = ap (λ (sent : Sent). sent.asked) same in
    ap (outcome_at s)
    (rw (actor, id) (decided_alike s b.actor (string_bytes b.id) a.command b.command (alike a.command b.command asked)))
