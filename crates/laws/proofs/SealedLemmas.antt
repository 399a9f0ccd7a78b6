-- A sealed ward stays sealed and keeps its papers, whatever requests follow.
use Rattle.std.proofs.Common.{◌≡◌, ℕ, Bool, true, false, cond, ◌==◌, List, [], ◌∷◌, ◌++◌, map, Option, Some, None, string_bytes, refl, sym, ap, subst, ◌∙◌, append_assoc}
use Rattle.std.specs.List.Sorted.{IsPermutation}
use Rattle.std.specs.Cmp.{IsTotalOrder, unsigned_tied}
use Rattle.std.specs.Option.{option_map}
use Rattle.std.specs.Ordering.{is_eq, nat_cmp}
use Rattle.std.specs.Str.{bytes_eq}
use Rattle.std.proofs.lemmas.Bool.{both_ways, eqb-true, ne_eqb}
use Rattle.std.proofs.lemmas.Cmp.{nat_cmp_total, on_total, then_total}
use Rattle.std.proofs.lemmas.List.Sorted.{IsPermutation-append_right, IsPermutation-map, IsPermutation-refl, IsPermutation-trans}
use Rattle.std.proofs.lemmas.List.Sums.{fold-append}
use Rattle.count.specs.Law.Contest.{History}
use Rattle.count.specs.Law.Count.{stage_of}
use Rattle.count.specs.declared.stages.Stage.{Stage}
use Rattle.register.specs.declared.phase.Phase.{Phase}
use Rattle.register.specs.declared.phase.Phase.TheVariants.{Nominations, Keying, Sealed, Declared}
use Rattle.register.specs.declared.refusal.Reason.{Reason}
use Rattle.register.specs.declared.refusal.Reason.TheVariants.{BadId, IdUsed, WardExists, WrongPhase}
use Rattle.register.specs.declared.command.Command.{Command}
use Rattle.register.specs.declared.command.Command.TheVariants as command
use Rattle.register.specs.declared.verdicts.Verdict.{Verdict}
use Rattle.register.specs.declared.verdicts.Verdict.TheVariants.{Accept, Reject}
use Rattle.register.specs.declared.wards.WardCommand.TheVariants as ward_command
use Rattle.register.specs.declared.candidates.CandidateCommand.TheVariants as candidate_command
use Rattle.register.specs.declared.batches.BatchCommand.TheVariants as batch_command
use Rattle.register.specs.declared.counts.CountCommand.TheVariants as count_command
use Rattle.register.specs.Reasons.{first_reason}
use Rattle.register.specs.Ranges.{is_id}
use Rattle.register.specs.Offices.{BatchEntry, CandidateEntry, LotEntry, OfficeState, ReceiptEntry, WardEntry, batch_at, candidates_of, changed, empty_office, entry_at, lot_cmp, lots_of, put}
use Rattle.register.specs.Offices.{receipt_at, ward_at, ward_compared}
use Rattle.register.specs.Marks.{columns_of}
use Rattle.register.specs.Polls.{Pile, ballots_in, piles_of}
use Rattle.register.specs.Elections.{ElectionEntry, contest_of, election_of, is_counted, is_declared, lot_pair, stages_of}
use Rattle.register.specs.StateConditions.{IsState}
use Rattle.register.specs.Effects.{EffectEntry, at_stage, in_phase, lot_drawn, paper_judged, papers_keyed, stage_counted, third_set, ward_moved, with_effect, with_receipt}
use Rattle.register.specs.Batches.{next_round, ward_for}
use Rattle.register.specs.Keyings.{papers_from, texts_of}
use Rattle.register.specs.Verdicts.{judged_as}
use Rattle.register.specs.Counts.{next_stage}
use Rattle.register.specs.Machine.{after, after_one, answered, decided, judged, keeps, objections, outcome_at, part_of, refuses, state_after, step, subject_of}
use Rattle.register.specs.Views.{HasSameStages, HasStageMore, IsAdvanced}
use Rattle.register.proofs.ListLaws.{after_stays, empty_is_a_state}
use Rattle.register.proofs.MachineLemmas.{advances, step_stays}
use Rattle.register.proofs.MapLemmas.{changed_at, filter_put, filter_put_in, found_put_still, put_same}
use Rattle.laws.specs.Sealed.{PhaseStays, SealedPapersStay, SealedWardsStay, StaysSealed}
use Rattle.laws.proofs.ConditionLemmas.{IsBatchIn, IsThere, absent, batch_in, no_objection, there}
use Rattle.laws.proofs.AwayLemmas.{IsOfBatch, candidates_added, candidates_withdrawn, papers_of_batch, piles_added, piles_kept, piles_reopened}

lot_total : IsTotalOrder lot_cmp
lot_total = then_total (on_total (λ (l : LotEntry). l.ward) nat_cmp_total) (on_total (λ (l : LotEntry). l.stage) nat_cmp_total)

judged_batch : (batch paper : ℕ) (verdict : Verdict) → (judged_as batch paper verdict).batch ≡ batch
judged_batch batch paper (Accept marks) = refl
judged_batch batch paper (Reject code) = refl

-- ---- the same ward in two states

-- the ballots of a ward are determined by its candidates and by the piles of its batches
ballots_same : (s t : OfficeState) (w v : WardEntry) → v.number ≡ w.number → candidates_of t w.number ≡ candidates_of s w.number → piles_of t w.number ≡ piles_of s w.number
    → (election_of t v).ballots ≡ (election_of s w).ballots
ballots_same s t w v number candidates piles =
    ap (λ (n : ℕ). ballots_in (columns_of (candidates_of t n)) (piles_of t n)) number
    ∙ ap (λ (cs : List CandidateEntry). ballots_in (columns_of cs) (piles_of t w.number)) candidates
    ∙ ap (ballots_in (columns_of (candidates_of s w.number))) piles

election_with : WardEntry → List CandidateEntry → List Pile → List LotEntry → ElectionEntry
election_with w candidates piles lots = record { ward = w; candidates = candidates; ballots = ballots_in (columns_of candidates) piles; lots = map lot_pair lots }

election_same : (s t : OfficeState) (w : WardEntry) → candidates_of t w.number ≡ candidates_of s w.number → piles_of t w.number ≡ piles_of s w.number → lots_of t w.number ≡ lots_of s w.number
    → election_of t w ≡ election_of s w
unfolding election_with
election_same s t w candidates piles lots =
    ap (λ (cs : List CandidateEntry). election_with w cs (piles_of t w.number) (lots_of t w.number)) candidates
    ∙ ap (λ (ps : List Pile). election_with w (candidates_of s w.number) ps (lots_of t w.number)) piles
    ∙ ap (election_with w (candidates_of s w.number) (piles_of s w.number)) lots

-- a ward stays sealed if its election doesn't change
same_stays : (s t : OfficeState) (w : WardEntry) → is_counted w.phase ≡ true → ward_at t w.number ≡ Some w → candidates_of t w.number ≡ candidates_of s w.number
    → piles_of t w.number ≡ piles_of s w.number → lots_of t w.number ≡ lots_of s w.number → StaysSealed s t w
same_stays s t w sealed found candidates piles lots =
    let same = election_same s t w candidates piles lots in
    record {
      ward = w;
      there = found;
      number = refl;
      seats = refl;
      name = refl;
      sealed = sealed;
      candidates = candidates;
      papers = piles;
      ballots = ballots_same s t w w refl candidates piles;
      stages = ([], ap stages_of same);
      lots = ([], subst (λ (e : ElectionEntry). IsPermutation (election_of s w).lots e.lots) (sym same) (IsPermutation-refl (election_of s w).lots));
      declared = λ was. same;
    }

-- if a ward stays sealed from a first state to a second, and from the second to a third, it stays sealed from
-- the first to the third
then_stays : (s t u : OfficeState) (w : WardEntry) (first : StaysSealed s t w) → StaysSealed t u first.ward → StaysSealed s u w
then_stays s t u w first next = record {
  ward = next.ward;
  there = ap (ward_at u) (sym first.number) ∙ next.there;
  number = next.number ∙ first.number;
  seats = next.seats ∙ first.seats;
  name = next.name ∙ first.name;
  sealed = next.sealed;
  candidates = subst (λ (n : ℕ). candidates_of u n ≡ candidates_of t n) first.number next.candidates ∙ first.candidates;
  papers = subst (λ (n : ℕ). piles_of u n ≡ piles_of t n) first.number next.papers ∙ first.papers;
  ballots = next.ballots ∙ first.ballots;
  stages = (
    next.stages.0 ++ first.stages.0,
    next.stages.1 ∙ ap (λ (stages : History). next.stages.0 ++ stages) first.stages.1 ∙ sym (append_assoc next.stages.0 first.stages.0 (stages_of (election_of s w))),
  );
  lots = (
    next.lots.0 ++ first.lots.0,
    subst (λ (ls : List (ℕ × ℕ)). IsPermutation ls (election_of u next.ward).lots) (sym (append_assoc next.lots.0 first.lots.0 (election_of s w).lots))
        (IsPermutation-trans _ _ _ (IsPermutation-append_right next.lots.0 _ _ first.lots.1) next.lots.1),
  );
  declared = λ was. next.declared (ap (λ (e : ElectionEntry). is_declared e.ward.phase) (first.declared was) ∙ was) ∙ first.declared was;
}

-- ---- a single command to which there is no objection

module _ (s : OfficeState) (w : WardEntry) (is : IsState s) (found : ward_at s w.number ≡ Some w) (sealed : is_counted w.phase ≡ true) where
  itself : StaysSealed s s w
  itself = same_stays s s w sealed found refl refl refl

  -- a ward in an earlier phase is a different ward
  another : (phase : Phase) (k : ℕ) → is_counted phase ≡ false → IsThere phase (ward_at s k) → (k == w.number) ≡ false
  another phase k before its = ne_eqb k w.number (λ same.
      let one : Some its.ward ≡ Some w = sym its.is ∙ ap (ward_at s) same ∙ found in
      let v : its.ward ≡ w = cc in
      both_ways (is_counted w.phase) (ap (λ (x : WardEntry). is_counted x.phase) (sym v) ∙ ap is_counted its.phased ∙ before) sealed)

  -- the ward that is found after the ward with the given number is changed
  changed_there : (k : ℕ) (change : WardEntry → WardEntry) → ((x : WardEntry) → (change x).number ≡ x.number)
      → entry_at (ward_compared w.number) (changed (ward_compared k) change s.wards) ≡ Some (cond (k == w.number) (change w) w)
  changed_there k change kept =
      changed_at (ward_compared k) (ward_compared w.number) change (λ x. ap (nat_cmp w.number) (kept x)) s.wards
      ∙ ap (option_map (λ (x : WardEntry). cond (is_eq (ward_compared k x)) (change x) x)) found
      ∙ ap (λ (b : Bool). Some (cond b (change w) w)) (unsigned_tied k w.number)

  changed_away : (k : ℕ) (change : WardEntry → WardEntry) → ((x : WardEntry) → (change x).number ≡ x.number) → (k == w.number) ≡ false
      → entry_at (ward_compared w.number) (changed (ward_compared k) change s.wards) ≡ Some w
  changed_away k change kept other = changed_there k change kept ∙ ap (λ (b : Bool). Some (cond b (change w) w)) other

  -- a batch whose ward is in keying doesn't belong to the sealed ward
  batch_away : (n : ℕ) (in_keying : IsBatchIn s Keying n) → (in_keying.batch.ward == w.number) ≡ false
  batch_away n in_keying = another Keying in_keying.batch.ward refl in_keying.its

  batch_stays : (n : ℕ) (r : ReceiptEntry) (effect : EffectEntry) → IsThere Keying (ward_for s (batch_at s n)) → IsOfBatch n effect → StaysSealed s (with_receipt r (with_effect effect s)) w
  batch_stays n r (third_set t) its of =
      let b = batch_in s Keying n its in
      same_stays s (with_receipt r (with_effect (third_set t) s)) w sealed found refl (piles_kept s n b.batch w.number is b.found (batch_away n b) (third_set t) of) refl
  batch_stays n r (papers_keyed papers) its of =
      let b = batch_in s Keying n its in
      same_stays s (with_receipt r (with_effect (papers_keyed papers) s)) w sealed found refl (piles_kept s n b.batch w.number is b.found (batch_away n b) (papers_keyed papers) of) refl
  batch_stays n r (paper_judged v) its of =
      let b = batch_in s Keying n its in
      same_stays s (with_receipt r (with_effect (paper_judged v) s)) w sealed found refl (piles_kept s n b.batch w.number is b.found (batch_away n b) (paper_judged v) of) refl
  batch_stays n r effect its of = absurd of

  -- ---- the sealed ward's count

  -- the ward with this number, found in the given phase, is the sealed ward
  own_phase : (phase : Phase) (k : ℕ) → k ≡ w.number → IsThere phase (ward_at s k) → w.phase ≡ phase
  own_phase phase k same its =
      let one : Some its.ward ≡ Some w = sym its.is ∙ ap (ward_at s) same ∙ found in
      let v : its.ward ≡ w = cc in
      ap (λ (x : WardEntry). x.phase) (sym v) ∙ its.phased

  not_declared : w.phase ≡ Sealed → {X : Type 0} → is_declared w.phase ≡ true → X
  not_declared phased was = absurd (both_ways (is_declared w.phase) (ap is_declared phased) was)

  -- the new stage follows the stages already done
  stage_more : (next : OfficeState) (v : WardEntry) (k : ℕ) → k ≡ w.number → ward_at next w.number ≡ Some v → HasStageMore s next k
      → (more : History) × (stages_of (election_of next v) ≡ more ++ stages_of (election_of s w))
  stage_more next v k same now more =
      let one : Some more.before ≡ Some w = sym more.found ∙ ap (ward_at s) same ∙ found in
      let before : more.before ≡ w = cc in
      let two : Some more.after ≡ Some v = sym more.stays ∙ ap (ward_at next) same ∙ now in
      let after_it : more.after ≡ v = cc in
      let stage : Stage = stage_of (contest_of (election_of s more.before)) (stages_of (election_of s more.before)) more.action in (
        stage ∷ [],
        ap (λ (x : WardEntry). stages_of (election_of next x)) (sym after_it) ∙ more.added ∙ ap (λ (x : WardEntry). stage ∷ stages_of (election_of s x)) before,
      )

  stages_same : (next : OfficeState) (v : WardEntry) (k : ℕ) → k ≡ w.number → ward_at next w.number ≡ Some v → HasSameStages s next k
      → (more : History) × (stages_of (election_of next v) ≡ more ++ stages_of (election_of s w))
  stages_same next v k same now still =
      let one : Some still.before ≡ Some w = sym still.found ∙ ap (ward_at s) same ∙ found in
      let before : still.before ≡ w = cc in
      let two : Some still.after ≡ Some v = sym still.stays ∙ ap (ward_at next) same ∙ now in
      let after_it : still.after ≡ v = cc in
      ([], ap (λ (x : WardEntry). stages_of (election_of next x)) (sym after_it) ∙ still.same ∙ ap (λ (x : WardEntry). stages_of (election_of s x)) before)

  advance_stays : (k done : ℕ) (r : ReceiptEntry) → IsThere Sealed (ward_at s k) → HasStageMore s (with_receipt r (with_effect (stage_counted k done) s)) k
      → StaysSealed s (with_receipt r (with_effect (stage_counted k done) s)) w
  advance_stays k done r its more = go (k == w.number) refl
    where
      go : (b : Bool) → (k == w.number) ≡ b → StaysSealed s (with_receipt r (with_effect (stage_counted k done) s)) w
      go false other = same_stays s (with_receipt r (with_effect (stage_counted k done) s)) w sealed (changed_away k (at_stage done) (λ x. refl) other) refl refl refl
      go true same =
          let now = changed_there k (at_stage done) (λ x. refl) ∙ ap (λ (b : Bool). Some (cond b (at_stage done w) w)) same in
          let it = eqb-true k w.number same in
          record {
            ward = at_stage done w;
            there = now;
            number = refl;
            seats = refl;
            name = refl;
            sealed = sealed;
            candidates = refl;
            papers = refl;
            ballots = refl;
            stages = stage_more (with_receipt r (with_effect (stage_counted k done) s)) (at_stage done w) k it now more;
            lots = ([], IsPermutation-refl (election_of s w).lots);
            declared = λ was. not_declared (own_phase Sealed k it its) was;
          }

  declare_stays : (k : ℕ) (r : ReceiptEntry) → IsThere Sealed (ward_at s k) → HasSameStages s (with_receipt r (with_effect (ward_moved k Declared) s)) k
      → StaysSealed s (with_receipt r (with_effect (ward_moved k Declared) s)) w
  declare_stays k r its still = go (k == w.number) refl
    where
      go : (b : Bool) → (k == w.number) ≡ b → StaysSealed s (with_receipt r (with_effect (ward_moved k Declared) s)) w
      go false other = same_stays s (with_receipt r (with_effect (ward_moved k Declared) s)) w sealed (changed_away k (in_phase Declared) (λ x. refl) other) refl refl refl
      go true same =
          let now = changed_there k (in_phase Declared) (λ x. refl) ∙ ap (λ (b : Bool). Some (cond b (in_phase Declared w) w)) same in
          let it = eqb-true k w.number same in
          record {
            ward = in_phase Declared w;
            there = now;
            number = refl;
            seats = refl;
            name = refl;
            sealed = refl;
            candidates = refl;
            papers = refl;
            ballots = refl;
            stages = stages_same (with_receipt r (with_effect (ward_moved k Declared) s)) (in_phase Declared w) k it now still;
            lots = ([], IsPermutation-refl (election_of s w).lots);
            declared = λ was. not_declared (own_phase Sealed k it its) was;
          }

  lot_stays : (l : LotEntry) (r : ReceiptEntry) → IsThere Sealed (ward_at s l.ward) → HasSameStages s (with_receipt r (with_effect (lot_drawn l) s)) l.ward
      → StaysSealed s (with_receipt r (with_effect (lot_drawn l) s)) w
  lot_stays l r its still = go (l.ward == w.number) refl
    where
      go : (b : Bool) → (l.ward == w.number) ≡ b → StaysSealed s (with_receipt r (with_effect (lot_drawn l) s)) w
      go false other = same_stays s (with_receipt r (with_effect (lot_drawn l) s)) w sealed found refl refl (filter_put lot_cmp (λ (x : LotEntry). x.ward == w.number) l s.lots other)
      go true same =
          let in_place = filter_put_in lot_total (λ (x : LotEntry). x.ward == w.number) l s.lots same is.rise.lots in
          let it = eqb-true l.ward w.number same in
          record {
            ward = w;
            there = found;
            number = refl;
            seats = refl;
            name = refl;
            sealed = sealed;
            candidates = refl;
            papers = refl;
            ballots = refl;
            stages = stages_same (with_receipt r (with_effect (lot_drawn l) s)) w l.ward it found still;
            lots = (
              lot_pair l ∷ [],
              subst (λ (ls : List LotEntry). IsPermutation (lot_pair l ∷ map lot_pair (lots_of s w.number)) (map lot_pair ls)) (sym in_place)
                  (IsPermutation-map lot_pair (l ∷ lots_of s w.number) (put lot_cmp l (lots_of s w.number)) (put_same lot_cmp l (lots_of s w.number))),
            );
            declared = λ was. not_declared (own_phase Sealed l.ward it its) was;
          }

  -- ---- each command

  module _ (actor : ℕ) (id : List ℕ) where
    accepted_stays : (c : Command) → first_reason (objections actor c (part_of s actor c)) ≡ None → IsAdvanced s c (outcome_at s (judged actor id c (part_of s actor c) None))
        → StaysSealed s (state_after s (outcome_at s (judged actor id c (part_of s actor c) None))) w
    accepted_stays (command.Ward (ward_command.Add ward seats name)) none advanced =
        let c = command.Ward (ward_command.Add ward seats name) in
        let met = no_objection (objections actor c (part_of s actor c)) none in
        let new : WardEntry = record { number = ward; seats = seats; phase = Nominations; done = 0; name = string_bytes name } in
        same_stays s _ w sealed (found_put_still (λ (x : WardEntry). x.number) s.wards new w.number w (absent (ward_at s ward) WardExists (met 2)) found) refl refl refl
    accepted_stays (command.Ward (ward_command.Close ward)) none advanced =
        let c = command.Ward (ward_command.Close ward) in
        let met = no_objection (objections actor c (part_of s actor c)) none in
        let other = another Nominations ward refl (there Nominations (ward_at s ward) WrongPhase (met 2)) in
        same_stays s _ w sealed (changed_away ward _ (λ x. refl) other) refl refl refl
    accepted_stays (command.Candidate (candidate_command.Add ward candidate name)) none advanced =
        let c = command.Candidate (candidate_command.Add ward candidate name) in
        let met = no_objection (objections actor c (part_of s actor c)) none in
        let other = another Nominations ward refl (there Nominations (ward_at s ward) WrongPhase (met 3)) in
        same_stays s _ w sealed found (candidates_added s (record { ward = ward; number = candidate; name = string_bytes name }) w.number other) refl refl
    accepted_stays (command.Candidate (candidate_command.Withdraw ward candidate)) none advanced =
        let c = command.Candidate (candidate_command.Withdraw ward candidate) in
        let met = no_objection (objections actor c (part_of s actor c)) none in
        let other = another Nominations ward refl (there Nominations (ward_at s ward) WrongPhase (met 2)) in
        same_stays s _ w sealed found (candidates_withdrawn s ward candidate w.number other) refl refl
    accepted_stays (command.Batch (batch_command.Add batch ward size first_clerk second_clerk)) none advanced =
        let c = command.Batch (batch_command.Add batch ward size first_clerk second_clerk) in
        let met = no_objection (objections actor c (part_of s actor c)) none in
        let other = another Keying ward refl (there Keying (ward_at s ward) WrongPhase (met 3)) in
        let new : BatchEntry = record { number = batch; ward = ward; size = size; first_clerk = first_clerk; second_clerk = second_clerk; round = 1 } in
        same_stays s _ w sealed found refl (piles_added s new w.number other) refl
    accepted_stays (command.Batch (batch_command.Again batch)) none advanced =
        let c = command.Batch (batch_command.Again batch) in
        let met = no_objection (objections actor c (part_of s actor c)) none in
        let b = batch_in s Keying batch (there Keying (ward_for s (batch_at s batch)) WrongPhase (met 2)) in
        same_stays s _ w sealed found refl (piles_reopened s batch b.batch w.number is b.found (batch_away batch b) (next_round (batch_at s batch))) refl
    accepted_stays (command.Batch (batch_command.Third batch clerk)) none advanced =
        let c = command.Batch (batch_command.Third batch clerk) in
        let met = no_objection (objections actor c (part_of s actor c)) none in
        batch_stays batch _ (third_set (record { batch = batch; clerk = clerk })) (there Keying (ward_for s (batch_at s batch)) WrongPhase (met 2)) refl
    accepted_stays (command.Keying c) none advanced =
        let met = no_objection (objections actor (command.Keying c) (part_of s actor (command.Keying c))) none in
        let papers = papers_from c.batch c.round actor 1 (texts_of c) in
        batch_stays c.batch _ (papers_keyed papers) (there Keying (ward_for s (batch_at s c.batch)) WrongPhase (met 2)) (papers_of_batch c.batch c.round actor 1 (texts_of c))
    accepted_stays (command.Verdict c) none advanced =
        let met = no_objection (objections actor (command.Verdict c) (part_of s actor (command.Verdict c))) none in
        batch_stays c.batch _ (paper_judged (judged_as c.batch c.paper c.verdict)) (there Keying (ward_for s (batch_at s c.batch)) WrongPhase (met 2)) (judged_batch c.batch c.paper c.verdict)
    accepted_stays (command.Count (count_command.Seal ward)) none advanced =
        let c = command.Count (count_command.Seal ward) in
        let met = no_objection (objections actor c (part_of s actor c)) none in
        let other = another Keying ward refl (there Keying (ward_at s ward) WrongPhase (met 2)) in
        same_stays s _ w sealed (changed_away ward (in_phase Sealed) (λ x. refl) other) refl refl refl
    accepted_stays (command.Count (count_command.Advance ward)) none advanced =
        let c = command.Count (count_command.Advance ward) in
        let met = no_objection (objections actor c (part_of s actor c)) none in
        advance_stays ward (next_stage (ward_at s ward)) _ (there Sealed (ward_at s ward) WrongPhase (met 2)) advanced
    accepted_stays (command.Count (count_command.Lot ward stage candidate)) none advanced =
        let c = command.Count (count_command.Lot ward stage candidate) in
        let met = no_objection (objections actor c (part_of s actor c)) none in
        lot_stays (record { ward = ward; stage = stage; candidate = candidate }) _ (there Sealed (ward_at s ward) WrongPhase (met 2)) advanced
    accepted_stays (command.Count (count_command.Declare ward)) none advanced =
        let c = command.Count (count_command.Declare ward) in
        let met = no_objection (objections actor c (part_of s actor c)) none in
        declare_stays ward _ (there Sealed (ward_at s ward) WrongPhase (met 2)) advanced

    judged_stays : (c : Command) (o : Option Reason) → first_reason (objections actor c (part_of s actor c)) ≡ o → IsAdvanced s c (outcome_at s (judged actor id c (part_of s actor c) o))
        → StaysSealed s (state_after s (outcome_at s (judged actor id c (part_of s actor c) o))) w
    judged_stays c (Some why) told advanced = itself
    judged_stays c None told advanced = accepted_stays c told advanced

    -- every request leaves the ward sealed
    step_keeps : (c : Command) → IsAdvanced s c (step s actor id c) → StaysSealed s (state_after s (step s actor id c)) w
    unfolding step decided
    step_keeps c = go (is_id id) (receipt_at s actor id)
      where
        go : (b : Bool) (o : Option ReceiptEntry) → IsAdvanced s c (outcome_at s (cond b (answered actor id c o (part_of s actor c)) (refuses BadId)))
            → StaysSealed s (state_after s (outcome_at s (cond b (answered actor id c o (part_of s actor c)) (refuses BadId)))) w
        go false o advanced = itself
        go true (Some r) advanced =
            elim (bytes_eq r.subject (subject_of c)) as (λ b. StaysSealed s (state_after s (outcome_at s (cond b (keeps r.reply) (refuses IdUsed)))) w) [ true ↦ itself | false ↦ itself ]
        go true None advanced = judged_stays c (first_reason (objections actor c (part_of s actor c))) refl advanced

-- ---- any list of requests

pub wards_stay : SealedWardsStay
wards_stay s w [] in_it = same_stays s s w in_it.sealed in_it.there refl refl refl
wards_stay s w (r ∷ rs) in_it =
    let first = step_keeps s w in_it.state in_it.there in_it.sealed r.actor (string_bytes r.id) r.command (advances s r.actor (string_bytes r.id) r.command in_it.state) in
    then_stays s (after_one s r) (after (after_one s r) rs) w first
    (wards_stay (after_one s r) first.ward rs (record {
      state = step_stays s r.actor (string_bytes r.id) r.command in_it.state;
      there = ap (ward_at (after_one s r)) first.number ∙ first.there;
      sealed = first.sealed;
    }))

pub papers_stay : SealedPapersStay
papers_stay earlier further w there sealed =
    let stays = wards_stay (after empty_office earlier) w further (record { state = after_stays empty_office earlier empty_is_a_state; there = there; sealed = sealed }) in
    let both : after empty_office (earlier ++ further) ≡ after (after empty_office earlier) further = fold-append after_one empty_office earlier further in
    subst (λ (t : OfficeState). (ward : WardEntry) × (ward_at t w.number ≡ Some ward) × ((election_of t ward).ballots ≡ (election_of (after empty_office earlier) w).ballots)) (sym both)
    (stays.ward, stays.there, stays.ballots)

pub phase_stays : (phase : Phase) → is_counted phase ≡ true → PhaseStays phase
phase_stays phase counted s w requests is there at = wards_stay s w requests (record { state = is; there = there; sealed = ap is_counted at ∙ counted })
