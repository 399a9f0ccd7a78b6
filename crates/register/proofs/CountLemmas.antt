-- If there is no objection to a count command, applying it to a state yields a state, and its receipt is in range.
use Rattle.std.proofs.Common.{◌≡◌, ℕ, zero, suc, ◌+◌, ◌≤◌, Bool, true, false, cond, not, ◌&&◌, ◌==◌, ◌++◌, nat_le, nat_lt, nat_eq, codes, List, length, filter, Option, Some, None, is_some}
use Rattle.std.proofs.Common.{refl, sym, ap, subst, ◌∙◌, arith}
use Rattle.std.specs.Fmt.{decimal}
use Rattle.std.specs.List.{list_any}
use Rattle.std.specs.Option.{option_map}
use Rattle.std.specs.Ordering.{nat_cmp, is_eq}
use Rattle.std.proofs.lemmas.Bool.{and_parts, and_from, eqb-true, eq-eqb, ne_eqb, leb-true, ltb-true}
use Rattle.paper.specs.Columns.{max_candidates}
use Rattle.paper.proofs.ColumnSets.{length_columns}
use Rattle.count.specs.Law.Contest.{IsContest}
use Rattle.count.specs.Law.Elected.{is_elected, elected_after}
use Rattle.count.specs.declared.stages.Action.{Action}
use Rattle.count.specs.declared.stages.TiedFor.{TiedFor}
use Rattle.count.specs.declared.stages.Due.{Due}
use Rattle.count.specs.declared.stages.Due.TheVariants.{Act, Lot as lot_due, Finished}
use Rattle.count.specs.Law.Count.{stages_to}
use Rattle.count.specs.Law.Due.{next_action}
use Rattle.count.proofs.Law.CountLemmas.{stages_right}
use Rattle.count.proofs.Law.LengthLemmas.{stages-few}
use Rattle.register.specs.declared.phase.Phase.{Phase}
use Rattle.register.specs.declared.phase.Phase.TheVariants.{Keying, Sealed, Declared}
use Rattle.register.specs.declared.refusal.Reason.TheVariants.{NumberOutOfRange, WrongPhase, NotReady, CountFinished, NoSuchLot, NotAmong, CountNotFinished}
use Rattle.register.specs.declared.counts.CountCommand.{CountCommand}
use Rattle.register.specs.declared.counts.CountCommand.TheVariants.{Seal, Advance, Lot, Declare}
use Rattle.register.specs.Reasons.{first_reason}
use Rattle.register.specs.Ranges.{last_ward, first_lot_stage, last_lot_stage, is_office, is_ward_number, is_lot_stage, is_candidate_number}
use Rattle.register.specs.Subjects.{is_office_subject}
use Rattle.register.specs.Texts.{listed}
use Rattle.register.specs.Offices.{WardEntry, LotEntry, ReceiptEntry, OfficeState, entry_at, changed, lot_cmp, ward_compared, ward_at, candidates_of, lots_of}
use Rattle.register.specs.Nominations.{are_enough}
use Rattle.register.specs.Marks.{columns_of}
use Rattle.register.specs.Polls.{piles_of}
use Rattle.register.specs.Elections.{ElectionEntry, election_of, has_count, contest_of, stages_of, due_of, is_finished, has_finished, is_among}
use Rattle.register.specs.StateConditions.{is_lot, IsState}
use Rattle.register.specs.Effects.{in_phase, at_stage, stage_counted, lot_drawn, with_effect, with_receipt}
use Rattle.register.specs.Views.{HasStageMore, HasSameStages}
use Rattle.register.specs.Tabulated.{bundles_in, figures_in, tabulation_of}
use Rattle.register.specs.Counts.{poll_for, due_for, elected_for, part_of, is_in_range, is_ready, lot_objection, waits_at, objections, subject_of, next_stage, poll_told, action_told}
use Rattle.register.specs.Counts.{reply_to, effect_of}
use Rattle.register.proofs.LineLemmas.{upper, is_plain-decimal, are_plain-from, IsLine, given, line_append, line_decimal, line_number, line_within, line_reply, line_text}
use Rattle.register.proofs.ObjectionLemmas.{no_objection, asked, unasked, there}
use Rattle.register.proofs.MapLemmas.{put_all, put_is_map, filter_put_in, found_filter, found_key, found_passes, found_number, changed_at, same_number, both_equal, kept_all, all_but_number}
use Rattle.register.proofs.ElectionLemmas.{is_sound, sound_of, lots_placed_of, right_in}
use Rattle.register.proofs.StageLemmas.{acted, stage_added, stage_more}
use Rattle.register.proofs.ProgressLemmas.{with_lots, held, in_count, sound_sealed, sound_advanced, sound_declared, lot_new, stages_still, sound_drawn}
use Rattle.register.proofs.ElsewhereLemmas.{election_elsewhere}
use Rattle.register.proofs.ItemLemmas.{MapName, lot_map, Holds, maps_of, state_from, rounds_still, lot_total, are_placed, are_all, has_enough, IsFit, office_about}
use Rattle.register.proofs.NominationLemmas.{moved, staged, changed_stays}
use Rattle.register.proofs.TabulationLemmas.{IsOfCount, bundles_of_count, figures_of_count, told_by, told_but_one, same_tabulation, tabulation_moved, wards_split}
use Rattle.register.proofs.ContestLemmas.{fair_contest, columns_are_set, papers_are_rankings}
use Rattle.register.proofs.ToldLineLemmas.{columns_are_small, length_kept, listed_line, action_line, judgements_are_few, poll_line}

-- ---- the subjects of receipts

seal_about : (n : ℕ) → is_ward_number n ≡ true → is_office_subject (codes "seal " ++ decimal n) ≡ true
unfolding is_office_subject
seal_about n h = rw (is_plain-decimal last_ward n (omega arith) h) refl

advance_about : (n : ℕ) → is_ward_number n ≡ true → is_office_subject (codes "advance " ++ decimal n) ≡ true
unfolding is_office_subject
advance_about n h = rw (is_plain-decimal last_ward n (omega arith) h) refl

declare_about : (n : ℕ) → is_ward_number n ≡ true → is_office_subject (codes "declare " ++ decimal n) ≡ true
unfolding is_office_subject
declare_about n h = rw (is_plain-decimal last_ward n (omega arith) h) refl

lot_about : (m n : ℕ) → is_ward_number m ≡ true → is_lot_stage n ≡ true → is_office_subject (codes "lot " ++ (decimal m ++ (codes " " ++ decimal n))) ≡ true
unfolding is_office_subject
lot_about m n h k = rw (are_plain-from last_ward first_lot_stage last_lot_stage m n (omega arith) (omega arith) (omega arith) h k) refl

-- ---- the ward of a count

-- the stage of the given action is due in a count: the election is contested, the completed stages exist, and the
-- ward moves to the next stage
pub record IsStageDue (s : OfficeState) (n : ℕ) (w : WardEntry) (action : Action) : Type 0 where
  pub contested : has_count (election_of s w) ≡ true
  pub stages : length (stages_of (election_of s w)) ≡ w.done
  pub next : next_action (contest_of (election_of s w)) (election_of s w).lots (stages_of (election_of s w)) ≡ Some action
  pub stage : next_stage (ward_at s n) ≡ w.done + 1

module _ (s : OfficeState) (n : ℕ) (w : WardEntry) (is : IsState s) (found : ward_at s n ≡ Some w) where
  number : n ≡ w.number
  number = found_number (λ (x : WardEntry). x.number) s.wards n w found

  own_sound : is_sound (election_of s w) ≡ true
  own_sound = found_passes (ward_compared n) (λ x. is_sound (election_of s x)) w s.wards (sound_of is) found

  own_enough : (phase : Phase) → w.phase ≡ phase → are_enough phase w (candidates_of s w.number) ≡ true
  own_enough phase phased =
      ap (λ (p : Phase). are_enough p w (candidates_of s w.number)) (sym phased)
      ∙ found_passes (ward_compared n) (λ x. has_enough x (candidates_of s x.number)) w s.wards (and_parts (are_placed s) (are_all has_enough s) is.nominated).1 found

  -- the contest of a contested ward is one to which the rules apply
  own_fair : has_count (election_of s w) ≡ true → IsContest (contest_of (election_of s w))
  own_fair contested = fair_contest s w is.in_range is.given_out is.keyed is.rise (ap (ward_at s) (sym number) ∙ found) contested

  -- ---- sealing

  stood_in : (seats candidates : ℕ) → nat_lt seats candidates ≡ true → not (candidates == 0) ≡ true
  stood_in seats zero more = absurd (let few = ltb-true seats 0 more in omega (arith, few))
  stood_in seats (suc k) more = ap not (ne_eqb (suc k) 0 (λ same. omega (arith, same)))

  sealed_stays : w.phase ≡ Keying → (election_of s w).ballots.settled ≡ true → IsState (with_effect (effect_of (Seal n) (part_of s 0 (Seal n))) s)
  sealed_stays phased settled =
      changed_stays s n w (in_phase Sealed) found (moved Sealed refl) (stood_in w.seats (length (candidates_of s w.number)) (own_enough Keying phased))
      (sound_sealed (election_of s w) phased settled own_sound) is

  sealed_told : IsLine 80 (poll_told (poll_for s (ward_at s n)))
  sealed_told =
      subst (λ (o : Option WardEntry). IsLine 80 (poll_told (poll_for s o))) (sym found)
      (poll_line (columns_of (candidates_of s w.number)) (piles_of s w.number) w.seats (judgements_are_few is (columns_of (candidates_of s w.number)) w.number))

  -- ---- advancing

  -- the number of the stage due doesn't exceed the limit for a count
  few_done : (action : Action) → w.phase ≡ Sealed → due_of (election_of s w) ≡ Act action → w.done ≤ 30
  few_done action phased due =
      let e = election_of s w in
      let h = held e (Act action) due refl in
      let right = right_in e (in_count e phased h.contested) own_sound in
      let fair = own_fair h.contested in
      let more = stage_more (contest_of e) e.lots w.done action (acted (contest_of e) e.lots (stages_of e) action h.is) in
      let rankings = papers_are_rankings (columns_of (candidates_of s w.number)) (piles_of s w.number) fair.candidate_set in
      let few = stages-few (contest_of e) _ (stages_to (contest_of e) e.lots (w.done + 1)) fair rankings (stages_right (contest_of e) e.lots (w.done + 1)) in
      let columns = length_columns (contest_of e).candidates fair.candidate_set in
      let same = right.stages in
      omega (arith, few, more, same, columns)

  next_is : w.done ≤ 30 → next_stage (Some w) ≡ w.done + 1
  next_is few = go (nat_le last_lot_stage w.done) refl
    where
      go : (b : Bool) → nat_le last_lot_stage w.done ≡ b → cond b w.done (w.done + 1) ≡ w.done + 1
      go true past = absurd (let late = leb-true last_lot_stage w.done past in omega (arith, few, late))
      go false past = refl

  advanced_stays : (action : Action) → w.phase ≡ Sealed → due_of (election_of s w) ≡ Act action → IsState (with_effect (stage_counted n (next_stage (ward_at s n))) s)
  advanced_stays action phased due =
      let enough : has_enough (at_stage (w.done + 1) w) (candidates_of s w.number) ≡ true =
      ap (λ (p : Phase). are_enough p (at_stage (w.done + 1) w) (candidates_of s w.number)) phased ∙ own_enough Sealed phased
      in
      subst (λ (k : ℕ). IsState (with_effect (stage_counted n k) s)) (sym (ap next_stage found ∙ next_is (few_done action phased due)))
      (changed_stays s n w (at_stage (w.done + 1)) found (staged (w.done + 1)) enough (sound_advanced (election_of s w) action phased due own_sound) is)

  stage_due : (action : Action) → w.phase ≡ Sealed → due_of (election_of s w) ≡ Act action → IsStageDue s n w action
  stage_due action phased due =
      let e = election_of s w in
      let h = held e (Act action) due refl in
      let right = right_in e (in_count e phased h.contested) own_sound in
      record { contested = h.contested; stages = right.stages; next = acted (contest_of e) e.lots (stages_of e) action h.is; stage = ap next_stage found ∙ next_is (few_done action phased due) }

  -- the ward is still found after a change
  changed_there : (change : WardEntry → WardEntry) → ((x : WardEntry) → (change x).number ≡ x.number) → entry_at (ward_compared n) (changed (ward_compared n) change s.wards) ≡ Some (change w)
  changed_there change kept =
      changed_at (ward_compared n) (ward_compared n) change (λ x. ap (nat_cmp n) (kept x)) s.wards
      ∙ ap (option_map (λ (x : WardEntry). cond (is_eq (ward_compared n x)) (change x) x)) found
      ∙ ap (λ (b : Bool). Some (cond b (change w) w)) (found_key (ward_compared n) w s.wards found)

  -- the ward and its count after the stage that was due
  advanced_more : (action : Action) (r : ReceiptEntry) → w.phase ≡ Sealed → due_of (election_of s w) ≡ Act action
      → HasStageMore s (with_receipt r (with_effect (stage_counted n (next_stage (ward_at s n))) s)) n
  advanced_more action r phased due =
      let e = election_of s w in
      let d = stage_due action phased due in
      record {
        before = w;
        found = found;
        after = at_stage (w.done + 1) w;
        stays = ap (λ (k : ℕ). entry_at (ward_compared n) (changed (ward_compared n) (at_stage k) s.wards)) d.stage ∙ changed_there (at_stage (w.done + 1)) (λ x. refl);
        action = action;
        due = due;
        added = stage_added (contest_of e) e.lots w.done action d.next;
      }

  -- declaring the ward leaves its count unchanged
  declared_same : (r : ReceiptEntry) → HasSameStages s (with_receipt r (with_effect (effect_of (Declare n) (part_of s 0 (Declare n))) s)) n
  declared_same r = record { before = w; found = found; after = in_phase Declared w; stays = changed_there (in_phase Declared) (λ x. refl); done = refl; same = refl }

  stage_told : (action : Action) → w.phase ≡ Sealed → due_of (election_of s w) ≡ Act action → IsLine 10 (decimal (next_stage (ward_at s n)))
  stage_told action phased due =
      let few = few_done action phased due in
      subst (λ (o : Option WardEntry). IsLine 10 (decimal (next_stage o))) (sym found)
      (subst (λ (k : ℕ). IsLine 10 (decimal k)) (sym (next_is few)) (line_decimal 10 (w.done + 1) (omega arith) (omega (arith, few)) (omega (arith, few))))

  own_action_told : (action : Action) → due_of (election_of s w) ≡ Act action → IsLine 40 (action_told (due_for s (ward_at s n)))
  own_action_told action due =
      let e = election_of s w in
      let h = held e (Act action) due refl in
      let fair = own_fair h.contested in
      subst (λ (o : Option WardEntry). IsLine 40 (action_told (due_for s o))) (sym found)
      (subst (λ (d : Due). IsLine 40 (action_told (Some d))) (sym due) (action_line (contest_of e) (stages_of e) _ action fair.candidate_set (acted (contest_of e) e.lots (stages_of e) action h.is)))

  -- ---- declaring

  declared_stays : w.phase ≡ Sealed → is_finished (due_of (election_of s w)) ≡ true → IsState (with_effect (effect_of (Declare n) (part_of s 0 (Declare n))) s)
  declared_stays phased finished = changed_stays s n w (in_phase Declared) found (moved Declared refl) (own_enough Sealed phased) (sound_declared (election_of s w) phased finished own_sound) is

  elected_told : IsLine 120 (listed (elected_for s (ward_at s n)))
  elected_told = subst (λ (o : Option WardEntry). IsLine 120 (listed (elected_for s o))) (sym found) (go (has_count (election_of s w)))
    where
      columns : List ℕ
      columns = columns_of (candidates_of s w.number)

      few : length columns ≤ max_candidates
      few = length_columns columns (columns_are_set (candidates_of s w.number))

      go : (b : Bool) → IsLine 120 (listed (cond b (elected_after (contest_of (election_of s w)) (stages_of (election_of s w))) columns))
      go true =
          let test = is_elected (contest_of (election_of s w)) (stages_of (election_of s w)) in
          let kept = length_kept test columns in
          line_within (listed_line (filter test columns) (kept_all (λ n. nat_le n max_candidates) test columns (columns_are_small (candidates_of s w.number)))) (omega (arith, kept, few))
      go false = line_within (listed_line columns (columns_are_small (candidates_of s w.number))) (omega (arith, few))

-- ---- what is due

-- what is due is an action
pub record IsAct (due : Due) : Type 0 where
  pub action : Action
  pub is : due ≡ Act action

acts : (due : Due) → is_finished due ≡ false → lot_objection (Some due) ≡ None → IsAct due
acts (Act action) open_ none = record { action = action; is = refl }
acts (lot_due stage kind tied) open_ none = absurd (cc)
acts Finished open_ none = absurd (cc)

-- a lot is due at the given stage, and the given candidate is one of those tied
pub record IsLotAt (due : Due) (stage candidate : ℕ) : Type 0 where
  pub kind : TiedFor
  pub tied : List ℕ
  pub is : due ≡ lot_due stage kind tied
  pub among : list_any (nat_eq candidate) tied ≡ true

waits : (due : Due) (stage candidate : ℕ) → waits_at stage (Some due) ≡ true → is_among candidate (Some due) ≡ true → IsLotAt due stage candidate
waits (Act action) stage candidate at among = absurd (cc)
waits (lot_due k kind tied) stage candidate at among = record { kind = kind; tied = tied; is = ap (λ (n : ℕ). lot_due n kind tied) (eqb-true k stage at); among = among }
waits Finished stage candidate at among = absurd (cc)

-- ---- drawing a lot

drawn_stays : (s : OfficeState) (l : LotEntry) (w : WardEntry) → is_lot l ≡ true → ward_at s l.ward ≡ Some w → w.phase ≡ Sealed → IsLotAt (due_of (election_of s w)) l.stage l.candidate
    → IsState s → IsState (with_effect (lot_drawn l) s)
drawn_stays s l w good found phased due is =
    let keyed = and_parts _ _ is.keyed in
    let belongs : is_some (ward_at s l.ward) ≡ true = rw found refl in
    state_from
    (with_effect (lot_drawn l) s)
    maps
    (record {
      nominated = is.nominated;
      given_out = is.given_out;
      keyed = and_from _ _ keyed.0 (rounds_still s (with_effect (lot_drawn l) s) s.batches (λ b m round. round) keyed.1);
      judged = is.judged;
      lots_placed = put_all lot_cmp (λ x. is_some (ward_at s x.ward)) l s.lots belongs (lots_placed_of is);
      sound =
          all_but_number (λ (x : WardEntry). x.number) s.wards l.ward w (λ x. is_sound (election_of s x))
          (λ x. is_sound (election_of (with_effect (lot_drawn l) s) x)) is.rise.wards found here there_too (sound_of is);
    })
  where
    own : is_sound (election_of s w) ≡ true
    own = own_sound s l.ward w is found

    same : l.ward ≡ w.number
    same = number s l.ward w is found

    here : l.ward ≡ w.number → is_sound (election_of (with_effect (lot_drawn l) s) w) ≡ true
    here at =
        let in_place = filter_put_in lot_total (λ (x : LotEntry). x.ward == w.number) l s.lots (eq-eqb l.ward w.number at) is.rise.lots in
        ap (λ (ls : List LotEntry). is_sound (with_lots ls (election_of s w))) in_place ∙ sound_drawn (election_of s w) (lots_of s w.number) l due.kind due.tied refl phased due.is own due.among

    there_too : (x : WardEntry) → (l.ward == x.number) ≡ false → is_sound (election_of s x) ≡ true → is_sound (election_of (with_effect (lot_drawn l) s) x) ≡ true
    there_too x other sound = ap is_sound (election_elsewhere s l.ward is x other (lot_drawn l) refl) ∙ sound

    -- there is no lot yet for its ward and stage
    new : entry_at (lot_cmp l) s.lots ≡ None
    new =
        sym (found_filter (lot_cmp l) (λ (x : LotEntry). x.ward == w.number) s.lots
        (λ x tied. eq-eqb x.ward w.number (sym (same_number l.ward x.ward (both_equal (nat_cmp l.ward x.ward) (nat_cmp l.stage x.stage) tied).0) ∙ same)))
        ∙ lot_new (election_of s w) (lots_of s w.number) l due.kind due.tied refl phased due.is own

    maps : (m : MapName) → Holds m (with_effect (lot_drawn l) s)
    maps lot_map = put_is_map lot_total l s.lots good new (maps_of is lot_map)
    maps m = maps_of is m

-- the completed stages are unchanged
drawn_same : (s : OfficeState) (l : LotEntry) (w : WardEntry) (r : ReceiptEntry) → ward_at s l.ward ≡ Some w → w.phase ≡ Sealed → IsLotAt (due_of (election_of s w)) l.stage l.candidate → IsState s
    → HasSameStages s (with_receipt r (with_effect (lot_drawn l) s)) l.ward
drawn_same s l w r found phased due is =
    let at = number s l.ward w is found in
    let in_place = filter_put_in lot_total (λ (x : LotEntry). x.ward == w.number) l s.lots (eq-eqb l.ward w.number at) is.rise.lots in
    let still = stages_still (election_of s w) (lots_of s w.number) l due.kind due.tied refl phased due.is (own_sound s l.ward w is found) in
    record { before = w; found = found; after = w; stays = found; done = refl; same = ap (λ (ls : List LotEntry). stages_of (with_lots ls (election_of s w))) in_place ∙ still }

-- so the tabulation is unchanged
drawn_tabulated : (s : OfficeState) (l : LotEntry) (w : WardEntry) → ward_at s l.ward ≡ Some w → w.phase ≡ Sealed → IsLotAt (due_of (election_of s w)) l.stage l.candidate → IsState s
    → tabulation_of (with_effect (lot_drawn l) s) ≡ tabulation_of s
drawn_tabulated s l w found phased due is = same_tabulation s (with_effect (lot_drawn l) s) (alike bundles_in bundles_of_count) (alike figures_in figures_of_count)
  where
    alike : {X : Type 0} (told : ElectionEntry → List X) → IsOfCount told → told_by told (with_effect (lot_drawn l) s) ≡ told_by told s
    alike told of =
        let at = number s l.ward w is found in
        let in_place = filter_put_in lot_total (λ (x : LotEntry). x.ward == w.number) l s.lots (eq-eqb l.ward w.number at) is.rise.lots in
        let still = stages_still (election_of s w) (lots_of s w.number) l due.kind due.tied refl phased due.is (own_sound s l.ward w is found) in
        told_but_one told of s (with_effect (lot_drawn l) s) l.ward w refl (wards_split s l.ward w is found)
        (ap (λ (ls : List LotEntry). told (with_lots ls (election_of s w))) in_place ∙ of.of_lots (election_of s w) _ still)
        (λ x other. ap told (election_elsewhere s l.ward is x other (lot_drawn l) refl))

-- ---- each command

lot_stage_line : (stage : ℕ) → is_lot_stage stage ≡ true → IsLine 10 (decimal stage)
lot_stage_line stage good = let high = upper first_lot_stage last_lot_stage stage good in line_decimal 10 stage (omega arith) (omega (arith, high)) (omega (arith, high))

-- an Advance without objections: its numbers, its ward, which is in count, and the action that is due
record IsDue (s : OfficeState) (actor ward : ℕ) : Type 0 where
  office : is_office actor ≡ true
  number : is_ward_number ward ≡ true
  own : WardEntry
  found : ward_at s ward ≡ Some own
  phased : own.phase ≡ Sealed
  action : Action
  due : due_of (election_of s own) ≡ Act action

is_due : (s : OfficeState) (actor ward : ℕ) → first_reason (objections actor (Advance ward) (part_of s actor (Advance ward))) ≡ None → IsDue s actor ward
is_due s actor ward none =
    let part = part_of s actor (Advance ward) in
    let met = no_objection (objections actor (Advance ward) part) none in
    let range = and_parts (is_office actor) (is_ward_number ward) (asked (is_in_range actor (Advance ward)) NumberOutOfRange (met 0)) in
    let found = there Sealed (ward_at s ward) WrongPhase (met 2) in
    let open_ : is_finished (due_of (election_of s found.ward)) ≡ false =
    ap (λ (o : Option WardEntry). has_finished (due_for s o)) (sym found.is) ∙ unasked (has_finished part.due) CountFinished (met 3)
    in
    let no_lot : lot_objection (Some (due_of (election_of s found.ward))) ≡ None = ap (λ (o : Option WardEntry). lot_objection (due_for s o)) (sym found.is) ∙ (met 4) in
    let act = acts (due_of (election_of s found.ward)) open_ no_lot in
    record { office = range.0; number = range.1; own = found.ward; found = found.is; phased = found.phased; action = act.action; due = act.is }

-- the ward of an Advance without objections, and the action that is due in the ward's count
pub record HasStageDue (s : OfficeState) (ward : ℕ) : Type 0 where
  pub own : WardEntry
  pub found : ward_at s ward ≡ Some own
  pub action : Action
  pub due : IsStageDue s ward own action

pub advance_due : (s : OfficeState) (actor ward : ℕ) → IsState s → first_reason (objections actor (Advance ward) (part_of s actor (Advance ward))) ≡ None → HasStageDue s ward
advance_due s actor ward is none = let d = is_due s actor ward none in record { own = d.own; found = d.found; action = d.action; due = stage_due s ward d.own is d.found d.action d.phased d.due }

-- the Advance adds the stage that is due
pub advance_adds : (s : OfficeState) (actor ward : ℕ) (r : ReceiptEntry) → IsState s → first_reason (objections actor (Advance ward) (part_of s actor (Advance ward))) ≡ None
    → HasStageMore s (with_receipt r (with_effect (effect_of (Advance ward) (part_of s actor (Advance ward))) s)) ward
advance_adds s actor ward r is none = let d = is_due s actor ward none in advanced_more s ward d.own is d.found d.action r d.phased d.due

-- a Lot without objections: its numbers, its ward, which is in count, and the lot that the count is waiting for
record IsWaited (s : OfficeState) (actor ward stage candidate : ℕ) : Type 0 where
  office : is_office actor ≡ true
  good : is_ward_number ward && (is_lot_stage stage && is_candidate_number candidate) ≡ true
  own : WardEntry
  found : ward_at s ward ≡ Some own
  phased : own.phase ≡ Sealed
  due : IsLotAt (due_of (election_of s own)) stage candidate

is_waited : (s : OfficeState) (actor ward stage candidate : ℕ) → first_reason (objections actor (Lot ward stage candidate) (part_of s actor (Lot ward stage candidate))) ≡ None
    → IsWaited s actor ward stage candidate
is_waited s actor ward stage candidate none =
    let command = Lot ward stage candidate in
    let part = part_of s actor command in
    let met = no_objection (objections actor command part) none in
    let range = and_parts (is_office actor) (is_ward_number ward && (is_lot_stage stage && is_candidate_number candidate)) (asked (is_in_range actor command) NumberOutOfRange (met 0)) in
    let found = there Sealed (ward_at s ward) WrongPhase (met 2) in
    let waited : waits_at stage (Some (due_of (election_of s found.ward))) ≡ true =
    ap (λ (o : Option WardEntry). waits_at stage (due_for s o)) (sym found.is) ∙ asked (waits_at stage part.due) NoSuchLot (met 4)
    in
    let among : is_among candidate (Some (due_of (election_of s found.ward))) ≡ true =
    ap (λ (o : Option WardEntry). is_among candidate (due_for s o)) (sym found.is) ∙ asked (is_among candidate part.due) NotAmong (met 5)
    in
    record { office = range.0; good = range.1; own = found.ward; found = found.is; phased = found.phased; due = waits (due_of (election_of s found.ward)) stage candidate waited among }

-- the Lot leaves the completed stages unchanged
pub lot_keeps : (s : OfficeState) (actor ward stage candidate : ℕ) (r : ReceiptEntry) → IsState s
    → first_reason (objections actor (Lot ward stage candidate) (part_of s actor (Lot ward stage candidate))) ≡ None
    → HasSameStages s (with_receipt r (with_effect (effect_of (Lot ward stage candidate) (part_of s actor (Lot ward stage candidate))) s)) ward
lot_keeps s actor ward stage candidate r is none =
    let d = is_waited s actor ward stage candidate none in drawn_same s (record { ward = ward; stage = stage; candidate = candidate }) d.own r d.found d.phased d.due is

-- a Declare without objections: its numbers, its ward, which is in count, and the fact that nothing more is due
record IsOver (s : OfficeState) (actor ward : ℕ) : Type 0 where
  office : is_office actor ≡ true
  number : is_ward_number ward ≡ true
  own : WardEntry
  found : ward_at s ward ≡ Some own
  phased : own.phase ≡ Sealed
  finished : is_finished (due_of (election_of s own)) ≡ true

is_over : (s : OfficeState) (actor ward : ℕ) → first_reason (objections actor (Declare ward) (part_of s actor (Declare ward))) ≡ None → IsOver s actor ward
is_over s actor ward none =
    let part = part_of s actor (Declare ward) in
    let met = no_objection (objections actor (Declare ward) part) none in
    let range = and_parts (is_office actor) (is_ward_number ward) (asked (is_in_range actor (Declare ward)) NumberOutOfRange (met 0)) in
    let found = there Sealed (ward_at s ward) WrongPhase (met 2) in
    let finished : is_finished (due_of (election_of s found.ward)) ≡ true =
    ap (λ (o : Option WardEntry). has_finished (due_for s o)) (sym found.is) ∙ asked (has_finished part.due) CountNotFinished (met 3)
    in
    record { office = range.0; number = range.1; own = found.ward; found = found.is; phased = found.phased; finished = finished }

-- the Declare leaves the completed stages unchanged
pub declare_keeps : (s : OfficeState) (actor ward : ℕ) (r : ReceiptEntry) → IsState s → first_reason (objections actor (Declare ward) (part_of s actor (Declare ward))) ≡ None
    → HasSameStages s (with_receipt r (with_effect (effect_of (Declare ward) (part_of s actor (Declare ward))) s)) ward
declare_keeps s actor ward r is none = let d = is_over s actor ward none in declared_same s ward d.own is d.found r

pub count_fits : (s : OfficeState) (actor : ℕ) (command : CountCommand) → IsState s → first_reason (objections actor command (part_of s actor command)) ≡ None
    → IsFit s actor (effect_of command (part_of s actor command)) (subject_of command) (reply_to command (part_of s actor command))
unfolding subject_of reply_to is_lot
count_fits s actor (Seal ward) is none =
    let part = part_of s actor (Seal ward) in
    let met = no_objection (objections actor (Seal ward) part) none in
    let range = and_parts (is_office actor) (is_ward_number ward) (asked (is_in_range actor (Seal ward)) NumberOutOfRange (met 0)) in
    let found = there Keying (ward_at s ward) WrongPhase (met 2) in
    let ready : (election_of s found.ward).ballots.settled ≡ true = ap (λ (o : Option WardEntry). is_ready (poll_for s o)) (sym found.is) ∙ asked (is_ready part.poll) NotReady (met 3) in
    let digits = line_number last_ward ward (omega arith) range.1 in
    record {
      state = sealed_stays s ward found.ward is found.is found.phased ready;
      tabulated = tabulation_moved s ward Sealed;
      about = office_about actor _ range.0 (seal_about ward range.1);
      text = line_text (line_append (given (codes "seal ") refl) digits);
      line = line_reply (line_append (given (codes "ward ") refl) (line_append digits (sealed_told s ward found.ward is found.is))) (omega arith);
    }
count_fits s actor (Advance ward) is none =
    let d = is_due s actor ward none in
    let digits = line_number last_ward ward (omega arith) d.number in
    let stage = stage_told s ward d.own is d.found d.action d.phased d.due in
    let action = own_action_told s ward d.own is d.found d.action d.due in
    let told = line_append (given (codes " stage ") refl) (line_append stage (line_append (given (codes " ") refl) action)) in
    record {
      state = advanced_stays s ward d.own is d.found d.action d.phased d.due;
      tabulated = tt;
      about = office_about actor _ d.office (advance_about ward d.number);
      text = line_text (line_append (given (codes "advance ") refl) digits);
      line = line_reply (line_append (given (codes "ward ") refl) (line_append digits told)) (omega arith);
    }
count_fits s actor (Lot ward stage candidate) is none =
    let d = is_waited s actor ward stage candidate none in
    let numbers = and_parts (is_ward_number ward) (is_lot_stage stage && is_candidate_number candidate) d.good in
    let own = and_parts (is_lot_stage stage) (is_candidate_number candidate) numbers.1 in
    let lot : LotEntry = record { ward = ward; stage = stage; candidate = candidate } in
    let wards = line_number last_ward ward (omega arith) numbers.0 in
    let stages = lot_stage_line stage own.0 in
    let candidates = line_number max_candidates candidate (omega arith) own.1 in
    let told = line_append (given (codes " stage ") refl) (line_append stages (line_append (given (codes ": candidate ") refl) candidates)) in
    record {
      state = drawn_stays s lot d.own d.good d.found d.phased d.due is;
      tabulated = drawn_tabulated s lot d.own d.found d.phased d.due is;
      about = office_about actor _ d.office (lot_about ward stage numbers.0 own.0);
      text = line_text (line_append (given (codes "lot ") refl) (line_append wards (line_append (given (codes " ") refl) stages)));
      line = line_reply (line_append (given (codes "lot at ward ") refl) (line_append wards told)) (omega arith);
    }
count_fits s actor (Declare ward) is none =
    let d = is_over s actor ward none in
    let digits = line_number last_ward ward (omega arith) d.number in
    record {
      state = declared_stays s ward d.own is d.found d.phased d.finished;
      tabulated = tabulation_moved s ward Declared;
      about = office_about actor _ d.office (declare_about ward d.number);
      text = line_text (line_append (given (codes "declare ") refl) digits);
      line = line_reply (line_append (given (codes "ward ") refl) (line_append digits (line_append (given (codes " declared: ") refl) (elected_told s ward d.own is d.found)))) (omega arith);
    }
