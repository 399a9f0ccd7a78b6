-- If there is no objection to a batch command, applying it to a state yields a state, and its receipt is in range.
use Rattle.std.proofs.Common.{rules, inl, inr, ◌≡◌, ℕ, suc, Bool, true, false, cond, not, ◌&&◌, ◌||◌, ◌==◌, ◌++◌, nat_le, codes, List, [], Option, Some, None, is_some, option_map, refl, sym}
use Rattle.std.proofs.Common.{ap, subst, ◌∙◌, arith}
use Rattle.std.specs.Fmt.{decimal}
use Rattle.std.specs.List.{list_all}
use Rattle.std.specs.Ordering.{is_eq}
use Rattle.std.specs.Cmp.{unsigned_tied}
use Rattle.std.proofs.lemmas.Bool.{and_parts, and_from, and_right, or_cases, or_right, eqb-true, leb-true, leb-false, le-leb, not-true, cases_order}
use Rattle.std.proofs.lemmas.List.Folds.{list_all-map}
use Rattle.std.proofs.Math.Nat.{le_refl}
use Rattle.register.specs.declared.phase.Phase.{Phase}
use Rattle.register.specs.declared.phase.Phase.TheVariants.{Keying}
use Rattle.register.specs.declared.refusal.Reason.TheVariants.{NumberOutOfRange, NoSuchBatch, BatchExists, WrongPhase, SameClerk, NoDifference, ThirdSet}
use Rattle.register.specs.declared.batches.BatchCommand.{BatchCommand}
use Rattle.register.specs.declared.batches.BatchCommand.TheVariants.{Add, Again, Third}
use Rattle.register.specs.Reasons.{first_reason}
use Rattle.register.specs.Ranges.{last_clerk, last_batch, last_round, is_office, is_clerk, is_ward_number, is_batch_number, is_paper_number, is_round}
use Rattle.register.specs.Subjects.{is_office_subject}
use Rattle.register.specs.Offices.{WardEntry, BatchEntry, ThirdEntry, KeyedEntry, JudgedEntry, OfficeState, changed, batch_cmp, third_cmp, ward_compared, batch_compared, third_compared}
use Rattle.register.specs.Offices.{ward_at, candidates_of, batch_at, third_at, keying_of, verdicts_of}
use Rattle.register.specs.Nominations.{are_enough}
use Rattle.register.specs.Agreement.{are_taken, differ, is_taken, is_its_clerk, two_clerks, clerks, clerks_of, keyings_in, keyings_now}
use Rattle.register.specs.Marks.{is_readable}
use Rattle.register.specs.BatchConditions.{columns_for, is_polled, is_given_out, is_third_for, is_keyed_for, is_round_of, are_rounds_to, is_judged}
use Rattle.register.specs.StateConditions.{is_batch, is_third, IsState}
use Rattle.register.specs.Effects.{batch_added, batch_reopened, third_set, in_round, with_effect}
use Rattle.register.specs.CommandInputs.{passes}
use Rattle.register.specs.Batches.{ward_for, third_for, keyings_for, part_of, is_in_last_round, is_in_range, objections, next_round, subject_of, reply_to, effect_of}
use Rattle.register.proofs.LineLemmas.{lower, is_plain-decimal, words, line_append, line_number, line_reply, line_text}
use Rattle.register.proofs.ObjectionLemmas.{no_objection, asked, unasked, absent, present, there}
use Rattle.register.proofs.MapLemmas.{Keeps, list_all_weaker, filter_none, put_all, put_is_map, found_put, found_put_other, found_put_too, found_put_still, changed_is_map, changed_at}
use Rattle.register.proofs.MapLemmas.{found_changed, found_key, found_passes, found_number, same_number, all_but_number}
use Rattle.register.proofs.ElectionLemmas.{lots_placed_of}
use Rattle.register.proofs.ElsewhereLemmas.{IsBeforeCount, batch_in_keying, sound_kept}
use Rattle.register.proofs.TabulationLemmas.{tabulation_kept}
use Rattle.register.proofs.ThreeKeyingsLemmas.{keyed_by, none_keyed, put_unkeyed}
use Rattle.register.proofs.KeyedLemmas.{BatchParts, batch_parts, HasSameFile, rounds_kept, judged_kept, rounds_from, rounds_more, found_given_out, no_verdicts}
use Rattle.register.proofs.ItemLemmas.{MapName, batch_map, third_map, Holds, maps_of, state_from, rounds_still, batch_total, third_total, are_placed, are_all, has_enough, IsFit, office_about}

-- a batch that is found in a state is in range
pub found_in_range : {s : OfficeState} → IsState s → (n : ℕ) (b : BatchEntry) → batch_at s n ≡ Some b → BatchParts b
found_in_range {s} is n b found = let batches = maps_of is batch_map in batch_parts b (found_passes (batch_compared n) is_batch b s.batches batches.in_range found)

-- ---- a new batch

module _ (s : OfficeState) (b : BatchEntry) (is : IsState s) (new : batch_at s b.number ≡ None) where
  -- none of the batch's papers has been keyed
  unkeyed : (round clerk : ℕ) → keying_of s b.number round clerk ≡ []
  unkeyed round clerk = filter_none _ s.keyings (list_all_weaker _ _ s.keyings (λ k keyed. go k (k.batch == b.number) refl keyed) (and_parts _ _ is.keyed).0)
    where
      go : (k : KeyedEntry) (same : Bool) → (k.batch == b.number) ≡ same → is_keyed_for s k (batch_at s k.batch) ≡ true
          → not ((k.batch == b.number) && ((k.round == round) && (k.clerk == clerk))) ≡ true
      go k false other keyed = rw other refl
      go k true same keyed =
          let none : batch_at s k.batch ≡ None = ap (batch_at s) (eqb-true k.batch b.number same) ∙ new in
          absurd (let lost = rw none at keyed in cc)

  -- none of the batch's papers has been judged
  unjudged : verdicts_of s b.number ≡ []
  unjudged = filter_none _ s.verdicts (list_all_weaker _ _ s.verdicts (λ v placed. go v (v.batch == b.number) refl placed) (and_parts _ _ is.judged).0)
    where
      go : (v : JudgedEntry) (same : Bool) → (v.batch == b.number) ≡ same → is_some (batch_at s v.batch) ≡ true → not (v.batch == b.number) ≡ true
      go v false other placed = rw other refl
      go v true same placed =
          let none : batch_at s v.batch ≡ None = ap (batch_at s) (eqb-true v.batch b.number same) ∙ new in
          absurd (let lost = rw none at placed in cc)

  keyed_for_too : (k : KeyedEntry) → is_keyed_for s k (batch_at s k.batch) ≡ true → is_keyed_for s k (batch_at (with_effect (batch_added b) s) k.batch) ≡ true
  keyed_for_too k = go (batch_at s k.batch) refl
    where
      go : (o : Option BatchEntry) → batch_at s k.batch ≡ o → is_keyed_for s k o ≡ true → is_keyed_for s k (batch_at (with_effect (batch_added b) s) k.batch) ≡ true
      go None found keyed = absurd (cc)
      go (Some x) found keyed = rw (found_put_still (λ (x : BatchEntry). x.number) s.batches b k.batch x new found) keyed

  first_round : b.round ≡ 1 → are_rounds_to (with_effect (batch_added b) s) b b.round ≡ true
  unfolding are_rounds_to
  first_round first = rw first (rw (none_keyed (keying_of s b.number 1) (clerks_of s b) (unkeyed 1)) refl)

  third_for_too : (t : ThirdEntry) → is_third_for t (batch_at s t.batch) ≡ true → is_third_for t (batch_at (with_effect (batch_added b) s) t.batch) ≡ true
  third_for_too t = go (batch_at s t.batch) refl
    where
      go : (o : Option BatchEntry) → batch_at s t.batch ≡ o → is_third_for t o ≡ true → is_third_for t (batch_at (with_effect (batch_added b) s) t.batch) ≡ true
      go None found set = absurd (cc)
      go (Some x) found set = rw (found_put_still (λ (x : BatchEntry). x.number) s.batches b t.batch x new found) set

  -- adding a batch yields a state if its number is new, it is in range, it is in its first round, and it is given
  -- out
  pub added_stays : IsBeforeCount s (batch_added b) → is_batch b ≡ true → b.round ≡ 1 → is_given_out s b ≡ true → IsState (with_effect (batch_added b) s)
  added_stays before good first out =
      let keyed = and_parts _ _ is.keyed in
      let judged = and_parts _ _ is.judged in
      state_from
      (with_effect (batch_added b) s)
      maps
      (record {
        nominated = is.nominated;
        given_out = let parts = and_parts _ _ is.given_out in and_from _ _ (put_all batch_cmp (is_given_out s) b s.batches out parts.0) (list_all_weaker _ _ s.thirds third_for_too parts.1);
        keyed = and_from
            _
            _
            (list_all_weaker _ _ s.keyings keyed_for_too keyed.0)
            (put_all batch_cmp (λ x. are_rounds_to (with_effect (batch_added b) s) x x.round) b s.batches (first_round first)
            (rounds_still s (with_effect (batch_added b) s) s.batches (λ x m round. round) keyed.1));
        judged = and_from
            _
            _
            (list_all_weaker _ _ s.verdicts (λ v placed. found_put_too batch_cmp (batch_compared v.batch) b s.batches placed) judged.0)
            (put_all batch_cmp (λ x. is_judged s x (verdicts_of s x.number)) b s.batches (rw unjudged refl) judged.1);
        lots_placed = lots_placed_of is;
        sound = sound_kept s (batch_added b) is before;
      })
    where
      maps : (m : MapName) → Holds m (with_effect (batch_added b) s)
      maps batch_map = put_is_map batch_total b s.batches good new (maps_of is batch_map)
      maps m = maps_of is m

-- ---- a batch in its next round

-- moving a batch to another valid round leaves its number unchanged and keeps it in range
in_range_still : (round : ℕ) → is_round round ≡ true → (x : BatchEntry) → is_batch x ≡ true → is_batch (in_round round x) ≡ true
unfolding is_batch
in_range_still round good x fine =
    let parts = batch_parts x fine in
    and_from _ _ parts.number (and_from _ _ parts.ward (and_from _ _ parts.size (and_from _ _ parts.first_clerk (and_from _ _ parts.second_clerk good))))

same_batch : (round : ℕ) → is_round round ≡ true → Keeps is_batch batch_cmp (in_round round)
same_batch round good = record { passes = in_range_still round good; before = λ x y. refl; behind = λ x y. refl }

module _ (s : OfficeState) (n : ℕ) (b : BatchEntry) (is : IsState s) (found : batch_at s n ≡ Some b) (unequal : differ (keyings_now s b) ≡ true) where
  -- no paper has been keyed yet in the next round
  unopened : (clerk : ℕ) → keying_of s b.number (suc b.round) clerk ≡ []
  unopened clerk = filter_none _ s.keyings (list_all_weaker _ _ s.keyings (λ k keyed. go k (k.batch == b.number) refl (k.round == suc b.round) refl keyed) (and_parts _ _ is.keyed).0)
    where
      go : (k : KeyedEntry) (same : Bool) → (k.batch == b.number) ≡ same → (then : Bool) → (k.round == suc b.round) ≡ then → is_keyed_for s k (batch_at s k.batch) ≡ true
          → not ((k.batch == b.number) && ((k.round == suc b.round) && (k.clerk == clerk))) ≡ true
      go k false other then at keyed = rw other refl
      go k true same false earlier keyed = rw (same, earlier) refl
      go k true same true next keyed =
          let place : k.batch ≡ n = eqb-true k.batch b.number same ∙ sym (found_number (λ (x : BatchEntry). x.number) s.batches n b found) in
          let own : batch_at s k.batch ≡ Some b = ap (batch_at s) place ∙ found in
          let kept : is_keyed_for s k (Some b) ≡ true = ap (is_keyed_for s k) (sym own) ∙ keyed in
          let up = leb-true k.round b.round (and_parts _ _ kept).0 in
          let round = eqb-true k.round (suc b.round) next in
          absurd (omega (arith, up, round))

  -- the rounds before the next one are complete, and the keyings in each of them differ
  module _ (bs : List BatchEntry) where
    earlier_round : (m : ℕ) → is_round_of s b m ≡ true → is_round_of (record s { batches = bs }) (in_round (suc b.round) b) m ≡ true
    earlier_round m holds =
        let parts = and_parts _ _ holds in
        and_from _ _ parts.0 (go parts.1)
      where
        past : nat_le b.round m ≡ true → (nat_le (suc b.round) m || differ (keyings_in s b m)) ≡ true
        past up = elim (cases_order b.round m) [
          | inl same ↦ or_right (nat_le (suc b.round) m) _ (subst (λ (r : ℕ). differ (keyings_in s b r) ≡ true) same unequal)
          | inr (inl below) ↦ rw (le-leb (suc b.round) m (omega (arith, below))) refl
          | inr (inr above) ↦ absurd (let low = leb-true b.round m up in omega (arith, low, above))
        ]

        go : (nat_le b.round m || differ (keyings_in s b m)) ≡ true → (nat_le (suc b.round) m || differ (keyings_in s b m)) ≡ true
        go either = elim (or_cases (nat_le b.round m) (differ (keyings_in s b m)) either) [
          | inl up ↦ past up
          | inr other ↦ or_right (nat_le (suc b.round) m) _ other
        ]

    next_rounds : are_rounds_to (record s { batches = bs }) (in_round (suc b.round) b) (suc b.round) ≡ true
    next_rounds =
        let own : are_rounds_to s b b.round ≡ true = found_passes (batch_compared n) (λ (x : BatchEntry). are_rounds_to s x x.round) b s.batches (and_parts _ _ is.keyed).1 found in
        let reached = le-leb (suc b.round) (suc b.round) (le_refl (suc b.round)) in
        rounds_more (record s { batches = bs }) (in_round (suc b.round) b) b.round
        ∙ and_from _ _ (rw (none_keyed (keying_of s b.number (suc b.round)) (clerks_of s b) unopened) (rw reached refl))
        (rounds_from s (record s { batches = bs }) b (in_round (suc b.round) b) b.round earlier_round own)

  -- the batch isn't taken, so none of its papers has been judged
  untaken : is_taken s b ≡ false
  untaken = not-true (are_taken (keyings_now s b)) (and_parts _ _ unequal).1

  third_for_next : (t : ThirdEntry) → is_third_for t (batch_at s t.batch) ≡ true → is_third_for t (batch_at (with_effect (batch_reopened n (suc b.round)) s) t.batch) ≡ true
  third_for_next t = rw (changed_at (batch_compared n) (batch_compared t.batch) (in_round (suc b.round)) (λ x. refl) s.batches) (go (batch_at s t.batch))
    where
      up : (x : BatchEntry) (same : Bool) → is_third_for t (Some x) ≡ true → is_third_for t (Some (cond same (in_round (suc b.round) x) x)) ≡ true
      up x false set = set
      up x true set = set

      go : (o : Option BatchEntry) → is_third_for t o ≡ true → is_third_for t (option_map (λ x. cond (is_eq (batch_compared n x)) (in_round (suc b.round) x) x) o) ≡ true
      go None set = set
      go (Some x) set = up x (is_eq (batch_compared n x)) set

  -- the batch's keyed papers are in rounds no later than the next one
  keyed_for_next : (k : KeyedEntry) → is_keyed_for s k (batch_at s k.batch) ≡ true → is_keyed_for s k (batch_at (with_effect (batch_reopened n (suc b.round)) s) k.batch) ≡ true
  keyed_for_next k = rw (changed_at (batch_compared n) (batch_compared k.batch) (in_round (suc b.round)) (λ x. refl) s.batches) (go (batch_at s k.batch) refl)
    where
      up : (x : BatchEntry) → batch_at s k.batch ≡ Some x → (same : Bool) → is_eq (batch_compared n x) ≡ same → is_keyed_for s k (Some x) ≡ true
          → is_keyed_for s k (Some (cond same (in_round (suc b.round) x) x)) ≡ true
      up x at false other keyed = keyed
      up x at true same keyed =
          let place : n ≡ k.batch = same_number n x.number same ∙ sym (found_number (λ (x : BatchEntry). x.number) s.batches k.batch x at) in
          let both : Some x ≡ Some b = sym at ∙ ap (batch_at s) (sym place) ∙ found in
          let own : x ≡ b = cc in
          let round : x.round ≡ b.round = ap (λ (y : BatchEntry). y.round) own in
          let parts = and_parts (nat_le k.round x.round) (is_its_clerk k.clerk x (third_at s x.number) && is_readable (columns_for s x) k.marks) keyed in
          let low = leb-true k.round x.round parts.0 in
          and_from _ _ (le-leb k.round (suc b.round) (omega (arith, low, round))) parts.1

      go : (o : Option BatchEntry) → batch_at s k.batch ≡ o → is_keyed_for s k o ≡ true → is_keyed_for s k (option_map (λ x. cond (is_eq (batch_compared n x)) (in_round (suc b.round) x) x) o) ≡ true
      go None at keyed = keyed
      go (Some x) at keyed = up x at (is_eq (batch_compared n x)) refl keyed

  -- every batch passes a test if this batch passes it in its next round, and every other batch passes a test that
  -- implies it
  next_all : (p q : BatchEntry → Bool) → q (in_round (suc b.round) b) ≡ true → ((x : BatchEntry) → p x ≡ true → q x ≡ true) → list_all p s.batches ≡ true
      → list_all q (changed (batch_compared n) (in_round (suc b.round)) s.batches) ≡ true
  next_all p q good others all =
      list_all-map q (λ x. cond (is_eq (batch_compared n x)) (in_round (suc b.round) x) x) s.batches
      ∙ all_but_number (λ (x : BatchEntry). x.number) s.batches n b p (λ x. q (cond (is_eq (batch_compared n x)) (in_round (suc b.round) x) x)) is.rise.batches found here there all
    where
      here : n ≡ b.number → q (cond (is_eq (batch_compared n b)) (in_round (suc b.round) b) b) ≡ true
      here same = rw (found_key (batch_compared n) b s.batches found) good

      there : (x : BatchEntry) → (n == x.number) ≡ false → p x ≡ true → q (cond (is_eq (batch_compared n x)) (in_round (suc b.round) x) x) ≡ true
      there x other holds = rw (unsigned_tied n x.number ∙ other) (others x holds)

  unjudged_yet : is_judged s (in_round (suc b.round) b) (verdicts_of s b.number) ≡ true
  unjudged_yet =
      let parts = and_parts (list_all (λ v. is_some (batch_at s v.batch)) s.verdicts) (list_all (λ x. is_judged s x (verdicts_of s x.number)) s.batches) is.judged in
      let own = found_passes (batch_compared n) (λ (x : BatchEntry). is_judged s x (verdicts_of s x.number)) b s.batches parts.1 found in
      rw (no_verdicts s b untaken (verdicts_of s b.number) own) refl

  -- moving the batch to its next round yields a state, provided that the round is in range
  next_stays : IsBeforeCount s (batch_reopened n (suc b.round)) → is_round (suc b.round) ≡ true → IsState (with_effect (batch_reopened n (suc b.round)) s)
  next_stays before good =
      let keyed = and_parts _ _ is.keyed in
      let judged = and_parts _ _ is.judged in
      state_from
      (with_effect (batch_reopened n (suc b.round)) s)
      maps
      (record {
        nominated = is.nominated;
        given_out =
            let parts = and_parts _ _ is.given_out in
            and_from _ _ (next_all (is_given_out s) (is_given_out s) (found_given_out is n b found) (λ x out. out) parts.0) (list_all_weaker _ _ s.thirds third_for_next parts.1);
        keyed = and_from
            _
            _
            (list_all_weaker _ _ s.keyings keyed_for_next keyed.0)
            (next_all (λ x. are_rounds_to s x x.round) (λ x. are_rounds_to (with_effect (batch_reopened n (suc b.round)) s) x x.round)
            (next_rounds (with_effect (batch_reopened n (suc b.round)) s).batches)
            (λ x rounds. rounds_from s (with_effect (batch_reopened n (suc b.round)) s) x x x.round (λ m round. round) rounds) keyed.1);
        judged = and_from
            _
            _
            (list_all_weaker _ _ s.verdicts placed judged.0)
            (next_all (λ x. is_judged s x (verdicts_of s x.number)) (λ x. is_judged s x (verdicts_of s x.number)) unjudged_yet (λ x judged. judged) judged.1);
        lots_placed = lots_placed_of is;
        sound = sound_kept s (batch_reopened n (suc b.round)) is before;
      })
    where
      placed : (v : JudgedEntry) → is_some (batch_at s v.batch) ≡ true → is_some (batch_at (with_effect (batch_reopened n (suc b.round)) s) v.batch) ≡ true
      placed v belongs = found_changed (batch_compared n) (batch_compared v.batch) (in_round (suc b.round)) (λ x. refl) s.batches ∙ belongs

      maps : (m : MapName) → Holds m (with_effect (batch_reopened n (suc b.round)) s)
      maps batch_map = changed_is_map (batch_compared n) (in_round (suc b.round)) (same_batch (suc b.round) good) s.batches (maps_of is batch_map)
      maps m = maps_of is m

  pub reopened_stays : (round : ℕ) → round ≡ suc b.round → IsBeforeCount s (batch_reopened n round) → is_round round ≡ true → IsState (with_effect (batch_reopened n round) s)
  reopened_stays round next before good =
      subst (λ (r : ℕ). IsState (with_effect (batch_reopened n r) s)) (sym next) (next_stays (subst (λ (r : ℕ). IsBeforeCount s (batch_reopened n r)) next before) (ap is_round (sym next) ∙ good))

-- ---- a third clerk

module _ (s : OfficeState) (t : ThirdEntry) (b : BatchEntry) (is : IsState s) (found : batch_at s t.batch ≡ Some b) (new : third_at s t.batch ≡ None)
    (other : is_its_clerk t.clerk b None ≡ false) where
  -- the third clerk hasn't keyed anything for the batch
  unkeyed_yet : (round : ℕ) → keying_of s t.batch round t.clerk ≡ []
  unkeyed_yet round = filter_none _ s.keyings (list_all_weaker _ _ s.keyings (λ k keyed. go k (k.batch == t.batch) refl (k.clerk == t.clerk) refl keyed) (and_parts _ _ is.keyed).0)
    where
      go : (k : KeyedEntry) (same : Bool) → (k.batch == t.batch) ≡ same → (his : Bool) → (k.clerk == t.clerk) ≡ his → is_keyed_for s k (batch_at s k.batch) ≡ true
          → not ((k.batch == t.batch) && ((k.round == round) && (k.clerk == t.clerk))) ≡ true
      go k false away his by keyed = rw away refl
      go k true same false by keyed = rw (same, by) (ap not (and_right (k.round == round) false refl))
      go k true same true by keyed =
          let place : k.batch ≡ t.batch = eqb-true k.batch t.batch same in
          let own : batch_at s k.batch ≡ Some b = ap (batch_at s) place ∙ found in
          let kept : is_keyed_for s k (Some b) ≡ true = ap (is_keyed_for s k) (sym own) ∙ keyed in
          let none : third_at s b.number ≡ None = ap (third_at s) (sym (found_number (λ (x : BatchEntry). x.number) s.batches t.batch b found)) ∙ new in
          let clerk : is_its_clerk k.clerk b (third_at s b.number) ≡ true = (and_parts _ _ (and_parts (nat_le k.round b.round) _ kept).1).0 in
          let his : is_its_clerk t.clerk b None ≡ true = ap (λ (c : ℕ). is_its_clerk c b None) (sym (eqb-true k.clerk t.clerk by)) ∙ (ap (is_its_clerk k.clerk b) (sym none) ∙ clerk) in
          absurd (let lost = other in cc)

  abbrev with_third : OfficeState
  with_third = with_effect (third_set t) s

  -- the third clerk is assigned to this batch, and the third clerks of all other batches are unchanged
  set_there : third_at with_third t.batch ≡ Some t
  set_there = found_put third_total t s.thirds new

  set_elsewhere : (n : ℕ) → (n == t.batch) ≡ false → third_at with_third n ≡ third_at s n
  set_elsewhere n away = found_put_other third_cmp (third_compared n) t s.thirds (unsigned_tied n t.batch ∙ away)

  -- the keyings of every batch are unchanged
  same_keyings : (x : BatchEntry) (round : ℕ) → keyings_in with_third x round ≡ keyings_in s x round
  same_keyings x round = go (x.number == t.batch) refl
    where
      go : (same : Bool) → (x.number == t.batch) ≡ same → keyings_in with_third x round ≡ keyings_in s x round
      go false away = ap (λ (o : Option ThirdEntry). keyed_by (keying_of s x.number round) (clerks x o)) (set_elsewhere x.number away)
      go true same =
          let place : x.number ≡ t.batch = eqb-true x.number t.batch same in
          let set : third_at with_third x.number ≡ Some t = ap (third_at with_third) place ∙ set_there in
          let none : third_at s x.number ≡ None = ap (third_at s) place ∙ new in
          let unkeyed_by : keying_of s x.number round t.clerk ≡ [] = ap (λ (n : ℕ). keying_of s n round t.clerk) place ∙ unkeyed_yet round in
          ap (λ (o : Option ThirdEntry). keyed_by (keying_of s x.number round) (clerks x o)) set
          ∙ put_unkeyed (keying_of s x.number round) t.clerk (two_clerks x) unkeyed_by
          ∙ ap (λ (o : Option ThirdEntry). keyed_by (keying_of s x.number round) (clerks x o)) (sym none)

  -- the file of every batch is unchanged, too
  same_file : (x : BatchEntry) → HasSameFile s with_third x
  same_file x = record { candidates = refl; keyings = same_keyings x; verdicts = refl }

  -- keyed papers still belong to clerks of their batches
  keyed_for_still : (k : KeyedEntry) → is_keyed_for s k (batch_at s k.batch) ≡ true → is_keyed_for with_third k (batch_at s k.batch) ≡ true
  keyed_for_still k = go (batch_at s k.batch)
    where
      clerk_still : (x : BatchEntry) → is_its_clerk k.clerk x (third_at s x.number) ≡ true → is_its_clerk k.clerk x (third_at with_third x.number) ≡ true
      clerk_still x = by (x.number == t.batch) refl
        where
          wider : (p q r : Bool) → (p || (q || false)) ≡ true → (p || (q || r)) ≡ true
          wider true q r its = refl
          wider false true r its = refl
          wider false false r its = absurd (cc)

          by : (same : Bool) → (x.number == t.batch) ≡ same → is_its_clerk k.clerk x (third_at s x.number) ≡ true → is_its_clerk k.clerk x (third_at with_third x.number) ≡ true
          by false away its = ap (is_its_clerk k.clerk x) (set_elsewhere x.number away) ∙ its
          by true same its =
              let place : x.number ≡ t.batch = eqb-true x.number t.batch same in
              let set : third_at with_third x.number ≡ Some t = ap (third_at with_third) place ∙ set_there in
              let none : third_at s x.number ≡ None = ap (third_at s) place ∙ new in
              ap (is_its_clerk k.clerk x) set ∙ wider (k.clerk == x.first_clerk) (k.clerk == x.second_clerk) (k.clerk == t.clerk) (ap (is_its_clerk k.clerk x) (sym none) ∙ its)

      go : (o : Option BatchEntry) → is_keyed_for s k o ≡ true → is_keyed_for with_third k o ≡ true
      go None keyed = keyed
      go (Some x) keyed =
          let first = and_parts (nat_le k.round x.round) (is_its_clerk k.clerk x (third_at s x.number) && is_readable (columns_for s x) k.marks) keyed in
          let second = and_parts (is_its_clerk k.clerk x (third_at s x.number)) (is_readable (columns_for s x) k.marks) first.1 in
          and_from _ _ first.0 (and_from _ _ (clerk_still x second.0) second.1)

  pub set_stays : IsBeforeCount s (third_set t) → is_third t ≡ true → IsState with_third
  set_stays before good =
      let out = and_parts _ _ is.given_out in
      let keyed = and_parts _ _ is.keyed in
      let judged = and_parts _ _ is.judged in
      state_from
      with_third
      maps
      (record {
        nominated = is.nominated;
        given_out = and_from _ _ out.0 (put_all third_cmp (λ x. is_third_for x (batch_at s x.batch)) t s.thirds own out.1);
        keyed = and_from _ _ (list_all_weaker _ _ s.keyings keyed_for_still keyed.0) (list_all_weaker _ _ s.batches (λ x rounds. rounds_kept s with_third x (same_file x) rounds) keyed.1);
        judged = and_from _ _ judged.0 (list_all_weaker _ _ s.batches (λ x verdicts. judged_kept s with_third x (same_file x) verdicts) judged.1);
        lots_placed = lots_placed_of is;
        sound = sound_kept s (third_set t) is before;
      })
    where
      neither : (p q : Bool) → (p || (q || false)) ≡ false → (not p && not q) ≡ true
      neither true q his = absurd (cc)
      neither false true his = absurd (cc)
      neither false false his = refl

      own : is_third_for t (batch_at s t.batch) ≡ true
      own = rw found (neither (t.clerk == b.first_clerk) (t.clerk == b.second_clerk) other)

      maps : (m : MapName) → Holds m with_third
      maps third_map = put_is_map third_total t s.thirds good new (maps_of is third_map)
      maps m = maps_of is m

-- ---- each command

-- the subjects of receipts for batch commands
batch_about : (n : ℕ) → is_batch_number n ≡ true → is_office_subject (codes "batch " ++ decimal n) ≡ true
unfolding is_office_subject
batch_about n h = rw (is_plain-decimal last_batch n (omega arith) h) refl

again_about : (n : ℕ) → is_batch_number n ≡ true → is_office_subject (codes "again " ++ decimal n) ≡ true
unfolding is_office_subject
again_about n h = rw (is_plain-decimal last_batch n (omega arith) h) refl

third_about : (n : ℕ) → is_batch_number n ≡ true → is_office_subject (codes "third " ++ decimal n) ≡ true
unfolding is_office_subject
third_about n h = rw (is_plain-decimal last_batch n (omega arith) h) refl

-- a ward in keying is contested, so any of its batches that has two different clerks is given out
keying_given_out : (s : OfficeState) (ward : ℕ) (w : WardEntry) (first second : ℕ) → IsState s → ward_at s ward ≡ Some w → w.phase ≡ Keying → (first == second) ≡ false
    → (not (first == second) && is_polled (ward_at s ward) (candidates_of s ward)) ≡ true
keying_given_out s ward w first second is found phased other =
    let enough = found_passes (ward_compared ward) (λ x. has_enough x (candidates_of s x.number)) w s.wards (and_parts (are_placed s) (are_all has_enough s) is.nominated).1 found in
    let same = found_number (λ (x : WardEntry). x.number) s.wards ward w found in
    let contested : are_enough Keying w (candidates_of s ward) ≡ true =
    ap (λ (n : ℕ). are_enough Keying w (candidates_of s n)) same ∙ ap (λ (p : Phase). are_enough p w (candidates_of s w.number)) (sym phased) ∙ enough
    in
    rw (other, found) (rw phased contested)

-- the next round, unless the batch is in its last round
next_after : (b : BatchEntry) → not (is_in_last_round b) ≡ true → next_round (Some b) ≡ suc b.round
next_after b more = rw (not-true (is_in_last_round b) more) (omega arith)

next_in_range : (b : BatchEntry) (round : ℕ) → round ≡ suc b.round → BatchParts b → not (is_in_last_round b) ≡ true → is_round round ≡ true
next_in_range b round next parts more =
    let low = lower 1 last_round b.round parts.round in
    let high = leb-false last_round b.round (not-true (is_in_last_round b) more) in
    and_from _ _ (le-leb 1 round (omega (arith, next))) (le-leb round last_round (omega (arith, next, high)))

-- if there is no objection to a new batch, its numbers are in range
batch_from : (batch ward size first_clerk second_clerk : ℕ) → (is_batch_number batch && (is_ward_number ward && (is_paper_number size && (is_clerk first_clerk && is_clerk second_clerk)))) ≡ true
    → is_batch (record { number = batch; ward = ward; size = size; first_clerk = first_clerk; second_clerk = second_clerk; round = 1 }) ≡ true
unfolding is_batch
batch_from batch ward size first_clerk second_clerk good =
    let number = and_parts (is_batch_number batch) (is_ward_number ward && (is_paper_number size && (is_clerk first_clerk && is_clerk second_clerk))) good in
    let of_ward = and_parts (is_ward_number ward) (is_paper_number size && (is_clerk first_clerk && is_clerk second_clerk)) number.1 in
    let papers = and_parts (is_paper_number size) (is_clerk first_clerk && is_clerk second_clerk) of_ward.1 in
    let clerks = and_parts (is_clerk first_clerk) (is_clerk second_clerk) papers.1 in
    and_from _ _ number.0 (and_from _ _ of_ward.0 (and_from _ _ papers.0 (and_from _ _ clerks.0 (and_from (is_clerk second_clerk) (is_round 1) clerks.1 refl))))

pub batch_fits : (s : OfficeState) (actor : ℕ) (command : BatchCommand) → IsState s → first_reason (objections actor command (part_of s actor command)) ≡ None
    → IsFit s actor (effect_of command (part_of s actor command)) (subject_of command) (reply_to command (part_of s actor command))
unfolding subject_of reply_to is_batch is_third
batch_fits s actor (Add batch ward size first_clerk second_clerk) is none =
    let command = Add batch ward size first_clerk second_clerk in
    let met = no_objection (objections actor command (part_of s actor command)) none in
    let range =
    and_parts (is_office actor) (is_batch_number batch && (is_ward_number ward && (is_paper_number size && (is_clerk first_clerk && is_clerk second_clerk))))
    (asked (is_in_range actor command (part_of s actor command)) NumberOutOfRange (met 0))
    in
    let numbers = and_parts _ _ range.1 in
    let found = there Keying (ward_at s ward) WrongPhase (met 3) in
    let new = absent (batch_at s batch) BatchExists (met 2) in
    let other = unasked (first_clerk == second_clerk) SameClerk (met 4) in
    let before : IsBeforeCount s (effect_of command (part_of s actor command)) =
    record { number = ward; ward = found.ward; found = found.is; not_sealed = rw found.phased refl; own = refl; wards = refl; lots = refl }
    in
    let digits = line_number last_batch batch (omega arith) numbers.0 in
    record {
      state =
          added_stays s _ is new before (batch_from batch ward size first_clerk second_clerk range.1) refl (keying_given_out s ward found.ward first_clerk second_clerk is found.is found.phased other);
      tabulated = tabulation_kept s _ is before;
      about = office_about actor _ range.0 (batch_about batch numbers.0);
      text = line_text (line_append (words (codes "batch ") (search rules) refl) digits);
      line = line_reply (line_append (words (codes "batch ") (search rules) refl) (line_append digits (words (codes " added") (search rules) refl))) (omega arith);
    }
batch_fits s actor (Again batch) is none =
    let command = Again batch in
    let part = part_of s actor command in
    let met = no_objection (objections actor command part) none in
    let range = and_parts (is_office actor) (is_batch_number batch && not (passes is_in_last_round (batch_at s batch))) (asked (is_in_range actor command part) NumberOutOfRange (met 0)) in
    let numbers = and_parts (is_batch_number batch) (not (passes is_in_last_round (batch_at s batch))) range.1 in
    let found = present (batch_at s batch) NoSuchBatch (met 1) in
    let b = found.it in
    let before =
    batch_in_keying s batch b (batch_reopened batch (next_round (batch_at s batch))) found.is (there Keying (ward_for s (batch_at s batch)) WrongPhase (met 2)) refl (λ own. own) refl refl
    in
    let unequal : differ (keyings_now s b) ≡ true = ap (λ (o : Option BatchEntry). differ (keyings_for s o)) (sym found.is) ∙ asked (differ part.keyings) NoDifference (met 3) in
    let more : not (is_in_last_round b) ≡ true = ap (λ (o : Option BatchEntry). not (passes is_in_last_round o)) (sym found.is) ∙ numbers.1 in
    let next : next_round (batch_at s batch) ≡ suc b.round = ap next_round found.is ∙ next_after b more in
    let good = next_in_range b (next_round (batch_at s batch)) next (found_in_range is batch b found.is) more in
    let digits = line_number last_batch batch (omega arith) numbers.0 in
    let told =
    line_append (words (codes " round ") (search rules) refl) (line_append (line_number last_round (next_round (batch_at s batch)) (omega arith) good) (words (codes " open") (search rules) refl))
    in
    record {
      state = reopened_stays s batch b is found.is unequal (next_round (batch_at s batch)) next before good;
      tabulated = tabulation_kept s _ is before;
      about = office_about actor _ range.0 (again_about batch numbers.0);
      text = line_text (line_append (words (codes "again ") (search rules) refl) digits);
      line = line_reply (line_append (words (codes "batch ") (search rules) refl) (line_append digits told)) (omega arith);
    }
batch_fits s actor (Third batch clerk) is none =
    let command = Third batch clerk in
    let part = part_of s actor command in
    let met = no_objection (objections actor command part) none in
    let range = and_parts (is_office actor) (is_batch_number batch && is_clerk clerk) (asked (is_in_range actor command part) NumberOutOfRange (met 0)) in
    let numbers = and_parts (is_batch_number batch) (is_clerk clerk) range.1 in
    let found = present (batch_at s batch) NoSuchBatch (met 1) in
    let b = found.it in
    let before =
    batch_in_keying s batch b (third_set (record { batch = batch; clerk = clerk })) found.is (there Keying (ward_for s (batch_at s batch)) WrongPhase (met 2)) refl (λ own. own) refl refl
    in
    let own : third_for s (batch_at s batch) ≡ third_at s batch = ap (third_for s) found.is ∙ ap (third_at s) (sym (found_number (λ (x : BatchEntry). x.number) s.batches batch b found.is)) in
    let unset : third_for s (batch_at s batch) ≡ None = absent (third_for s (batch_at s batch)) ThirdSet (met 5) in
    let new : third_at s batch ≡ None = sym own ∙ unset in
    let apart : is_its_clerk clerk b None ≡ false =
    ap (is_its_clerk clerk b) (sym unset) ∙ (ap (passes (λ (x : BatchEntry). is_its_clerk clerk x (third_for s (batch_at s batch)))) (sym found.is)
    ∙ unasked (passes (λ (x : BatchEntry). is_its_clerk clerk x part.third) part.batch) SameClerk (met 3))
    in
    let digits = line_number last_batch batch (omega arith) numbers.0 in
    let told = line_append (words (codes " third clerk ") (search rules) refl) (line_number last_clerk clerk (omega arith) numbers.1) in
    record {
      state = set_stays s (record { batch = batch; clerk = clerk }) b is found.is new apart before (and_from _ _ numbers.0 numbers.1);
      tabulated = tabulation_kept s _ is before;
      about = office_about actor _ range.0 (third_about batch numbers.0);
      text = line_text (line_append (words (codes "third ") (search rules) refl) digits);
      line = line_reply (line_append (words (codes "batch ") (search rules) refl) (line_append digits told)) (omega arith);
    }
