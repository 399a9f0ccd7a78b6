-- An election is still sound after its nominations are closed, after it is sealed or advanced, after a lot is drawn,
-- and after it is declared.
use Rattle.std.proofs.Common.{◌≡◌, ℕ, ◌+◌, ◌-◌, ◌<◌, Bool, true, false, cond, ◌==◌, nat_le, nat_eq, List, [], ◌∷◌, length, map, Option, Some, None, refl, sym, ap, ◌∙◌, arith}
use Rattle.std.specs.List.{find, list_all, list_any}
use Rattle.std.specs.Option.{option_map}
use Rattle.std.specs.Ordering.{nat_cmp, is_lt, is_eq}
use Rattle.std.proofs.lemmas.Bool.{and_parts, and_from, both_ways, eqb-true, eq-eqb, leb-true, le-leb}
use Rattle.std.proofs.lemmas.List.Folds.{list_all-map}
use Rattle.count.specs.Law.Contest.{History}
use Rattle.count.specs.Law.Due.{due_after, lot_for}
use Rattle.count.specs.Law.Count.{stages_to, due_by}
use Rattle.count.specs.declared.stages.Action.{Action}
use Rattle.count.specs.declared.stages.TiedFor.{TiedFor}
use Rattle.count.specs.declared.stages.Due.{Due}
use Rattle.count.specs.declared.stages.Due.TheVariants.{Act, Lot, Finished}
use Rattle.count.proofs.Law.DueLemmas.{stage-due}
use Rattle.register.specs.declared.phase.Phase.{Phase}
use Rattle.register.specs.declared.phase.Phase.TheVariants.{Nominations, Keying, Sealed, Declared}
use Rattle.register.specs.Offices.{LotEntry, put, entry_at, lot_cmp}
use Rattle.register.specs.Effects.{in_phase, at_stage}
use Rattle.register.specs.Elections.{ElectionEntry, lot_pair, has_count, contest_of, stages_of, due_of, is_finished, is_tied, is_drawn_for, is_in_count, is_uncounted}
use Rattle.register.proofs.MapLemmas.{list_all_weaker, put_all, same_number, both_equal}
use Rattle.register.proofs.ElectionLemmas.{is_sound, sound_before, uncounted_before, unsealed, uncontested, sound_in, IsRightSoFar, right_in, right_at_start}
use Rattle.register.proofs.StageLemmas.{acted, ended, IsWaitedFor, waited_for, stage_more, same_stages}

-- the election with its ward in another phase, with another number of completed stages, or with other lots
abbrev pub in_phase_of : Phase → ElectionEntry → ElectionEntry
in_phase_of phase e = record e { ward = in_phase phase e.ward }

abbrev pub at_stage_of : ℕ → ElectionEntry → ElectionEntry
at_stage_of done e = record e { ward = at_stage done e.ward }

abbrev pub with_lots : List LotEntry → ElectionEntry → ElectionEntry
with_lots ls e = record e { lots = map lot_pair ls }

-- ---- closing nominations, and sealing a ward

-- a ward in nominations moves to keying or, if it isn't contested, is sealed immediately
pub sound_closed : (e : ElectionEntry) (b : Bool) → e.ward.phase ≡ Nominations → has_count e ≡ b → is_sound e ≡ true → is_sound (in_phase_of (cond b Keying Sealed) e) ≡ true
sound_closed e b phased contested sound = go b contested
  where
    none : is_uncounted e ≡ true
    none = uncounted_before e (unsealed e (rw phased refl)) sound

    go : (b : Bool) → has_count e ≡ b → is_sound (in_phase_of (cond b Keying Sealed) e) ≡ true
    go true is = sound_before (in_phase_of Keying e) refl none
    go false is = sound_before (in_phase_of Sealed e) is none

-- a ward in keying is sealed once its batches are settled
pub sound_sealed : (e : ElectionEntry) → e.ward.phase ≡ Keying → e.ballots.settled ≡ true → is_sound e ≡ true → is_sound (in_phase_of Sealed e) ≡ true
sound_sealed e phased settled sound = go (has_count e) refl
  where
    none : is_uncounted e ≡ true
    none = uncounted_before e (unsealed e (rw phased refl)) sound

    go : (b : Bool) → has_count e ≡ b → is_sound (in_phase_of Sealed e) ≡ true
    go true is = sound_in (in_phase_of Sealed e) is settled (right_at_start (in_phase_of Sealed e) none refl)
    go false is = sound_before (in_phase_of Sealed e) is none

-- ---- a count

-- what is due in the count of a contested election
pub record IsHeld (e : ElectionEntry) (due : Due) : Type 0 where
  pub contested : has_count e ≡ true
  pub is : due_by (contest_of e) e.lots (stages_of e) ≡ due

-- if anything is due, there is a count
pub held : (e : ElectionEntry) (due : Due) → due_of e ≡ due → is_finished due ≡ false → IsHeld e due
held e due is open_ = go (has_count e) refl is
  where
    go : (b : Bool) → has_count e ≡ b → cond b (due_by (contest_of e) e.lots (stages_of e)) Finished ≡ due → IsHeld e due
    go true contested same = record { contested = contested; is = same }
    go false none same = absurd (both_ways (is_finished due) open_ (sym (ap is_finished same)))

-- a sealed ward whose election is contested is in count
pub in_count : (e : ElectionEntry) → e.ward.phase ≡ Sealed → has_count e ≡ true → is_in_count e ≡ true
in_count e phased contested = rw phased contested

-- counting the stage that is due
pub sound_advanced : (e : ElectionEntry) (action : Action) → e.ward.phase ≡ Sealed → due_of e ≡ Act action → is_sound e ≡ true → is_sound (at_stage_of (e.ward.done + 1) e) ≡ true
sound_advanced e action phased due sound =
    let is = held e (Act action) due refl in
    let counted = in_count e phased is.contested in
    let so_far = right_in e counted sound in
    let next = acted (contest_of e) e.lots (stages_of e) action is.is in
    let more : length (stages_to (contest_of e) e.lots (e.ward.done + 1)) ≡ e.ward.done + 1 = stage_more (contest_of e) e.lots e.ward.done action next ∙ ap (λ n. n + 1) so_far.stages in
    let drawn = list_all_weaker (is_drawn_for e) (is_drawn_for (at_stage_of (e.ward.done + 1) e)) e.lots (λ lot was. still lot was) so_far.lots in
    sound_in (at_stage_of (e.ward.done + 1) e) counted so_far.settled (and_from _ _ (eq-eqb _ _ more) (and_from _ _ drawn (rw phased refl)))
  where
    still : (lot : ℕ × ℕ) → is_drawn_for e lot ≡ true → is_drawn_for (at_stage_of (e.ward.done + 1) e) lot ≡ true
    still lot was =
        let parts = and_parts (nat_le lot.0 (e.ward.done + 1)) _ was in
        let low = leb-true lot.0 (e.ward.done + 1) parts.0 in
        and_from _ _ (le-leb lot.0 (e.ward.done + 1 + 1) (omega (arith, low))) parts.1

-- declaring a finished count
pub sound_declared : (e : ElectionEntry) → e.ward.phase ≡ Sealed → is_finished (due_of e) ≡ true → is_sound e ≡ true → is_sound (in_phase_of Declared e) ≡ true
sound_declared e phased finished sound = go (has_count e) refl finished
  where
    go : (b : Bool) → has_count e ≡ b → is_finished (cond b (due_by (contest_of e) e.lots (stages_of e)) Finished) ≡ true → is_sound (in_phase_of Declared e) ≡ true
    go false none done = sound_before (in_phase_of Declared e) none (uncounted_before e (uncontested e none) sound)
    go true contested done =
        let so_far = right_in e (in_count e phased contested) sound in
        let last = ended (contest_of e) e.lots (stages_of e) done in
        sound_in (in_phase_of Declared e) contested so_far.settled (and_from _ _ (eq-eqb _ _ so_far.stages) (and_from _ _ so_far.lots last))

-- ---- a lot

-- an element that is found passes the test used for the search, and any test that all elements pass
found_both : {X : Type 0} (p q : X → Bool) (x : X) (xs : List X) → list_all q xs ≡ true → find p xs ≡ Some x → (p x ≡ true) × (q x ≡ true)
found_both p q x [] all found = absurd (cc)
found_both {X} p q x (y ∷ ys) all found = go (p y) refl (λ later. found_both p q x ys (and_parts _ _ all).1 later) found
  where
    go : (b : Bool) → p y ≡ b → (find p ys ≡ Some x → (p x ≡ true) × (q x ≡ true)) → cond b (Some y) (find p ys) ≡ Some x → (p x ≡ true) × (q x ≡ true)
    go true is later same =
        let one : y ≡ x = cc in
        (ap p (sym one) ∙ is, ap q (sym one) ∙ (and_parts _ _ all).0)
    go false is later same = later same

-- inserting a lot for another stage doesn't change which lot is found
lot_elsewhere : (l : LotEntry) (k : ℕ) → (l.stage == k) ≡ false → (ls : List LotEntry)
    → find (λ (lot : ℕ × ℕ). lot.0 == k) (map lot_pair (put lot_cmp l ls)) ≡ find (λ (lot : ℕ × ℕ). lot.0 == k) (map lot_pair ls)
lot_elsewhere l k other [] = rw other refl
lot_elsewhere l k other (x ∷ ls) =
    elim (is_lt (lot_cmp l x)) as (λ b. find (λ (lot : ℕ × ℕ). lot.0 == k) (map lot_pair (cond b (l ∷ x ∷ ls) (x ∷ put lot_cmp l ls))) ≡ find (λ (lot : ℕ × ℕ). lot.0 == k) (map lot_pair (x ∷ ls))) [
      | true ↦ rw other refl
      | false ↦ ap (λ (o : Option (ℕ × ℕ)). cond (x.stage == k) (Some (lot_pair x)) o) (lot_elsewhere l k other ls)
    ]

-- if no lot is found for a stage, no lot has the key of one for that stage
pub lot_is_new : (l : LotEntry) (ls : List LotEntry) → find (λ (lot : ℕ × ℕ). lot.0 == l.stage) (map lot_pair ls) ≡ None → entry_at (lot_cmp l) ls ≡ None
lot_is_new l [] none = refl
lot_is_new l (x ∷ ls) none = go (x.stage == l.stage) refl (lot_is_new l ls) none
  where
    other : (x.stage == l.stage) ≡ false → (b : Bool) → is_eq (lot_cmp l x) ≡ b → is_eq (lot_cmp l x) ≡ false
    other apart false is = is
    other apart true is =
        let same = same_number l.stage x.stage (both_equal (nat_cmp l.ward x.ward) (nat_cmp l.stage x.stage) is).1 in
        absurd (both_ways (x.stage == l.stage) apart (eq-eqb x.stage l.stage (sym same)))

    go : (b : Bool) → (x.stage == l.stage) ≡ b → (find (λ (lot : ℕ × ℕ). lot.0 == l.stage) (map lot_pair ls) ≡ None → entry_at (lot_cmp l) ls ≡ None)
        → cond b (Some (lot_pair x)) (find (λ (lot : ℕ × ℕ). lot.0 == l.stage) (map lot_pair ls)) ≡ None → entry_at (lot_cmp l) (x ∷ ls) ≡ None
    go true is later found = absurd (cc)
    go false apart later found = rw (other apart (is_eq (lot_cmp l x)) refl) (later found)

module _ (e : ElectionEntry) (ls : List LotEntry) (l : LotEntry) (kind : TiedFor) (tied : List ℕ) (lots : e.lots ≡ map lot_pair ls) (phased : e.ward.phase ≡ Sealed)
    (due : due_of e ≡ Lot l.stage kind tied) (sound : is_sound e ≡ true) where
  is_held : IsHeld e (Lot l.stage kind tied)
  is_held = held e (Lot l.stage kind tied) due refl

  so_far : IsRightSoFar e
  so_far = let h = is_held in right_in e (in_count e phased h.contested) sound

  waited : IsWaitedFor (contest_of e) e.lots (stages_of e) l.stage kind tied
  waited = let h = is_held in waited_for (contest_of e) e.lots (stages_of e) l.stage kind tied h.is

  -- the lot is for the stage that follows the completed ones
  next_stage : l.stage ≡ e.ward.done + 1
  next_stage = let w = waited in let r = so_far in stage-due (contest_of e) (stages_of e) l.stage kind tied w.due ∙ ap (λ n. n + 1) r.stages

  -- no lot has been recorded for that stage
  none_yet : (o : Option (ℕ × ℕ)) → find (λ (lot : ℕ × ℕ). lot.0 == l.stage) e.lots ≡ o → find (λ (lot : ℕ × ℕ). lot.0 == l.stage) e.lots ≡ None
  none_yet None is = is
  none_yet (Some lot) is =
      let w = waited in
      let r = so_far in
      let both = found_both (λ (x : ℕ × ℕ). x.0 == l.stage) (is_drawn_for e) lot e.lots r.lots is in
      let stage : lot.0 ≡ l.stage = eqb-true lot.0 l.stage both.0 in
      let place : l.stage ≡ length (stages_of e) + 1 = stage-due (contest_of e) (stages_of e) l.stage kind tied w.due in
      let before : lot.0 - 1 ≡ e.ward.done = let n = next_stage in omega (arith, stage, n) in
      let was : is_tied (due_after (contest_of e) (stages_of e)) lot.1 ≡ true =
      ap (λ (k : ℕ). is_tied (due_after (contest_of e) (stages_to (contest_of e) e.lots k)) lot.1) (sym before) ∙ (and_parts (nat_le lot.0 (e.ward.done + 1)) _ both.1).1
      in
      let named : lot_for e.lots (length (stages_of e) + 1) ≡ Some lot.1 = ap (lot_for e.lots) (sym place) ∙ ap (option_map (λ (x : ℕ × ℕ). x.1)) is in
      absurd (both_ways (is_tied (due_after (contest_of e) (stages_of e)) lot.1) (w.undrawn lot.1 named) was)

  pub lot_new : entry_at (lot_cmp l) ls ≡ None
  lot_new = lot_is_new l ls (ap (find (λ (lot : ℕ × ℕ). lot.0 == l.stage)) (sym lots) ∙ none_yet (find (λ (lot : ℕ × ℕ). lot.0 == l.stage) e.lots) refl)

  abbrev drawn_lots : List (ℕ × ℕ)
  drawn_lots = map lot_pair (put lot_cmp l ls)

  agree : (k : ℕ) → (l.stage == k) ≡ false → lot_for drawn_lots k ≡ lot_for e.lots k
  agree k other = ap (option_map (λ (x : ℕ × ℕ). x.1)) (lot_elsewhere l k other ls) ∙ ap (λ (ms : List (ℕ × ℕ)). lot_for ms k) (sym lots)

  -- the stages before the one that needs the lot are unchanged
  as_before : (k : ℕ) → k < l.stage → stages_to (contest_of e) drawn_lots k ≡ stages_to (contest_of e) e.lots k
  as_before k low = same_stages (contest_of e) e.lots drawn_lots l.stage agree k low

  -- the completed stages are unchanged
  pub stages_still : stages_of (with_lots (put lot_cmp l ls) e) ≡ stages_of e
  stages_still = let n = next_stage in as_before e.ward.done (omega (arith, n))

  still_drawn : (lot : ℕ × ℕ) → is_drawn_for e lot ≡ true → is_drawn_for (with_lots (put lot_cmp l ls) e) lot ≡ true
  still_drawn lot was =
      let n = next_stage in
      let parts = and_parts (nat_le lot.0 (e.ward.done + 1)) _ was in
      let low = leb-true lot.0 (e.ward.done + 1) parts.0 in
      and_from _ _ parts.0 (ap (λ (stages : History). is_tied (due_after (contest_of e) stages) lot.1) (as_before (lot.0 - 1) (omega (arith, low, n))) ∙ parts.1)

  own_drawn : list_any (nat_eq l.candidate) tied ≡ true → is_drawn_for (with_lots (put lot_cmp l ls) e) (lot_pair l) ≡ true
  own_drawn among =
      let n = next_stage in
      let w = waited in
      let before : l.stage - 1 ≡ e.ward.done = omega (arith, n) in
      let same : stages_to (contest_of e) drawn_lots (l.stage - 1) ≡ stages_of e = as_before (l.stage - 1) (omega (arith, n)) ∙ ap (stages_to (contest_of e) e.lots) before in
      let own : is_tied (due_after (contest_of e) (stages_to (contest_of e) drawn_lots (l.stage - 1))) l.candidate ≡ true =
      ap (λ (stages : History). is_tied (due_after (contest_of e) stages) l.candidate) same ∙ ap (λ (d : Due). is_tied d l.candidate) w.due ∙ among
      in
      and_from _ _ (le-leb l.stage (e.ward.done + 1) (omega (arith, n))) own

  -- recording a lot that names one of the tied candidates
  pub sound_drawn : list_any (nat_eq l.candidate) tied ≡ true → is_sound (with_lots (put lot_cmp l ls) e) ≡ true
  sound_drawn among =
      let h = is_held in
      let r = so_far in
      let n = next_stage in
      let stages : length (stages_to (contest_of e) drawn_lots e.ward.done) ≡ e.ward.done = ap (λ (s : History). length s) (as_before e.ward.done (omega (arith, n))) ∙ r.stages in
      let was : list_all (λ (x : LotEntry). is_drawn_for e (lot_pair x)) ls ≡ true = sym (list_all-map (is_drawn_for e) lot_pair ls) ∙ ap (list_all (is_drawn_for e)) (sym lots) ∙ r.lots in
      let each =
      list_all_weaker (λ (x : LotEntry). is_drawn_for e (lot_pair x)) (λ (x : LotEntry). is_drawn_for (with_lots (put lot_cmp l ls) e) (lot_pair x)) ls (λ x drawn. still_drawn (lot_pair x) drawn) was
      in
      let all : list_all (is_drawn_for (with_lots (put lot_cmp l ls) e)) drawn_lots ≡ true =
      list_all-map (is_drawn_for (with_lots (put lot_cmp l ls) e)) lot_pair (put lot_cmp l ls)
      ∙ put_all lot_cmp (λ (x : LotEntry). is_drawn_for (with_lots (put lot_cmp l ls) e) (lot_pair x)) l ls (own_drawn among) each
      in
      sound_in (with_lots (put lot_cmp l ls) e) (in_count e phased h.contested) r.settled (and_from _ _ (eq-eqb _ _ stages) (and_from _ _ all (rw phased refl)))
