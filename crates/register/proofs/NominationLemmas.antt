-- Changes to candidates and wards that, applied to a state, yield a state.
use Rattle.std.proofs.Common.{◌≡◌, ℕ, ◌==◌, not, Bool, true, false, cond, List, Option, Some, None, is_some, option_map, refl, sym, ap, ◌∙◌}
use Rattle.std.specs.List.{list_all}
use Rattle.std.specs.List.Sorted.{IsStrictlySortedBy}
use Rattle.std.specs.Ordering.{is_eq}
use Rattle.std.specs.Cmp.{unsigned_tied}
use Rattle.std.proofs.lemmas.Bool.{and_parts, and_from, eqb-true}
use Rattle.std.proofs.lemmas.List.Folds.{list_all-map}
use Rattle.register.specs.declared.phase.Phase.{Phase}
use Rattle.register.specs.declared.phase.Phase.TheVariants.{Nominations}
use Rattle.register.specs.Phases.{phase_number}
use Rattle.register.specs.Offices.{changed, WardEntry, CandidateEntry, BatchEntry, OfficeState, ward_cmp, candidate_cmp, ward_compared, candidate_compared, ward_at, candidate_at, candidates_of}
use Rattle.register.specs.Elections.{election_of, is_counted}
use Rattle.register.specs.BatchConditions.{is_polled, is_given_out}
use Rattle.register.specs.StateConditions.{is_ward, is_candidate, IsState}
use Rattle.register.specs.Effects.{candidate_added, candidate_withdrawn, in_phase, at_stage, with_effect}
use Rattle.register.proofs.MapLemmas.{Keeps, list_all_weaker, put_all, put_is_map, without_all, without_is_map, changed_is_map, changed_at, found_changed, found_key, all_but_number}
use Rattle.register.proofs.KeyedLemmas.{with_nominations, IsStill, given_out_still, keyed_still, judged_still}
use Rattle.register.proofs.ElectionLemmas.{is_sound, are_sound, sound_of, lots_placed_of}
use Rattle.register.proofs.ElsewhereLemmas.{IsBeforeCount, candidates_elsewhere, sound_kept}
use Rattle.register.proofs.ObjectionLemmas.{IsThere}
use Rattle.register.proofs.ItemLemmas.{MapName, ward_map, candidate_map, Holds, maps_of, AreJoined, state_from, candidate_total, are_placed, are_all, has_enough}

-- every ward has a property if the ward with the given number has it and every other ward does
wards_but_one : (s : OfficeState) (n : ℕ) (w : WardEntry) (p q : WardEntry → Bool) → IsStrictlySortedBy ward_cmp s.wards → ward_at s n ≡ Some w → (n ≡ w.number → q w ≡ true)
    → ((x : WardEntry) → (n == x.number) ≡ false → p x ≡ true → q x ≡ true) → list_all p s.wards ≡ true → list_all q s.wards ≡ true
wards_but_one s n w p q up found good others all = all_but_number (λ (x : WardEntry). x.number) s.wards n w p q up found good others all

-- ---- other candidates in the same ward

-- the state with its candidates replaced
abbrev with_candidates : List CandidateEntry → OfficeState → OfficeState
with_candidates later s = record s { candidates = later }

module _ (s : OfficeState) (n : ℕ) (w : WardEntry) (later : List CandidateEntry) (found : ward_at s n ≡ Some w) (nominations : w.phase ≡ Nominations)
    (others : (m : ℕ) → (n == m) ≡ false → candidates_of (with_candidates later s) m ≡ candidates_of s m) where
  -- every ward still passes a test if this ward does
  still : (test : WardEntry → List CandidateEntry → Bool) → IsStrictlySortedBy ward_cmp s.wards → test w (candidates_of (with_candidates later s) w.number) ≡ true → are_all test s ≡ true
      → are_all test (with_candidates later s) ≡ true
  still test up good all =
      wards_but_one s n w (λ x. test x (candidates_of s x.number)) (λ x. test x (candidates_of (with_candidates later s) x.number)) up found (λ same. good)
      (λ x other holds. ap (test x) (others x.number other) ∙ holds) all

  -- if the ward is in nominations, every ward still has enough candidates
  enough_still : IsState s → are_all has_enough (with_candidates later s) ≡ true
  enough_still is = still has_enough is.rise.wards (rw nominations refl) (and_parts (are_placed s) (are_all has_enough s) is.nominated).1

  -- no batch of this ward is given out, so the candidates of every batch's ward are unchanged
  elsewhere : (b : BatchEntry) → (same : Bool) → (n == b.ward) ≡ same → is_polled (ward_at s b.ward) (candidates_of s b.ward) ≡ true → (n == b.ward) ≡ false
  elsewhere b false is polled = is
  elsewhere b true is polled =
      let there : ward_at s b.ward ≡ Some w = ap (ward_at s) (sym (eqb-true n b.ward is)) ∙ found in
      absurd (let none = rw (there, nominations) at polled in cc)

  past : (b : BatchEntry) → is_given_out s b ≡ true → IsStill s (with_nominations s.wards later s) b
  past b out =
      let parts = and_parts (not (b.first_clerk == b.second_clerk)) (is_polled (ward_at s b.ward) (candidates_of s b.ward)) out in
      let same = others b.ward (elsewhere b (n == b.ward) refl parts.1) in
      record { given_out = and_from _ _ parts.0 (ap (is_polled (ward_at s b.ward)) same ∙ parts.1); candidates = same }

  joined : IsState s → are_placed (with_candidates later s) ≡ true → are_sound (with_candidates later s) ≡ true → AreJoined (with_candidates later s)
  joined is placed sound = record {
    nominated = and_from _ _ placed (enough_still is);
    given_out = given_out_still s s.wards later is past;
    keyed = keyed_still s s.wards later is past;
    judged = judged_still s s.wards later is past;
    lots_placed = lots_placed_of is;
    sound = sound;
  }

-- in a ward in nominations, adding or removing a candidate doesn't affect any count
pub added_before : (s : OfficeState) (c : CandidateEntry) → IsThere Nominations (ward_at s c.ward) → IsBeforeCount s (candidate_added c)
added_before s c own = record { number = c.ward; ward = own.ward; found = own.is; not_sealed = ap is_counted own.phased; own = refl; wards = refl; lots = refl }

pub withdrawn_before : (s : OfficeState) (n candidate : ℕ) → IsThere Nominations (ward_at s n) → IsBeforeCount s (candidate_withdrawn n candidate)
withdrawn_before s n candidate own = record { number = n; ward = own.ward; found = own.is; not_sealed = ap is_counted own.phased; own = refl; wards = refl; lots = refl }

-- adding a candidate in a ward in nominations yields a state if the candidate's number is new and the
-- candidate is in range
pub candidate_stays : (s : OfficeState) (c : CandidateEntry) → is_candidate c ≡ true → candidate_at s c.ward c.number ≡ None → IsThere Nominations (ward_at s c.ward) → IsState s
    → IsState (with_effect (candidate_added c) s)
candidate_stays s c good new own is =
    let effect = candidate_added c in
    let belongs : is_some (ward_at s c.ward) ≡ true = rw own.is refl in
    let placed = put_all candidate_cmp (λ d. is_some (ward_at s d.ward)) c s.candidates belongs (and_parts (are_placed s) (are_all has_enough s) is.nominated).0 in
    let sound = sound_kept s effect is (added_before s c own) in
    state_from (with_effect effect s) maps (joined s c.ward own.ward (with_effect effect s).candidates own.is own.phased (candidates_elsewhere s effect c.ward refl) is placed sound)
  where
    maps : (m : MapName) → Holds m (with_effect (candidate_added c) s)
    maps candidate_map = put_is_map candidate_total c s.candidates good new (maps_of is candidate_map)
    maps m = maps_of is m

-- removing a candidate from a ward in nominations yields a state
pub withdrawn_stays : (s : OfficeState) (n candidate : ℕ) → IsThere Nominations (ward_at s n) → IsState s → IsState (with_effect (candidate_withdrawn n candidate) s)
withdrawn_stays s n candidate own is =
    let effect = candidate_withdrawn n candidate in
    let placed = without_all (candidate_compared n candidate) (λ d. is_some (ward_at s d.ward)) s.candidates (and_parts (are_placed s) (are_all has_enough s) is.nominated).0 in
    let sound = sound_kept s effect is (withdrawn_before s n candidate own) in
    state_from (with_effect effect s) maps (joined s n own.ward (with_effect effect s).candidates own.is own.phased (candidates_elsewhere s effect n refl) is placed sound)
  where
    maps : (m : MapName) → Holds m (with_effect (candidate_withdrawn n candidate) s)
    maps candidate_map = without_is_map (candidate_compared n candidate) s.candidates (maps_of is candidate_map)
    maps m = maps_of is m

-- ---- changing the ward with the given number

-- a change that preserves every ward's number and keeps a polled ward polled
pub record KeepsWards (change : WardEntry → WardEntry) : Type 0 where
  pub map : Keeps is_ward ward_cmp change
  pub compared : (m : ℕ) (x : WardEntry) → ward_compared m (change x) ≡ ward_compared m x
  pub polled : (x : WardEntry) (cs : List CandidateEntry) → is_polled (Some x) cs ≡ true → is_polled (Some (change x)) cs ≡ true

-- moving to any phase past nominations is such a change, and so is setting any number of completed stages
pub moved : (phase : Phase) → (phase_number phase == phase_number Nominations) ≡ false → KeepsWards (in_phase phase)
unfolding is_ward
moved phase beyond =
    record { map = record { passes = λ x h. h; before = λ x y. refl; behind = λ x y. refl }; compared = λ m x. refl; polled = λ x cs was. and_from _ _ (ap not beyond) (and_parts _ _ was).1 }

pub staged : (done : ℕ) → KeepsWards (at_stage done)
unfolding is_ward
staged done = record { map = record { passes = λ x h. h; before = λ x y. refl; behind = λ x y. refl }; compared = λ m x. refl; polled = λ x cs was. was }

-- the state after changing the ward with the given number
abbrev pub with_ward : ℕ → (WardEntry → WardEntry) → OfficeState → OfficeState
with_ward n change s = record s { wards = changed (ward_compared n) change s.wards }

module _ (s : OfficeState) (n : ℕ) (w : WardEntry) (change : WardEntry → WardEntry) (found : ward_at s n ≡ Some w) (keeps : KeepsWards change) where
  -- every ward still has a property if the changed ward does
  changed_still : (p : WardEntry → Bool) → IsStrictlySortedBy ward_cmp s.wards → p (change w) ≡ true → list_all p s.wards ≡ true → list_all p (changed (ward_compared n) change s.wards) ≡ true
  changed_still p up good all = list_all-map p next s.wards ∙ wards_but_one s n w p (λ x. p (next x)) up found (λ same. here) there all
    where
      next : WardEntry → WardEntry
      next x = cond (is_eq (ward_compared n x)) (change x) x

      here : p (next w) ≡ true
      here = rw (found_key (ward_compared n) w s.wards found) good

      there : (x : WardEntry) → (n == x.number) ≡ false → p x ≡ true → p (next x) ≡ true
      there x other holds = rw (unsigned_tied n x.number ∙ other) holds

  -- a ward that was polled still is
  polled_still : (m : ℕ) (cs : List CandidateEntry) → is_polled (ward_at s m) cs ≡ true → is_polled (ward_at (with_ward n change s) m) cs ≡ true
  polled_still m cs polled = rw (changed_at (ward_compared n) (ward_compared m) change (keeps.compared m) s.wards) (go (ward_at s m) polled)
    where
      next : WardEntry → WardEntry
      next x = cond (is_eq (ward_compared n x)) (change x) x

      go : (o : Option WardEntry) → is_polled o cs ≡ true → is_polled (option_map next o) cs ≡ true
      go None polled = polled
      go (Some x) polled = elim (is_eq (ward_compared n x)) as (λ b. is_polled (Some (cond b (change x) x)) cs ≡ true) [ true ↦ keeps.polled x cs polled | false ↦ polled ]

  past_change : (b : BatchEntry) → is_given_out s b ≡ true → IsStill s (with_ward n change s) b
  past_change b out =
      let parts = and_parts (not (b.first_clerk == b.second_clerk)) (is_polled (ward_at s b.ward) (candidates_of s b.ward)) out in
      record { given_out = and_from _ _ parts.0 (polled_still b.ward (candidates_of s b.ward) parts.1); candidates = refl }

  -- the change yields a state if the changed ward still has enough candidates and its election is sound
  pub changed_stays : has_enough (change w) (candidates_of s (change w).number) ≡ true → is_sound (election_of s (change w)) ≡ true → IsState s → IsState (with_ward n change s)
  changed_stays enough sound is =
      let placed = and_parts (are_placed s) (are_all has_enough s) is.nominated in
      let wards = changed (ward_compared n) change s.wards in
      state_from
      (with_ward n change s)
      maps
      (record {
        nominated = and_from _ _ (still_placed s.candidates placed.0) (changed_still (λ x. has_enough x (candidates_of s x.number)) is.rise.wards enough placed.1);
        given_out = given_out_still s wards s.candidates is past_change;
        keyed = keyed_still s wards s.candidates is past_change;
        judged = judged_still s wards s.candidates is past_change;
        lots_placed = list_all_weaker _ _ s.lots (λ l there. found_changed (ward_compared n) (ward_compared l.ward) change (keeps.compared l.ward) s.wards ∙ there) (lots_placed_of is);
        sound = changed_still (λ x. is_sound (election_of s x)) is.rise.wards sound (sound_of is);
      })
    where
      maps : (m : MapName) → Holds m (with_ward n change s)
      maps ward_map = changed_is_map (ward_compared n) change keeps.map s.wards (maps_of is ward_map)
      maps m = maps_of is m

      still_placed : (cs : List CandidateEntry) → list_all (λ c. is_some (ward_at s c.ward)) cs ≡ true → list_all (λ c. is_some (ward_at (with_ward n change s) c.ward)) cs ≡ true
      still_placed cs placed = list_all_weaker _ _ cs (λ c there. found_changed (ward_compared n) (ward_compared c.ward) change (keeps.compared c.ward) s.wards ∙ there) placed
