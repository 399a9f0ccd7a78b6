-- Elections and their counts: what keeps a count correct up to the last completed stage.
use Rattle.std.proofs.Common.{◌≡◌, ℕ, suc, Bool, true, false, Some, cond, not, ◌&&◌, ◌||◌, ◌==◌, List, [], ◌∷◌, length, map, None, is_some, refl, ap, ◌∙◌, arith}
use Rattle.std.specs.List.{list_all}
use Rattle.std.proofs.lemmas.Bool.{and_parts, and_from, eqb-true}
use Rattle.count.specs.Law.Count.{stages_to}
use Rattle.register.specs.Offices.{WardEntry, CandidateEntry, LotEntry, OfficeState, ward_compared, ward_at, lots_of}
use Rattle.register.specs.Marks.{columns_of}
use Rattle.register.specs.Polls.{Pile, ballots_in}
use Rattle.register.specs.Elections.{ElectionEntry, lot_pair, election_of, has_count, stages_of, is_counted, is_drawn_for, is_declared, is_right_so_far, is_in_count, is_uncounted, is_agreed}
use Rattle.register.specs.Elections.{is_counted_right}
use Rattle.register.specs.StateConditions.{all_agreed, all_counted, IsState}
use Rattle.register.proofs.MapLemmas.{list_all_weaker, list_all_both, filter_none, found_passes}

-- ---- the sixth and seventh conditions, for one ward

-- an election is sound: if it is in count, its batches are settled, and its count is correct so far
abbrev pub is_sound : ElectionEntry → Bool
is_sound e = is_agreed e && is_counted_right e

-- every election of a state is sound
abbrev pub are_sound : OfficeState → Bool
are_sound s = list_all (λ w. is_sound (election_of s w)) s.wards

-- the lots of a state belong to existing wards
abbrev pub are_lots_placed : OfficeState → Bool
are_lots_placed s = list_all (λ l. is_some (ward_at s l.ward)) s.lots

pub sound_of : {s : OfficeState} → IsState s → are_sound s ≡ true
unfolding all_agreed all_counted
sound_of {s} is =
    list_all_both (λ w. is_agreed (election_of s w)) (λ w. is_counted_right (election_of s w)) (λ w. is_sound (election_of s w)) s.wards (λ w agreed right. and_from _ _ agreed right) is.agreed
    (and_parts _ _ is.counted).1

pub lots_placed_of : {s : OfficeState} → IsState s → are_lots_placed s ≡ true
unfolding all_counted
lots_placed_of {s} is = (and_parts _ _ is.counted).0

pub agreed_from : (s : OfficeState) → are_sound s ≡ true → all_agreed s ≡ true
unfolding all_agreed
agreed_from s sound = list_all_weaker (λ w. is_sound (election_of s w)) (λ w. is_agreed (election_of s w)) s.wards (λ w both. (and_parts _ _ both).0) sound

pub counted_from : (s : OfficeState) → are_lots_placed s ≡ true → are_sound s ≡ true → all_counted s ≡ true
unfolding all_counted
counted_from s placed sound = and_from _ _ placed (list_all_weaker (λ w. is_sound (election_of s w)) (λ w. is_counted_right (election_of s w)) s.wards (λ w both. (and_parts _ _ both).1) sound)

-- if there is no ward with the given number, there are no lots for it
pub no_lots_of : (s : OfficeState) (n : ℕ) → are_lots_placed s ≡ true → ward_at s n ≡ None → lots_of s n ≡ []
no_lots_of s n placed none =
    filter_none (λ (l : LotEntry). l.ward == n) s.lots (list_all_weaker (λ l. is_some (ward_at s l.ward)) (λ l. not (l.ward == n)) s.lots (λ l there. go l (l.ward == n) refl there) placed)
  where
    go : (l : LotEntry) (same : Bool) → (l.ward == n) ≡ same → is_some (ward_at s l.ward) ≡ true → not (l.ward == n) ≡ true
    go l false other there = rw other refl
    go l true same there =
        let lost : ward_at s l.ward ≡ None = ap (ward_at s) (eqb-true l.ward n same) ∙ none in
        absurd (let nowhere = rw lost at there in cc)

-- in a state, every batch of a ward in count is settled
pub settled_in_count : (s : OfficeState) (w : WardEntry) → IsState s → ward_at s w.number ≡ Some w → is_in_count (election_of s w) ≡ true → (election_of s w).ballots.settled ≡ true
unfolding all_agreed
settled_in_count s w is there counted = go (is_in_count (election_of s w)) counted (found_passes (ward_compared w.number) (λ x. is_agreed (election_of s x)) w s.wards is.agreed there)
  where
    go : (b : Bool) → b ≡ true → (not b || (election_of s w).ballots.settled) ≡ true → (election_of s w).ballots.settled ≡ true
    go true in_count settled = settled
    go false in_count settled = absurd (cc)

-- ---- an election, assembled from its parts

abbrev pub election_with : WardEntry → List CandidateEntry → List Pile → List LotEntry → ElectionEntry
election_with w candidates piles lots = record { ward = w; candidates = candidates; ballots = ballots_in (columns_of candidates) piles; lots = map lot_pair lots }

-- a ward's election changes only if its candidates, piles or lots change
pub same_election : (w : WardEntry) (cs ds : List CandidateEntry) (ps qs : List Pile) (ks ls : List LotEntry) → cs ≡ ds → ps ≡ qs → ks ≡ ls → election_with w cs ps ks ≡ election_with w ds qs ls
same_election w cs ds ps qs ks ls candidates piles lots =
    ap (λ (xs : List CandidateEntry). election_with w xs ps ks) candidates ∙ ap (λ (xs : List Pile). election_with w ds xs ks) piles ∙ ap (election_with w ds qs) lots

-- ---- before a count

-- an election that isn't in count is sound if no stage is done and no lot is recorded
pub sound_before : (e : ElectionEntry) → is_in_count e ≡ false → is_uncounted e ≡ true → is_sound e ≡ true
sound_before e before none = rw before none

pub uncounted_before : (e : ElectionEntry) → is_in_count e ≡ false → is_sound e ≡ true → is_uncounted e ≡ true
uncounted_before e before sound = go (is_in_count e) before (and_parts (is_agreed e) (is_counted_right e) sound).1
  where
    go : (b : Bool) → b ≡ false → cond b (is_right_so_far e) (is_uncounted e) ≡ true → is_uncounted e ≡ true
    go true is right = absurd (cc)
    go false is right = right

-- a ward that hasn't been sealed isn't in count
pub unsealed : (e : ElectionEntry) → is_counted e.ward.phase ≡ false → is_in_count e ≡ false
unsealed e not_yet = rw not_yet refl

-- a ward whose election isn't contested isn't in count
pub uncontested : (e : ElectionEntry) → has_count e ≡ false → is_in_count e ≡ false
uncontested e none = go (is_counted e.ward.phase)
  where
    go : (b : Bool) → (b && has_count e) ≡ false
    go true = none
    go false = refl

-- ---- in a count

-- an election in count is sound if its batches are settled and its count is correct so far
pub sound_in : (e : ElectionEntry) → is_in_count e ≡ true → e.ballots.settled ≡ true → is_right_so_far e ≡ true → is_sound e ≡ true
sound_in e counted settled right = and_from (is_agreed e) (is_counted_right e) (agreed (is_in_count e) settled) (counting (is_in_count e) counted)
  where
    agreed : (b : Bool) → e.ballots.settled ≡ true → (not b || e.ballots.settled) ≡ true
    agreed true is = is
    agreed false is = refl

    counting : (b : Bool) → b ≡ true → cond b (is_right_so_far e) (is_uncounted e) ≡ true
    counting true is = right
    counting false is = absurd (cc)

-- the three parts of `is_right_so_far`
pub record IsRightSoFar (e : ElectionEntry) : Type 0 where
  pub settled : e.ballots.settled ≡ true
  pub stages : length (stages_of e) ≡ e.ward.done
  pub lots : list_all (is_drawn_for e) e.lots ≡ true

pub right_in : (e : ElectionEntry) → is_in_count e ≡ true → is_sound e ≡ true → IsRightSoFar e
right_in e counted sound =
    let both = and_parts (is_agreed e) (is_counted_right e) sound in
    let right = go (is_in_count e) counted both.1 in
    let parts = and_parts (length (stages_of e) == e.ward.done) _ right in
    record { settled = ready (is_in_count e) counted both.0; stages = eqb-true (length (stages_of e)) e.ward.done parts.0; lots = (and_parts (list_all (is_drawn_for e) e.lots) _ parts.1).0 }
  where
    go : (b : Bool) → b ≡ true → cond b (is_right_so_far e) (is_uncounted e) ≡ true → is_right_so_far e ≡ true
    go true is right = right
    go false is right = absurd (cc)

    ready : (b : Bool) → b ≡ true → (not b || e.ballots.settled) ≡ true → e.ballots.settled ≡ true
    ready true is settled = settled
    ready false is settled = absurd (cc)

-- ---- sealing a ward

-- without any completed stages or recorded lots, the count is correct so far
pub right_at_start : (e : ElectionEntry) → is_uncounted e ≡ true → is_declared e.ward.phase ≡ false → is_right_so_far e ≡ true
unfolding stages_to
right_at_start e none open_ =
    let parts = and_parts (e.ward.done == 0) (length e.lots == 0) none in
    rw (eqb-true e.ward.done 0 parts.0) (rw (no_lots e.lots parts.1) (rw open_ refl))
  where
    no_lots : (lots : List (ℕ × ℕ)) → (length lots == 0) ≡ true → lots ≡ []
    no_lots [] is = refl
    no_lots (lot ∷ lots) is = let none = eqb-true (suc (length lots)) 0 is in absurd (omega (arith, none))
