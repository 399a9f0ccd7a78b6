-- What can be inserted into the maps of a state such that the result is a state.
use Rattle.std.proofs.Common.{◌≡◌, ℕ, Bool, true, false, not, ◌&&◌, ◌||◌, ◌==◌, List, Option, Some, None, is_some, refl}
use Rattle.std.specs.Str.{is_utf8}
use Rattle.std.specs.List.{list_all}
use Rattle.std.specs.Cmp.{IsTotalOrder}
use Rattle.std.proofs.lemmas.Bool.{and_parts, and_from}
use Rattle.std.proofs.lemmas.Cmp.{nat_cmp_total, on_total, then_total, nat_list_cmp_total}
use Rattle.register.specs.Ranges.{is_office, is_clerk, is_reply}
use Rattle.register.specs.Subjects.{is_office_subject, is_clerk_subject}
use Rattle.register.specs.declared.phase.Phase.TheVariants.{Nominations}
use Rattle.register.specs.Nominations.{are_enough}
use Rattle.register.specs.Offices.{put, WardEntry, CandidateEntry, BatchEntry, ThirdEntry, KeyedEntry, JudgedEntry, LotEntry, ReceiptEntry, OfficeState, ward_cmp, candidate_cmp, batch_cmp}
use Rattle.register.specs.Offices.{third_cmp, keyed_cmp, judged_cmp, lot_cmp, receipt_cmp, ward_compared, ward_at, candidates_of, receipt_at}
use Rattle.register.specs.BatchConditions.{is_polled, is_given_out, is_round_of, are_rounds_to}
use Rattle.register.specs.StateConditions.{is_ward, is_candidate, is_batch, is_third, is_keyed_paper, is_judged_paper, is_lot}
use Rattle.register.specs.StateConditions.{is_about, is_receipt, all_nominated, all_given_out, all_keyed, all_judged, IsState}
use Rattle.register.specs.Elections.{election_of, is_uncounted}
use Rattle.register.specs.Effects.{EffectEntry, ward_added, with_effect, with_receipt}
use Rattle.register.proofs.MapLemmas.{IsMap, list_all_weaker, put_all, put_is_map, found_put_too, found_put_still}
use Rattle.register.proofs.ElectionLemmas.{is_sound, are_sound, are_lots_placed, sound_of, lots_placed_of, agreed_from, counted_from, no_lots_of, sound_before, unsealed}
use Rattle.register.proofs.KeyedLemmas.{rounds_from, with_nominations, IsStill, given_out_still, keyed_still, judged_still}
use Rattle.register.proofs.TabulationLemmas.{KeepsTabulation}

pub ward_total : IsTotalOrder ward_cmp
ward_total = on_total (λ (w : WardEntry). w.number) nat_cmp_total

pub candidate_total : IsTotalOrder candidate_cmp
candidate_total = then_total (on_total (λ (c : CandidateEntry). c.ward) nat_cmp_total) (on_total (λ (c : CandidateEntry). c.number) nat_cmp_total)

pub batch_total : IsTotalOrder batch_cmp
batch_total = on_total (λ (b : BatchEntry). b.number) nat_cmp_total

pub third_total : IsTotalOrder third_cmp
third_total = on_total (λ (t : ThirdEntry). t.batch) nat_cmp_total

pub keyed_total : IsTotalOrder keyed_cmp
keyed_total =
    then_total
    (on_total (λ (k : KeyedEntry). k.batch) nat_cmp_total)
    (then_total (on_total (λ (k : KeyedEntry). k.round) nat_cmp_total) (then_total (on_total (λ (k : KeyedEntry). k.clerk) nat_cmp_total) (on_total (λ (k : KeyedEntry). k.paper) nat_cmp_total)))

pub judged_total : IsTotalOrder judged_cmp
judged_total = then_total (on_total (λ (v : JudgedEntry). v.batch) nat_cmp_total) (on_total (λ (v : JudgedEntry). v.paper) nat_cmp_total)

pub lot_total : IsTotalOrder lot_cmp
lot_total = then_total (on_total (λ (l : LotEntry). l.ward) nat_cmp_total) (on_total (λ (l : LotEntry). l.stage) nat_cmp_total)

pub receipt_total : IsTotalOrder receipt_cmp
receipt_total = then_total (on_total (λ (r : ReceiptEntry). r.actor) nat_cmp_total) (on_total (λ (r : ReceiptEntry). r.id) nat_list_cmp_total)

-- the maps of an office, by name
pub data MapName : Type 0 where
  ward_map : MapName
  candidate_map : MapName
  batch_map : MapName
  third_map : MapName
  keyed_map : MapName
  judged_map : MapName
  lot_map : MapName
  receipt_map : MapName

-- the condition that a state must meet for each of its maps
abbrev pub Holds : MapName → OfficeState → Type 0
Holds ward_map s = IsMap is_ward ward_cmp s.wards
Holds candidate_map s = IsMap is_candidate candidate_cmp s.candidates
Holds batch_map s = IsMap is_batch batch_cmp s.batches
Holds third_map s = IsMap is_third third_cmp s.thirds
Holds keyed_map s = IsMap is_keyed_paper keyed_cmp s.keyings
Holds judged_map s = IsMap is_judged_paper judged_cmp s.verdicts
Holds lot_map s = IsMap is_lot lot_cmp s.lots
Holds receipt_map s = IsMap is_receipt receipt_cmp s.receipts

pub maps_of : {s : OfficeState} → IsState s → (m : MapName) → Holds m s
maps_of {s} is m =
    let wards = and_parts _ _ is.in_range in
    let candidates = and_parts _ _ wards.1 in
    let batches = and_parts _ _ candidates.1 in
    let thirds = and_parts _ _ batches.1 in
    let keyings = and_parts _ _ thirds.1 in
    let verdicts = and_parts _ _ keyings.1 in
    let lots_and_receipts = and_parts _ _ verdicts.1 in
    go wards.0 candidates.0 batches.0 thirds.0 keyings.0 verdicts.0 lots_and_receipts.0 lots_and_receipts.1 m
  where
    go : list_all is_ward s.wards ≡ true → list_all is_candidate s.candidates ≡ true → list_all is_batch s.batches ≡ true → list_all is_third s.thirds ≡ true
        → list_all is_keyed_paper s.keyings ≡ true → list_all is_judged_paper s.verdicts ≡ true → list_all is_lot s.lots ≡ true → list_all is_receipt s.receipts ≡ true → (m : MapName) → Holds m s
    go wards candidates batches thirds keyings verdicts lots receipts ward_map = record { in_range = wards; rises = is.rise.wards }
    go wards candidates batches thirds keyings verdicts lots receipts candidate_map = record { in_range = candidates; rises = is.rise.candidates }
    go wards candidates batches thirds keyings verdicts lots receipts batch_map = record { in_range = batches; rises = is.rise.batches }
    go wards candidates batches thirds keyings verdicts lots receipts third_map = record { in_range = thirds; rises = is.rise.thirds }
    go wards candidates batches thirds keyings verdicts lots receipts keyed_map = record { in_range = keyings; rises = is.rise.keyings }
    go wards candidates batches thirds keyings verdicts lots receipts judged_map = record { in_range = verdicts; rises = is.rise.verdicts }
    go wards candidates batches thirds keyings verdicts lots receipts lot_map = record { in_range = lots; rises = is.rise.lots }
    go wards candidates batches thirds keyings verdicts lots receipts receipt_map = record { in_range = receipts; rises = is.rise.receipts }

-- the conditions of a state that involve several maps
pub record AreJoined (s : OfficeState) : Type 0 where
  pub nominated : all_nominated s ≡ true
  pub given_out : all_given_out s ≡ true
  pub keyed : all_keyed s ≡ true
  pub judged : all_judged s ≡ true
  pub lots_placed : are_lots_placed s ≡ true
  pub sound : are_sound s ≡ true

pub state_from : (s : OfficeState) → ((m : MapName) → Holds m s) → AreJoined s → IsState s
state_from s maps joined = record {
  in_range =
      and_from _ _ (maps ward_map).in_range (and_from _ _ (maps candidate_map).in_range
      (and_from _ _ (maps batch_map).in_range (and_from _ _ (maps third_map).in_range
      (and_from _ _ (maps keyed_map).in_range (and_from _ _ (maps judged_map).in_range (and_from _ _ (maps lot_map).in_range (maps receipt_map).in_range))))));
  nominated = joined.nominated;
  given_out = joined.given_out;
  keyed = joined.keyed;
  judged = joined.judged;
  agreed = agreed_from s joined.sound;
  counted = counted_from s joined.lots_placed joined.sound;
  rise =
      record {
        wards = (maps ward_map).rises;
        candidates = (maps candidate_map).rises;
        batches = (maps batch_map).rises;
        thirds = (maps third_map).rises;
        keyings = (maps keyed_map).rises;
        verdicts = (maps judged_map).rises;
        lots = (maps lot_map).rises;
        receipts = (maps receipt_map).rises;
      };
}

-- the rounds of all batches remain valid in a state with the same batches, keyings and candidates
pub rounds_still : (s t : OfficeState) (bs : List BatchEntry) → ((b : BatchEntry) (m : ℕ) → is_round_of s b m ≡ true → is_round_of t b m ≡ true) → list_all (λ b. are_rounds_to s b b.round) bs ≡ true
    → list_all (λ b. are_rounds_to t b b.round) bs ≡ true
rounds_still s t bs each all = list_all_weaker _ _ bs (λ b rounds. rounds_from s t b b b.round (each b) rounds) all

-- ---- wards and their candidates

-- whether all candidates of a state belong to existing wards
abbrev pub are_placed : OfficeState → Bool
are_placed s = list_all (λ c. is_some (ward_at s c.ward)) s.candidates

-- every ward passes a test, given its candidates
abbrev pub are_all : (WardEntry → List CandidateEntry → Bool) → OfficeState → Bool
are_all test s = list_all (λ w. test w (candidates_of s w.number)) s.wards

-- whether a ward has the candidates that its phase requires
abbrev pub has_enough : WardEntry → List CandidateEntry → Bool
has_enough w candidates = are_enough w.phase w candidates

-- adding a ward yields a state if its number is new, it is in range, and it is in nominations
pub ward_stays : (s : OfficeState) (w : WardEntry) → is_ward w ≡ true → w.phase ≡ Nominations → w.done ≡ 0 → ward_at s w.number ≡ None → IsState s → IsState (with_effect (ward_added w) s)
ward_stays s w good phase done new is =
    let placed = and_parts (are_placed s) (are_all has_enough s) is.nominated in
    let enough : has_enough w (candidates_of s w.number) ≡ true = rw phase refl in
    let none : is_uncounted (election_of s w) ≡ true = rw (done, no_lots_of s w.number (lots_placed_of is) new) refl in
    let sound = sound_before (election_of s w) (unsealed (election_of s w) (rw phase refl)) none in
    state_from
    (with_effect (ward_added w) s)
    maps
    (record {
      nominated = and_from _ _ (still_placed s.candidates placed.0) (put_all ward_cmp (λ x. has_enough x (candidates_of s x.number)) w s.wards enough placed.1);
      given_out = given_out_still s (put ward_cmp w s.wards) s.candidates is past;
      keyed = keyed_still s (put ward_cmp w s.wards) s.candidates is past;
      judged = judged_still s (put ward_cmp w s.wards) s.candidates is past;
      lots_placed = list_all_weaker _ _ s.lots (λ l there. found_put_too ward_cmp (ward_compared l.ward) w s.wards there) (lots_placed_of is);
      sound = put_all ward_cmp (λ x. is_sound (election_of s x)) w s.wards sound (sound_of is);
    })
  where
    maps : (m : MapName) → Holds m (with_effect (ward_added w) s)
    maps ward_map = put_is_map ward_total w s.wards good new (maps_of is ward_map)
    maps m = maps_of is m

    still_placed : (cs : List CandidateEntry) → list_all (λ c. is_some (ward_at s c.ward)) cs ≡ true → list_all (λ c. is_some (ward_at (with_effect (ward_added w) s) c.ward)) cs ≡ true
    still_placed cs placed = list_all_weaker _ _ cs (λ c there. found_put_too ward_cmp (ward_compared c.ward) w s.wards there) placed

    polled : (n : ℕ) (cs : List CandidateEntry) (o : Option WardEntry) → ward_at s n ≡ o → is_polled o cs ≡ true → is_polled (ward_at (with_effect (ward_added w) s) n) cs ≡ true
    polled n cs None found is = absurd (cc)
    polled n cs (Some x) found is = rw (found_put_still (λ (x : WardEntry). x.number) s.wards w n x new found) is

    past : (b : BatchEntry) → is_given_out s b ≡ true → IsStill s (with_nominations (put ward_cmp w s.wards) s.candidates s) b
    past b out = record {
      given_out =
          let parts = and_parts (not (b.first_clerk == b.second_clerk)) (is_polled (ward_at s b.ward) (candidates_of s b.ward)) out in
          and_from _ _ parts.0 (polled b.ward (candidates_of s b.ward) (ward_at s b.ward) refl parts.1);
      candidates = refl;
    }

-- adding a receipt yields a state if it is in range and there is no receipt for its actor and id yet
pub receipt_stays : (s : OfficeState) (r : ReceiptEntry) → is_receipt r ≡ true → receipt_at s r.actor r.id ≡ None → IsState s → IsState (with_receipt r s)
receipt_stays s r good new is =
    let parts = and_parts _ _ is.keyed in
    state_from
    (with_receipt r s)
    maps
    (record {
      nominated = is.nominated;
      given_out = is.given_out;
      keyed = and_from _ _ parts.0 (rounds_still s (with_receipt r s) s.batches (λ b m round. round) parts.1);
      judged = is.judged;
      lots_placed = lots_placed_of is;
      sound = sound_of is;
    })
  where
    maps : (m : MapName) → Holds m (with_receipt r s)
    maps receipt_map = put_is_map receipt_total r s.receipts good new (maps_of is receipt_map)
    maps m = maps_of is m

-- The result of every command to which there is no objection: an effect that yields a state, with the same tabulation unless it counts a stage, and
-- with a subject and a reply that the actor's receipt may have.
pub record IsFit (s : OfficeState) (actor : ℕ) (effect : EffectEntry) (subject reply : List ℕ) : Type 0 where
  pub state : IsState (with_effect effect s)
  pub tabulated : KeepsTabulation s effect
  pub about : is_about actor subject ≡ true
  pub text : is_utf8 subject ≡ true
  pub line : is_reply reply ≡ true

-- no effect changes the receipts
pub same_receipts : (effect : EffectEntry) (s : OfficeState) → (with_effect effect s).receipts ≡ s.receipts
same_receipts (ward_added w) s = refl
same_receipts effect s = refl

-- a subject that an office receipt may have
pub office_about : (actor : ℕ) (subject : List ℕ) → is_office actor ≡ true → is_office_subject subject ≡ true → is_about actor subject ≡ true
office_about actor subject office about = rw (office, about) refl

-- a subject that a clerk's receipt may have
pub clerk_about : (actor : ℕ) (subject : List ℕ) → is_clerk actor ≡ true → is_clerk_subject subject ≡ true → is_about actor subject ≡ true
clerk_about actor subject clerk about = rw (clerk, about) (go (is_office actor && is_office_subject subject))
  where
    go : (b : Bool) → (b || true) ≡ true
    go true = refl
    go false = refl
