-- An effect changes only one batch or one ward; everything else stays the same.
use Rattle.std.proofs.Common.{◌≡◌, ℕ, Bool, true, false, cond, not, ◌&&◌, ◌||◌, ◌==◌, List, [], ◌∷◌, length, map, filter, Option, Some, refl, sym, ap, ◌∙◌}
use Rattle.std.specs.List.{list_all}
use Rattle.std.specs.Ordering.{nat_cmp, is_eq}
use Rattle.std.specs.Cmp.{unsigned_tied}
use Rattle.std.proofs.lemmas.Bool.{and_parts, or_right, not-true, both_ways, eqb-true, eq-eqb, ne_eqb}
use Rattle.register.specs.Offices.{WardEntry, CandidateEntry, BatchEntry, ThirdEntry, KeyedEntry, JudgedEntry, LotEntry, OfficeState, changed, candidate_cmp, batch_cmp, third_cmp, keyed_cmp}
use Rattle.register.specs.Offices.{judged_cmp, lot_cmp, ward_compared, candidate_compared, batch_compared, third_compared, ward_at, candidates_of, batch_at, third_at, keying_of, verdicts_of, lots_of}
use Rattle.register.specs.declared.phase.Phase.TheVariants.{Keying}
use Rattle.register.specs.Batches.{ward_for}
use Rattle.register.specs.Agreement.{batches_of, clerks, clerks_of}
use Rattle.register.specs.Polls.{Pile, pile_of, piles_of}
use Rattle.register.specs.BatchConditions.{is_given_out, are_rounds_to, is_judged}
use Rattle.register.specs.Elections.{lot_pair, election_of, is_counted}
use Rattle.register.specs.StateConditions.{IsState}
use Rattle.register.specs.Effects.{EffectEntry, ward_added, ward_moved, candidate_added, candidate_withdrawn, batch_added, batch_reopened, third_set, papers_keyed, paper_judged}
use Rattle.register.specs.Effects.{stage_counted, lot_drawn, in_round, with_effect}
use Rattle.register.proofs.MapLemmas.{list_all_weaker, filter_put, filter_put_each, filter_without, found_put_other, found_passes, same_number, both_equal, all_but_number}
use Rattle.register.proofs.ThreeKeyingsLemmas.{keyed_by, keyed_alike}
use Rattle.register.proofs.KeyedLemmas.{HasSameFile, pile_kept, rounds_kept, judged_kept}
use Rattle.register.proofs.ObjectionLemmas.{IsThere}
use Rattle.register.proofs.ElectionLemmas.{is_sound, are_sound, sound_of, same_election, sound_before, uncounted_before, unsealed}

-- ---- batches of other wards

-- a batch isn't the given one, or it belongs to another ward
abbrev pub is_elsewhere : ℕ → ℕ → BatchEntry → Bool
is_elsewhere n m x = not (n == x.number) || not (x.ward == m)

-- a batch of one ward isn't a batch of another ward
pub batches_elsewhere : (s : OfficeState) (n : ℕ) (b : BatchEntry) (m : ℕ) → IsState s → batch_at s n ≡ Some b → (b.ward == m) ≡ false → list_all (is_elsewhere n m) s.batches ≡ true
batches_elsewhere s n b m is found apart =
    all_but_number (λ (x : BatchEntry). x.number) s.batches n b (is_given_out s) (is_elsewhere n m) is.rise.batches found (λ same. or_right (not (n == b.number)) _ (ap not apart))
    (λ x other out. rw other refl) (and_parts _ _ is.given_out).0

-- if the pile of every batch but one is unchanged, and that one belongs to another ward, the piles of this ward's
-- batches are unchanged
pub piles_elsewhere : (s t : OfficeState) (n m : ℕ) (bs : List BatchEntry) → ((x : BatchEntry) → (n == x.number) ≡ false → pile_of t x ≡ pile_of s x) → list_all (is_elsewhere n m) bs ≡ true
    → map (pile_of t) (filter (λ (x : BatchEntry). x.ward == m) bs) ≡ map (pile_of s) (filter (λ (x : BatchEntry). x.ward == m) bs)
piles_elsewhere s t n m [] same all = refl
piles_elsewhere s t n m (x ∷ bs) same all =
    let parts = and_parts (is_elsewhere n m x) (list_all (is_elsewhere n m) bs) all in
    go (x.ward == m) parts.0 (piles_elsewhere s t n m bs same parts.1)
  where
    other : (b : Bool) → (not b || false) ≡ true → b ≡ false
    other true is = absurd (cc)
    other false is = refl

    go : (b : Bool) → (not (n == x.number) || not b) ≡ true → map (pile_of t) (filter (λ (y : BatchEntry). y.ward == m) bs) ≡ map (pile_of s) (filter (λ (y : BatchEntry). y.ward == m) bs)
        → map (pile_of t) (cond b (x ∷ filter (λ (y : BatchEntry). y.ward == m) bs) (filter (λ (y : BatchEntry). y.ward == m) bs))
        ≡ map (pile_of s) (cond b (x ∷ filter (λ (y : BatchEntry). y.ward == m) bs) (filter (λ (y : BatchEntry). y.ward == m) bs))
    go false away later = later
    go true away later = ap (λ (p : Pile). p ∷ map (pile_of t) (filter (λ (y : BatchEntry). y.ward == m) bs)) (same x (other (n == x.number) away)) ∙ ap (λ (ps : List Pile). pile_of s x ∷ ps) later

-- changing a batch in another ward leaves the batches of this ward unchanged
pub changed_elsewhere : (n m : ℕ) (change : BatchEntry → BatchEntry) → ((x : BatchEntry) → (change x).ward ≡ x.ward) → (bs : List BatchEntry) → list_all (is_elsewhere n m) bs ≡ true
    → filter (λ (x : BatchEntry). x.ward == m) (changed (batch_compared n) change bs) ≡ filter (λ (x : BatchEntry). x.ward == m) bs
changed_elsewhere n m change ward [] all = refl
changed_elsewhere n m change ward (x ∷ bs) all =
    let parts = and_parts (is_elsewhere n m x) (list_all (is_elsewhere n m) bs) all in
    go (n == x.number) refl parts.0 (changed_elsewhere n m change ward bs parts.1)
  where
    go : (b : Bool) → (n == x.number) ≡ b → (not b || not (x.ward == m)) ≡ true
        → filter (λ (y : BatchEntry). y.ward == m) (changed (batch_compared n) change bs) ≡ filter (λ (y : BatchEntry). y.ward == m) bs
        → filter (λ (y : BatchEntry). y.ward == m) (changed (batch_compared n) change (x ∷ bs)) ≡ filter (λ (y : BatchEntry). y.ward == m) (x ∷ bs)
    go false other away later = rw (unsigned_tied n x.number ∙ other) (ap (λ (ys : List BatchEntry). cond (x.ward == m) (x ∷ ys) ys) later)
    go true same away later =
        let apart : (x.ward == m) ≡ false = not-true (x.ward == m) away in
        let moved : ((change x).ward == m) ≡ false = ap (λ (k : ℕ). k == m) (ward x) ∙ apart in
        rw (unsigned_tied n x.number ∙ same) (rw (moved, apart) later)

-- ---- the batch or ward that an effect concerns

-- an effect concerns the given batch: it changes only the batch's file or entry
abbrev pub IsOfBatch : ℕ → EffectEntry → Type 0
IsOfBatch n (batch_added b) = b.number ≡ n
IsOfBatch n (batch_reopened batch round) = batch ≡ n
IsOfBatch n (third_set t) = t.batch ≡ n
IsOfBatch n (papers_keyed papers) = list_all (λ k. k.batch == n) papers ≡ true
IsOfBatch n (paper_judged v) = v.batch ≡ n
IsOfBatch n effect = ⊥

-- an effect concerns an existing batch of the given ward
pub record IsInWard (s : OfficeState) (ward : ℕ) (effect : EffectEntry) : Type 0 where
  pub batch : BatchEntry
  pub number : ℕ
  pub found : batch_at s number ≡ Some batch
  pub of_batch : IsOfBatch number effect
  pub its_ward : batch.ward ≡ ward

-- an effect concerns the given ward: it changes only this ward or one of its batches
abbrev pub IsOfWard : OfficeState → ℕ → EffectEntry → Type 0
IsOfWard s n (ward_added w) = w.number ≡ n
IsOfWard s n (ward_moved ward phase) = ward ≡ n
IsOfWard s n (candidate_added c) = c.ward ≡ n
IsOfWard s n (candidate_withdrawn ward candidate) = ward ≡ n
IsOfWard s n (batch_added b) = b.ward ≡ n
IsOfWard s n (stage_counted ward done) = ward ≡ n
IsOfWard s n (lot_drawn l) = l.ward ≡ n
IsOfWard s n effect = IsInWard s n effect

-- ---- everything else stays the same

-- an effect concerning a batch leaves the file of every other batch unchanged
pub file_elsewhere : (s : OfficeState) (effect : EffectEntry) (n : ℕ) → IsOfBatch n effect → (b : BatchEntry) → (n == b.number) ≡ false → HasSameFile s (with_effect effect s) b
file_elsewhere s (batch_added c) n of b other = record { candidates = refl; keyings = λ round. refl; verdicts = refl }
file_elsewhere s (batch_reopened batch round) n of b other = record { candidates = refl; keyings = λ round. refl; verdicts = refl }
file_elsewhere s (third_set t) n of b other = record { candidates = refl; keyings = λ round. ap (λ (o : Option ThirdEntry). keyed_by (keying_of s b.number round) (clerks b o)) third; verdicts = refl }
  where
    third : third_at (with_effect (third_set t) s) b.number ≡ third_at s b.number
    third =
        found_put_other third_cmp (third_compared b.number) t s.thirds
        (unsigned_tied b.number t.batch ∙ ne_eqb b.number t.batch (λ same. both_ways (n == b.number) other (eq-eqb n b.number (sym (same ∙ of)))))
file_elsewhere s (papers_keyed papers) n of b other =
    record {
      candidates = refl;
      keyings = λ round. keyed_alike (keying_of (with_effect (papers_keyed papers) s) b.number round) (keying_of s b.number round) (clerks_of s b)
          (keying round);
      verdicts = refl;
    }
  where
    none : (round clerk : ℕ) (k : KeyedEntry) → (k.batch == n) ≡ true → not ((k.batch == b.number) && ((k.round == round) && (k.clerk == clerk))) ≡ true
    none round clerk k its = let away : (k.batch == b.number) ≡ false = ap (λ (m : ℕ). m == b.number) (eqb-true k.batch n its) ∙ other in rw away refl

    keying : (round clerk : ℕ) → keying_of (with_effect (papers_keyed papers) s) b.number round clerk ≡ keying_of s b.number round clerk
    keying round clerk =
        filter_put_each keyed_cmp (λ (k : KeyedEntry). (k.batch == b.number) && ((k.round == round) && (k.clerk == clerk))) papers s.keyings (list_all_weaker _ _ papers (none round clerk) of)
file_elsewhere s (paper_judged v) n of b other =
    record { candidates = refl; keyings = λ round. refl; verdicts = filter_put judged_cmp (λ (x : JudgedEntry). x.batch == b.number) v s.verdicts (ap (λ (m : ℕ). m == b.number) of ∙ other) }
file_elsewhere s effect n of b other = absurd of

module _ (s : OfficeState) (effect : EffectEntry) (n : ℕ) (b : BatchEntry) (is : IsState s) (found : batch_at s n ≡ Some b) (of : IsOfBatch n effect) where
  -- if the effect keeps the rounds of its own batch valid, the rounds of all batches remain valid
  pub rounds_elsewhere : (are_rounds_to s b b.round ≡ true → are_rounds_to (with_effect effect s) b b.round ≡ true) → list_all (λ x. are_rounds_to (with_effect effect s) x x.round) s.batches ≡ true
  rounds_elsewhere own =
      let test : BatchEntry → Bool = λ x. are_rounds_to s x x.round in
      let was : list_all test s.batches ≡ true = (and_parts _ _ is.keyed).1 in
      all_but_number (λ (x : BatchEntry). x.number) s.batches n b test (λ x. are_rounds_to (with_effect effect s) x x.round) is.rise.batches found
      (λ same. own (found_passes (batch_compared n) test b s.batches was found))
      (λ x other. rounds_kept s (with_effect effect s) x (file_elsewhere s effect n of x other)) was

  -- if the effect keeps the verdicts on its own batch valid, the verdicts on all batches remain valid
  pub judged_elsewhere : (is_judged s b (verdicts_of s b.number) ≡ true → is_judged (with_effect effect s) b (verdicts_of (with_effect effect s) b.number) ≡ true)
      → list_all (λ x. is_judged (with_effect effect s) x (verdicts_of (with_effect effect s) x.number)) s.batches ≡ true
  judged_elsewhere own =
      let test : BatchEntry → Bool = λ x. is_judged s x (verdicts_of s x.number) in
      let was : list_all test s.batches ≡ true = (and_parts _ _ is.judged).1 in
      all_but_number (λ (x : BatchEntry). x.number) s.batches n b test (λ x. is_judged (with_effect effect s) x (verdicts_of (with_effect effect s) x.number)) is.rise.batches found
      (λ same. own (found_passes (batch_compared n) test b s.batches was found)) (λ x other. judged_kept s (with_effect effect s) x (file_elsewhere s effect n of x other)) was

-- an effect concerning a ward leaves the candidates of every other ward unchanged
pub candidates_elsewhere : (s : OfficeState) (effect : EffectEntry) (n : ℕ) → IsOfWard s n effect → (m : ℕ) → (n == m) ≡ false → candidates_of (with_effect effect s) m ≡ candidates_of s m
candidates_elsewhere s (candidate_added c) n of m other = filter_put candidate_cmp (λ (d : CandidateEntry). d.ward == m) c s.candidates (ap (λ (k : ℕ). k == m) of ∙ other)
candidates_elsewhere s (candidate_withdrawn ward candidate) n of m other = filter_without (candidate_compared ward candidate) (λ (d : CandidateEntry). d.ward == m) s.candidates apart
  where
    apart : (d : CandidateEntry) → is_eq (candidate_compared ward candidate d) ≡ true → (d.ward == m) ≡ false
    apart d tied = let same = same_number ward d.ward (both_equal (nat_cmp ward d.ward) (nat_cmp candidate d.number) tied).0 in ap (λ (k : ℕ). k == m) (sym same ∙ of) ∙ other
candidates_elsewhere s effect n of m other = refl

-- an election is unchanged if its candidates, piles and lots are
election_kept : (s t : OfficeState) (x : WardEntry) → candidates_of t x.number ≡ candidates_of s x.number → piles_of t x.number ≡ piles_of s x.number → lots_of t x.number ≡ lots_of s x.number
    → election_of t x ≡ election_of s x
election_kept s t x candidates piles lots =
    same_election x (candidates_of t x.number) (candidates_of s x.number) (piles_of t x.number) (piles_of s x.number) (lots_of t x.number) (lots_of s x.number) candidates piles lots

module _ (s : OfficeState) (n : ℕ) (is : IsState s) (x : WardEntry) (other : (n == x.number) ≡ false) where
  -- an entry with this ward's number doesn't have the other ward's number
  apart : (m : ℕ) → m ≡ n → (m == x.number) ≡ false
  apart m same = ap (λ (k : ℕ). k == x.number) same ∙ other

  -- if the batches are unchanged, an effect that concerns one of them leaves the piles of every other ward unchanged
  piles_kept : (effect : EffectEntry) → IsInWard s n effect → map (pile_of (with_effect effect s)) (batches_of s x.number) ≡ piles_of s x.number
  piles_kept effect own =
      piles_elsewhere s (with_effect effect s) own.number x.number s.batches (λ b away. pile_kept s (with_effect effect s) b (file_elsewhere s effect own.number own.of_batch b away))
      (batches_elsewhere s own.number own.batch x.number is own.found (apart own.batch.ward own.its_ward))

  -- an effect concerning a ward leaves the election of every other ward unchanged
  pub election_elsewhere : (effect : EffectEntry) → IsOfWard s n effect → election_of (with_effect effect s) x ≡ election_of s x
  election_elsewhere (candidate_added c) own = election_kept s (with_effect (candidate_added c) s) x (candidates_elsewhere s (candidate_added c) n own x.number other) refl refl
  election_elsewhere (candidate_withdrawn ward candidate) own =
      let effect = candidate_withdrawn ward candidate in
      election_kept s (with_effect effect s) x (candidates_elsewhere s effect n own x.number other) refl refl
  election_elsewhere (batch_added b) own =
      election_kept s (with_effect (batch_added b) s) x refl (ap (map (pile_of s)) (filter_put batch_cmp (λ (y : BatchEntry). y.ward == x.number) b s.batches (apart b.ward own))) refl
  election_elsewhere (batch_reopened batch round) own =
      let others = batches_elsewhere s batch own.batch x.number is (ap (batch_at s) own.of_batch ∙ own.found) (apart own.batch.ward own.its_ward) in
      election_kept s (with_effect (batch_reopened batch round) s) x refl (ap (map (pile_of s)) (changed_elsewhere batch x.number (in_round round) (λ y. refl) s.batches others)) refl
  election_elsewhere (third_set t) own = election_kept s (with_effect (third_set t) s) x refl (piles_kept (third_set t) own) refl
  election_elsewhere (papers_keyed papers) own = election_kept s (with_effect (papers_keyed papers) s) x refl (piles_kept (papers_keyed papers) own) refl
  election_elsewhere (paper_judged v) own = election_kept s (with_effect (paper_judged v) s) x refl (piles_kept (paper_judged v) own) refl
  election_elsewhere (lot_drawn l) own =
      election_kept s (with_effect (lot_drawn l) s) x refl refl (filter_put lot_cmp (λ (y : LotEntry). y.ward == x.number) l s.lots (apart l.ward own))
  election_elsewhere effect own = refl

-- ---- before a count

-- An effect that concerns a ward that hasn't been sealed, and leaves the wards and the lots unchanged.
pub record IsBeforeCount (s : OfficeState) (effect : EffectEntry) : Type 0 where
  pub number : ℕ
  pub ward : WardEntry
  pub found : ward_at s number ≡ Some ward
  pub not_sealed : is_counted ward.phase ≡ false
  pub own : IsOfWard s number effect
  pub wards : (with_effect effect s).wards ≡ s.wards
  pub lots : (with_effect effect s).lots ≡ s.lots

-- An effect that concerns a batch whose ward is in keying satisfies this definition if it leaves the wards and the lots
-- unchanged.
pub batch_in_keying : (s : OfficeState) (n : ℕ) (b : BatchEntry) (effect : EffectEntry) → batch_at s n ≡ Some b → IsThere Keying (ward_for s (batch_at s n)) → IsOfBatch n effect
    → (IsInWard s b.ward effect → IsOfWard s b.ward effect) → (with_effect effect s).wards ≡ s.wards → (with_effect effect s).lots ≡ s.lots → IsBeforeCount s effect
batch_in_keying s n b effect found its of own wards lots = record {
  number = b.ward;
  ward = its.ward;
  found = ap (ward_for s) (sym found) ∙ its.is;
  not_sealed = ap is_counted its.phased;
  own = own (record { batch = b; number = n; found = found; of_batch = of; its_ward = refl });
  wards = wards;
  lots = lots;
}

-- such an effect keeps every election of a state sound
pub sound_kept : (s : OfficeState) (effect : EffectEntry) → IsState s → IsBeforeCount s effect → are_sound (with_effect effect s) ≡ true
sound_kept s effect is before =
    ap (list_all (λ x. is_sound (election_of (with_effect effect s) x))) before.wards
    ∙ all_but_number (λ (x : WardEntry). x.number) s.wards before.number before.ward (λ x. is_sound (election_of s x))
    (λ x. is_sound (election_of (with_effect effect s) x)) is.rise.wards before.found (λ same. own)
    (λ x other sound. ap is_sound (election_elsewhere s before.number is x other effect before.own) ∙ sound) (sound_of is)
  where
    own : is_sound (election_of (with_effect effect s) before.ward) ≡ true
    own =
        let w = before.ward in
        let was = found_passes (ward_compared before.number) (λ x. is_sound (election_of s x)) w s.wards (sound_of is) before.found in
        let none = uncounted_before (election_of s w) (unsealed (election_of s w) before.not_sealed) was in
        sound_before (election_of (with_effect effect s) w) (unsealed (election_of (with_effect effect s) w) before.not_sealed)
        (ap (λ (ls : List LotEntry). (w.done == 0) && (length (map lot_pair (filter (λ (l : LotEntry). l.ward == w.number) ls)) == 0)) before.lots ∙ none)
