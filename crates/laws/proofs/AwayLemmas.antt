-- Changes in other wards and to other batches leave the papers of a ward unchanged.
use Rattle.std.proofs.Common.{◌≡◌, ℕ, ◌+◌, Bool, true, false, cond, not, ◌&&◌, ◌||◌, ◌==◌, List, [], ◌∷◌, map, filter, Option, Some, refl, sym, ap, ◌∙◌}
use Rattle.std.specs.List.{list_all}
use Rattle.std.specs.Ordering.{nat_cmp, is_eq}
use Rattle.std.specs.Cmp.{unsigned_tied}
use Rattle.std.proofs.lemmas.Bool.{and_parts, and_from, or_right, not-true, both_ways, eqb-true, eq-eqb, ne_eqb}
use Rattle.register.specs.Offices.{BatchEntry, CandidateEntry, JudgedEntry, KeyedEntry, OfficeState, ThirdEntry, batch_at}
use Rattle.register.specs.Offices.{batch_cmp, batch_compared, candidate_cmp, candidate_compared, candidates_of, changed}
use Rattle.register.specs.Offices.{judged_cmp, keyed_cmp, keying_of, third_at, third_cmp, third_compared}
use Rattle.register.specs.BatchConditions.{is_given_out}
use Rattle.register.specs.Keyings.{papers_from}
use Rattle.register.specs.Agreement.{clerks, clerks_of, is_keyed}
use Rattle.register.specs.Polls.{Pile, pile_of, piles_of}
use Rattle.register.specs.StateConditions.{IsState}
use Rattle.register.specs.Effects.{EffectEntry, batch_added, batch_reopened, candidate_added, candidate_withdrawn, in_round, paper_judged, papers_keyed, third_set, with_effect}
use Rattle.register.proofs.KeyedLemmas.{HasSameFile, pile_kept}
use Rattle.register.proofs.MapLemmas.{all_but_number, both_equal, filter_put, filter_put_each, filter_without, found_put_other, list_all_weaker, same_number}

-- ---- the keyings of a batch

-- two lists of keyings by the same clerks are equal if each clerk's keyings are equal
keyed_alike : (f g : ℕ → List KeyedEntry) (cs : List ℕ) → ((c : ℕ) → f c ≡ g c) → filter is_keyed (map f cs) ≡ filter is_keyed (map g cs)
keyed_alike f g [] same = refl
keyed_alike f g (c ∷ cs) same =
    ap (λ (ks : List KeyedEntry). cond (is_keyed ks) (ks ∷ filter is_keyed (map f cs)) (filter is_keyed (map f cs))) (same c)
    ∙ ap (λ (others : List (List KeyedEntry)). cond (is_keyed (g c)) (g c ∷ others) others) (keyed_alike f g cs same)

-- papers from a keying of a batch belong to that batch
pub papers_of_batch : (batch round clerk paper : ℕ) (texts : List (List ℕ)) → list_all (λ (k : KeyedEntry). k.batch == batch) (papers_from batch round clerk paper texts) ≡ true
unfolding papers_from
papers_of_batch batch round clerk paper [] = refl
papers_of_batch batch round clerk paper (marks ∷ others) = and_from _ _ (eq-eqb batch batch refl) (papers_of_batch batch round clerk (paper + 1) others)

-- an effect on the given batch: a third clerk is assigned, papers are keyed, or a paper is judged
abbrev pub IsOfBatch : ℕ → EffectEntry → Type 0
IsOfBatch n (third_set t) = t.batch ≡ n
IsOfBatch n (papers_keyed papers) = list_all (λ (k : KeyedEntry). k.batch == n) papers ≡ true
IsOfBatch n (paper_judged v) = v.batch ≡ n
IsOfBatch n effect = ⊥

-- such an effect leaves the file of any other batch unchanged
file_elsewhere : (s : OfficeState) (effect : EffectEntry) (n : ℕ) → IsOfBatch n effect → (b : BatchEntry) → (n == b.number) ≡ false → HasSameFile s (with_effect effect s) b
file_elsewhere s (third_set t) n of b other = record {
  candidates = refl;
  keyings = λ round. ap (λ (o : Option ThirdEntry). filter is_keyed (map (keying_of s b.number round) (clerks b o))) third;
  verdicts = refl;
}
  where
    third : third_at (with_effect (third_set t) s) b.number ≡ third_at s b.number
    third =
        found_put_other third_cmp (third_compared b.number) t s.thirds
        (unsigned_tied b.number t.batch ∙ ne_eqb b.number t.batch (λ same. both_ways (n == b.number) other (eq-eqb n b.number (sym (same ∙ of)))))
file_elsewhere s (papers_keyed papers) n of b other = record {
  candidates = refl;
  keyings = λ round. keyed_alike (keying_of (with_effect (papers_keyed papers) s) b.number round) (keying_of s b.number round) (clerks_of s b) (keying round);
  verdicts = refl;
}
  where
    none : (round clerk : ℕ) (k : KeyedEntry) → (k.batch == n) ≡ true → not ((k.batch == b.number) && ((k.round == round) && (k.clerk == clerk))) ≡ true
    none round clerk k its = let away : (k.batch == b.number) ≡ false = ap (λ (m : ℕ). m == b.number) (eqb-true k.batch n its) ∙ other in rw away refl

    keying : (round clerk : ℕ) → keying_of (with_effect (papers_keyed papers) s) b.number round clerk ≡ keying_of s b.number round clerk
    keying round clerk =
        filter_put_each keyed_cmp (λ (k : KeyedEntry). (k.batch == b.number) && ((k.round == round) && (k.clerk == clerk))) papers s.keyings (list_all_weaker _ _ papers (none round clerk) of)
file_elsewhere s (paper_judged v) n of b other =
    record { candidates = refl; keyings = λ round. refl; verdicts = filter_put judged_cmp (λ (x : JudgedEntry). x.batch == b.number) v s.verdicts (ap (λ (m : ℕ). m == b.number) of ∙ other) }
file_elsewhere s effect n of b other = absurd of

-- ---- the batches of a ward

-- a batch isn't the given one, or it belongs to another ward
abbrev is_elsewhere : ℕ → ℕ → BatchEntry → Bool
is_elsewhere n m x = not (n == x.number) || not (x.ward == m)

-- if the pile of every batch but one is unchanged, and that one belongs to another ward, the piles of this
-- ward's batches are unchanged
piles_elsewhere : (s t : OfficeState) (n m : ℕ) (bs : List BatchEntry) → ((x : BatchEntry) → (n == x.number) ≡ false → pile_of t x ≡ pile_of s x) → list_all (is_elsewhere n m) bs ≡ true
    → map (pile_of t) (filter (λ (x : BatchEntry). x.ward == m) bs) ≡ map (pile_of s) (filter (λ (x : BatchEntry). x.ward == m) bs)
piles_elsewhere s t n m [] same all = refl
piles_elsewhere s t n m (x ∷ bs) same all =
    let parts = and_parts (is_elsewhere n m x) (list_all (is_elsewhere n m) bs) all in
    go (x.ward == m) parts.0 (piles_elsewhere s t n m bs same parts.1)
  where
    other : (b : Bool) → (not b || false) ≡ true → b ≡ false
    other true is = absurd (cc)
    other false is = refl

    go : (b : Bool) → (not (n == x.number) || not b) ≡ true → map (pile_of t) (filter (λ (y : BatchEntry). y.ward == m) bs) ≡ map (pile_of s) (filter (λ (y : BatchEntry). y.ward == m) bs)
        → map (pile_of t) (cond b (x ∷ filter (λ (y : BatchEntry). y.ward == m) bs) (filter (λ (y : BatchEntry). y.ward == m) bs))
        ≡ map (pile_of s) (cond b (x ∷ filter (λ (y : BatchEntry). y.ward == m) bs) (filter (λ (y : BatchEntry). y.ward == m) bs))
    go false away later = later
    go true away later = ap (λ (p : Pile). p ∷ map (pile_of t) (filter (λ (y : BatchEntry). y.ward == m) bs)) (same x (other (n == x.number) away)) ∙ ap (λ (ps : List Pile). pile_of s x ∷ ps) later

-- changing a batch in another ward leaves the batches of this ward unchanged
changed_elsewhere : (n m : ℕ) (change : BatchEntry → BatchEntry) → ((x : BatchEntry) → (change x).ward ≡ x.ward) → (bs : List BatchEntry) → list_all (is_elsewhere n m) bs ≡ true
    → filter (λ (x : BatchEntry). x.ward == m) (changed (batch_compared n) change bs) ≡ filter (λ (x : BatchEntry). x.ward == m) bs
changed_elsewhere n m change ward [] all = refl
changed_elsewhere n m change ward (x ∷ bs) all =
    let parts = and_parts (is_elsewhere n m x) (list_all (is_elsewhere n m) bs) all in
    go (n == x.number) refl parts.0 (changed_elsewhere n m change ward bs parts.1)
  where
    go : (b : Bool) → (n == x.number) ≡ b → (not b || not (x.ward == m)) ≡ true
        → filter (λ (y : BatchEntry). y.ward == m) (changed (batch_compared n) change bs) ≡ filter (λ (y : BatchEntry). y.ward == m) bs
        → filter (λ (y : BatchEntry). y.ward == m) (changed (batch_compared n) change (x ∷ bs)) ≡ filter (λ (y : BatchEntry). y.ward == m) (x ∷ bs)
    go false other away later = rw (unsigned_tied n x.number ∙ other) (ap (λ (ys : List BatchEntry). cond (x.ward == m) (x ∷ ys) ys) later)
    go true same away later =
        let apart : (x.ward == m) ≡ false = not-true (x.ward == m) away in
        let moved : ((change x).ward == m) ≡ false = ap (λ (k : ℕ). k == m) (ward x) ∙ apart in
        rw (unsigned_tied n x.number ∙ same) (rw (moved, apart) later)

-- adding a batch in another ward leaves the piles of this ward unchanged
pub piles_added : (s : OfficeState) (b : BatchEntry) (m : ℕ) → (b.ward == m) ≡ false → piles_of (with_effect (batch_added b) s) m ≡ piles_of s m
piles_added s b m apart = ap (map (pile_of s)) (filter_put batch_cmp (λ (y : BatchEntry). y.ward == m) b s.batches apart)

module _ (s : OfficeState) (n : ℕ) (b : BatchEntry) (m : ℕ) (is : IsState s) (found : batch_at s n ≡ Some b) (apart : (b.ward == m) ≡ false) where
  batches_elsewhere : list_all (is_elsewhere n m) s.batches ≡ true
  batches_elsewhere =
      all_but_number (λ (x : BatchEntry). x.number) s.batches n b (is_given_out s) (is_elsewhere n m) is.rise.batches found (λ same. or_right (not (n == b.number)) _ (ap not apart))
      (λ x other out. rw other refl) (and_parts _ _ is.given_out).0

  -- reopening a batch in another ward leaves the piles of this ward unchanged
  pub piles_reopened : (round : ℕ) → piles_of (with_effect (batch_reopened n round) s) m ≡ piles_of s m
  piles_reopened round = ap (map (pile_of s)) (changed_elsewhere n m (in_round round) (λ y. refl) s.batches batches_elsewhere)

  -- assigning a third clerk to a batch in another ward, keying its papers or judging one of them leaves the
  -- piles of this ward unchanged
  pub piles_kept : (effect : EffectEntry) → IsOfBatch n effect → piles_of (with_effect effect s) m ≡ piles_of s m
  piles_kept (third_set t) of =
      piles_elsewhere s (with_effect (third_set t) s) n m s.batches (λ x away. pile_kept s (with_effect (third_set t) s) x (file_elsewhere s (third_set t) n of x away)) batches_elsewhere
  piles_kept (papers_keyed papers) of =
      piles_elsewhere s (with_effect (papers_keyed papers) s) n m s.batches (λ x away. pile_kept s (with_effect (papers_keyed papers) s) x
      (file_elsewhere s (papers_keyed papers) n of x away)) batches_elsewhere
  piles_kept (paper_judged v) of =
      piles_elsewhere s (with_effect (paper_judged v) s) n m s.batches (λ x away. pile_kept s (with_effect (paper_judged v) s) x (file_elsewhere s (paper_judged v) n of x away)) batches_elsewhere
  piles_kept effect of = absurd of

-- ---- the candidates of a ward

pub candidates_added : (s : OfficeState) (c : CandidateEntry) (m : ℕ) → (c.ward == m) ≡ false → candidates_of (with_effect (candidate_added c) s) m ≡ candidates_of s m
candidates_added s c m apart = filter_put candidate_cmp (λ (d : CandidateEntry). d.ward == m) c s.candidates apart

pub candidates_withdrawn : (s : OfficeState) (ward candidate m : ℕ) → (ward == m) ≡ false → candidates_of (with_effect (candidate_withdrawn ward candidate) s) m ≡ candidates_of s m
candidates_withdrawn s ward candidate m other = filter_without (candidate_compared ward candidate) (λ (d : CandidateEntry). d.ward == m) s.candidates apart
  where
    apart : (d : CandidateEntry) → is_eq (candidate_compared ward candidate d) ≡ true → (d.ward == m) ≡ false
    apart d tied = ap (λ (k : ℕ). k == m) (sym (same_number ward d.ward (both_equal (nat_cmp ward d.ward) (nat_cmp candidate d.number) tied).0)) ∙ other
