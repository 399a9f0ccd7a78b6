-- The cache entries of batches that an effect doesn't concern stay correct.
use Rattle.std.proofs.Common.{◌≡◌, ℕ, ◌<◌, get_or, Bool, true, false, cond, not, ◌&&◌, ◌||◌, ◌==◌, List, [], ◌∷◌, map, filter, length, Option, Some, None, option_map, refl, sym, ap, subst, ◌∙◌}
use Rattle.std.specs.List.{AllByRecursion, list_all, list_any}
use Rattle.std.specs.Ordering.{nat_cmp, is_eq}
use Rattle.std.specs.Cmp.{unsigned_tied}
use Rattle.std.proofs.lemmas.Bool.{and_parts, eqb-true, eq-eqb, ne_eqb, both_ways}
use Rattle.sqlite_trees.proofs.ListLemmas.{all-get_or}
use Rattle.register.specs.declared.batches.Batch.{Batch}
use Rattle.register.specs.declared.keyings.KeyedPaper.{KeyedPaper}
use Rattle.register.specs.Offices.{batch_entry, keyed_entry}
use Rattle.register.specs.Offices.{CandidateEntry, BatchEntry, ThirdEntry, KeyedEntry, JudgedEntry, ReceiptEntry, OfficeState, candidate_cmp, third_cmp, keyed_cmp, judged_cmp}
use Rattle.register.specs.Offices.{candidate_compared, third_compared, candidates_of, third_at, keying_of, verdicts_of}
use Rattle.register.specs.Marks.{columns_of}
use Rattle.register.specs.Agreement.{is_keyed, agreed, are_taken, clerks, clerks_of, is_open, keyings_now}
use Rattle.register.specs.Effects.{EffectEntry, ward_added, ward_moved, candidate_added, candidate_withdrawn, batch_added, batch_reopened, third_set, papers_keyed, paper_judged}
use Rattle.register.specs.Effects.{stage_counted, lot_drawn, with_effect, with_change}
use Rattle.register.proofs.MapLemmas.{filter_put, filter_put_each, filter_without, found_put_other, same_number, both_equal}
use Rattle.store.specs.declared.batch_cache.CachedBatch.{CachedBatch}
use Rattle.store.specs.Overviews.{standing_by, clerk_view_of, pile_text}
use Rattle.store.specs.Memories.{KnownView, checksum, known_of, known_view, row_of, IsKnown, AreKnown, is_about}

-- ---- a cache entry depends on only a few entries of the state

pub map_alike : {A B : Type 0} (f g : A → B) → ((x : A) → f x ≡ g x) → (xs : List A) → map f xs ≡ map g xs
map_alike f g same [] = refl
map_alike {B = B} f g same (x ∷ xs) = ap (λ (y : B). y ∷ map f xs) (same x) ∙ ap (λ (ys : List B). g x ∷ ys) (map_alike f g same xs)

-- two states agree on a batch, except for its row
record HasSameOf (s t : OfficeState) (b : BatchEntry) : Type 0 where
  third : third_at t b.number ≡ third_at s b.number
  keying : (clerk : ℕ) → keying_of t b.number b.round clerk ≡ keying_of s b.number b.round clerk
  verdicts : verdicts_of t b.number ≡ verdicts_of s b.number
  candidates : candidates_of t b.ward ≡ candidates_of s b.ward

abbrev known_by : BatchEntry → List (ℕ × Bool) → List (List KeyedEntry) → List JudgedEntry → List CandidateEntry → KnownView
known_by b keyed keyings verdicts candidates =
    record {
      view = record { batch = b; clerks = keyed; standing = standing_by keyings; doubtful_open = length (filter (is_open verdicts) (agreed keyings)); twin = None };
      pile = option_map checksum (cond (are_taken keyings) (Some (pile_text (columns_of candidates) (agreed keyings))) None);
    }

known_alike : (s t : OfficeState) (b : BatchEntry) → HasSameOf s t b → known_of t b ≡ known_of s b
known_alike s t b same =
    ap (λ (ks : List (ℕ × Bool)). known_by b ks (keyings_now t b) (verdicts_of t b.number) (candidates_of t b.ward)) keyed
    ∙ ap (λ (ks : List (List KeyedEntry)). known_by b (keyed_in s) ks (verdicts_of t b.number) (candidates_of t b.ward)) keyings
    ∙ ap (λ (vs : List JudgedEntry). known_by b (keyed_in s) (keyings_now s b) vs (candidates_of t b.ward)) same.verdicts
    ∙ ap (known_by b (keyed_in s) (keyings_now s b) (verdicts_of s b.number)) same.candidates
  where
    keyed_in : OfficeState → List (ℕ × Bool)
    keyed_in x = map (clerk_view_of x b) (clerks_of x b)

    own : clerks_of t b ≡ clerks_of s b
    own = ap (clerks b) same.third

    keyed : keyed_in t ≡ keyed_in s
    keyed = ap (map (clerk_view_of t b)) own ∙ map_alike (clerk_view_of t b) (clerk_view_of s b) (λ clerk. ap (λ (ks : List KeyedEntry). (clerk, is_keyed ks)) (same.keying clerk)) (clerks_of s b)

    keyings : keyings_now t b ≡ keyings_now s b
    keyings =
        ap (λ (cs : List ℕ). filter is_keyed (map (keying_of t b.number b.round) cs)) own
        ∙ ap (filter is_keyed) (map_alike (keying_of t b.number b.round) (keying_of s b.number b.round) same.keying (clerks_of s b))

-- ---- an effect that doesn't concern a batch

flipped : (m n : ℕ) → (m == n) ≡ false → (n == m) ≡ false
flipped m n apart = ne_eqb n m (λ same. both_ways (m == n) apart (eq-eqb m n (sym same)))

none_about : (n : ℕ) (q : KeyedEntry → Bool) (papers : List KeyedEntry) → list_any (λ (k : KeyedEntry). n == k.batch) papers ≡ false
    → list_all (λ (k : KeyedEntry). not ((k.batch == n) && q k)) papers ≡ true
none_about n q [] none = refl
none_about n q (k ∷ papers) none =
    let parts = or_parts (n == k.batch) (list_any (λ (j : KeyedEntry). n == j.batch) papers) none in
    rw (flipped n k.batch parts.0) (none_about n q papers parts.1)
  where
    or_parts : (a b : Bool) → (a || b) ≡ false → (a ≡ false) × (b ≡ false)
    or_parts true b is = absurd cc
    or_parts false b is = (refl, is)

elsewhere : (s : OfficeState) (effect : EffectEntry) (b : BatchEntry) → is_about effect b ≡ false → HasSameOf s (with_effect effect s) b
elsewhere s (ward_added w) b apart = record { third = refl; keying = λ clerk. refl; verdicts = refl; candidates = refl }
elsewhere s (ward_moved ward phase) b apart = record { third = refl; keying = λ clerk. refl; verdicts = refl; candidates = refl }
elsewhere s (candidate_added c) b apart =
    record {
      third = refl;
      keying = λ clerk. refl;
      verdicts = refl;
      candidates = filter_put candidate_cmp (λ (d : CandidateEntry). d.ward == b.ward) c s.candidates (flipped b.ward c.ward apart);
    }
elsewhere s (candidate_withdrawn ward candidate) b apart =
    record {
      third = refl;
      keying = λ clerk. refl;
      verdicts = refl;
      candidates = filter_without (candidate_compared ward candidate) (λ (d : CandidateEntry). d.ward == b.ward) s.candidates
          (λ d tied. let same = same_number ward d.ward (both_equal (nat_cmp ward d.ward) (nat_cmp candidate d.number) tied).0 in
          ap (λ (k : ℕ). k == b.ward) (sym same) ∙ flipped b.ward ward apart);
    }
elsewhere s (batch_added c) b apart = record { third = refl; keying = λ clerk. refl; verdicts = refl; candidates = refl }
elsewhere s (batch_reopened batch round) b apart = record { third = refl; keying = λ clerk. refl; verdicts = refl; candidates = refl }
elsewhere s (third_set t) b apart =
    record {
      third = found_put_other third_cmp (third_compared b.number) t s.thirds (unsigned_tied b.number t.batch ∙ apart);
      keying = λ clerk. refl;
      verdicts = refl;
      candidates = refl;
    }
elsewhere s (papers_keyed papers) b apart =
    record {
      third = refl;
      keying = λ clerk. filter_put_each keyed_cmp (λ (k : KeyedEntry). (k.batch == b.number) && ((k.round == b.round) && (k.clerk == clerk))) papers s.keyings
          (none_about b.number (λ (k : KeyedEntry). (k.round == b.round) && (k.clerk == clerk)) papers apart);
      verdicts = refl;
      candidates = refl;
    }
elsewhere s (paper_judged v) b apart =
    record {
      third = refl;
      keying = λ clerk. refl;
      verdicts = filter_put judged_cmp (λ (x : JudgedEntry). x.batch == b.number) v s.verdicts (flipped b.number v.batch apart);
      candidates = refl;
    }
elsewhere s (stage_counted ward done) b apart = record { third = refl; keying = λ clerk. refl; verdicts = refl; candidates = refl }
elsewhere s (lot_drawn l) b apart = record { third = refl; keying = λ clerk. refl; verdicts = refl; candidates = refl }

-- the cache entry of a batch that an effect doesn't concern is still correct after the effect
pub known_still : (s : OfficeState) (effect : EffectEntry) (r : ReceiptEntry) (k : CachedBatch) → is_about effect (row_of k) ≡ false → IsKnown s k
    → IsKnown (with_change (record { effect = effect; receipt = r }) s) k
known_still s effect r k apart is = is ∙ sym (known_alike s (with_effect effect s) (row_of k) (elsewhere s effect (row_of k) apart))

-- ---- what remains of a cache

-- once a test has removed all entries that an effect concerns, the remaining entries are correct
pub left_known : (s : OfficeState) (effect : EffectEntry) (r : ReceiptEntry) (test : CachedBatch → Bool)
    → ((k : CachedBatch) → test k ≡ false → is_about effect (row_of k) ≡ false) → (ks : List CachedBatch)
    → AreKnown s ks
    → AreKnown (with_change (record { effect = effect; receipt = r }) s) (filter (λ k. not (test k)) ks)
left_known s effect r test apart [] are = tt
left_known s effect r test apart (k ∷ ks) are = go (test k) refl (left_known s effect r test apart ks are.1)
  where
    after : OfficeState
    after = with_change (record { effect = effect; receipt = r }) s

    go : (q : Bool) → test k ≡ q → AreKnown after (filter (λ j. not (test j)) ks) → AreKnown after (cond (not q) (k ∷ filter (λ j. not (test j)) ks) (filter (λ j. not (test j)) ks))
    go true is later = later
    go false is later = (known_still s effect r k (apart k is) are.0, later)

-- an effect that concerns no batch leaves the whole cache correct
pub all_left : (s : OfficeState) (effect : EffectEntry) (r : ReceiptEntry) → ((b : BatchEntry) → is_about effect b ≡ false) → (ks : List CachedBatch) → AreKnown s ks
    → AreKnown (with_change (record { effect = effect; receipt = r }) s) ks
all_left s effect r none [] are = tt
all_left s effect r none (k ∷ ks) are = (known_still s effect r k (none (row_of k)) are.0, all_left s effect r none ks are.1)

-- papers of one batch don't concern any other batch
pub keyed_apart : (n m : ℕ) (papers : List KeyedPaper) → list_all (λ (k : KeyedPaper). k.batch == n) papers ≡ true → (m == n) ≡ false
    → list_any (λ (k : KeyedEntry). m == k.batch) (map keyed_entry papers) ≡ false
keyed_apart n m [] all apart = refl
keyed_apart n m (k ∷ papers) all apart =
    let parts = and_parts (k.batch == n) (list_all (λ (j : KeyedPaper). j.batch == n) papers) all in
    let one : (m == k.batch) ≡ false = ap (λ (j : ℕ). m == j) (eqb-true k.batch n parts.0) ∙ apart in
    rw one (keyed_apart n m papers parts.1 apart)

-- ---- a single cache entry

-- a property that holds for all entries holds for the entry at a given index
pub one_of : (P : CachedBatch → Type 0) (known : List CachedBatch) (k : ℕ) (c : CachedBatch) → AllByRecursion P known → k < length known → c ≡ get_or known k c → P c
one_of P known k c all within is = subst P (sym is) (all-get_or P known k c all within)

-- batches with equal rows have equal entries
pub same_row : (a b : Batch)
    → ((a.number == b.number) && ((a.ward == b.ward) && ((a.size == b.size) && ((a.first_clerk == b.first_clerk) && ((a.second_clerk == b.second_clerk) && (a.round == b.round)))))) ≡ true
    → batch_entry a ≡ batch_entry b
same_row a b same =
    let one = and_parts _ _ same in
    let two = and_parts _ _ one.1 in
    let three = and_parts _ _ two.1 in
    let four = and_parts _ _ three.1 in
    let five = and_parts _ _ four.1 in
    same_entry (batch_entry a) (batch_entry b) (eqb-true a.number b.number one.0) (eqb-true a.ward b.ward two.0) (eqb-true a.size b.size three.0) (eqb-true a.first_clerk b.first_clerk four.0)
    (eqb-true a.second_clerk b.second_clerk five.0) (eqb-true a.round b.round five.1)
  where
    same_entry : (x y : BatchEntry) → x.number ≡ y.number → x.ward ≡ y.ward → x.size ≡ y.size → x.first_clerk ≡ y.first_clerk → x.second_clerk ≡ y.second_clerk → x.round ≡ y.round → x ≡ y
    same_entry x y number ward size first second round =
        ap (λ v. record x { number = v }) number
        ∙ ap (λ v. record x { number = y.number; ward = v }) ward
        ∙ ap (λ v. record x { number = y.number; ward = y.ward; size = v }) size
        ∙ ap (λ v. record y { first_clerk = v; second_clerk = x.second_clerk; round = x.round }) first
        ∙ ap (λ v. record y { second_clerk = v; round = x.round }) second
        ∙ ap (λ v. record y { round = v }) round

-- cache entries with equal parts are equal
pub same_known : (x y : KnownView) → x.view ≡ y.view → x.pile ≡ y.pile → x ≡ y
same_known x y view pile = ap (λ v. record x { view = v }) view ∙ ap (λ p. record y { pile = p }) pile

-- ---- a cache with every batch

-- every entry of a cache that has every batch is correct
pub all_right : (s : OfficeState) (ks : List CachedBatch) (bs : List BatchEntry) → map known_view ks ≡ map (known_of s) bs → AreKnown s ks
all_right s [] bs are = tt
all_right s (k ∷ ks) [] are = absurd cc
all_right s (k ∷ ks) (b ∷ bs) are =
    let one : known_view k ≡ known_of s b = first are in
    let row : row_of k ≡ b = ap (λ (v : KnownView). v.view.batch) one in
    (one ∙ ap (known_of s) (sym row), all_right s ks bs (rest are))
  where
    first : {x y : KnownView} {xs ys : List KnownView} → x ∷ xs ≡ y ∷ ys → x ≡ y
    first e = cc

    rest : {x y : KnownView} {xs ys : List KnownView} → x ∷ xs ≡ y ∷ ys → xs ≡ ys
    rest e = cc

-- the rows in a cache that has every batch are those of the batches
pub all_rows : (s : OfficeState) (ks : List CachedBatch) (bs : List BatchEntry) → map known_view ks ≡ map (known_of s) bs → map row_of ks ≡ bs
all_rows s [] [] are = refl
all_rows s [] (b ∷ bs) are = absurd cc
all_rows s (k ∷ ks) [] are = absurd cc
all_rows s (k ∷ ks) (b ∷ bs) are =
    ap (λ (c : BatchEntry). c ∷ map row_of ks) (ap (λ (v : KnownView). v.view.batch) (first are)) ∙ ap (λ (cs : List BatchEntry). b ∷ cs) (all_rows s ks bs (rest are))
  where
    first : {x y : KnownView} {xs ys : List KnownView} → x ∷ xs ≡ y ∷ ys → x ≡ y
    first e = cc

    rest : {x y : KnownView} {xs ys : List KnownView} → x ∷ xs ≡ y ∷ ys → xs ≡ ys
    rest e = cc
