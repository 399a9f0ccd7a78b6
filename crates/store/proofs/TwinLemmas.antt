-- Twins, found from the cache entries of all batches.
use Rattle.std.proofs.Common.{◌≡◌, ℕ, ◌<◌, ◌+◌, Bool, true, false, cond, not, ◌&&◌, ◌==◌, List, [], ◌∷◌, ◌++◌, map, filter}
use Rattle.std.proofs.Common.{find, length, get_or, take, drop, suc, Option, Some, None, option_map, refl, sym, ap, subst, ◌∙◌, arith, take-append-drop, drop-cons}
use Rattle.std.specs.Option.{option_to_list}
use Rattle.std.proofs.lemmas.List.{map-append}
use Rattle.std.proofs.lemmas.List.Elements.{filter-append}
use Rattle.tables.proofs.ListLemmas.{get_mapped, mapped_length}
use Rattle.std.specs.Str.{bytes_eq}
use Rattle.std.proofs.lemmas.Bool.{cond-true, cond-false, and_parts, eq-eqb}
use Rattle.std.proofs.lemmas.Slice.Eq.{bytes_eq-Decides}
use Rattle.register.specs.Offices.{BatchEntry, OfficeState}
use Rattle.register.specs.Agreement.{is_taken}
use Rattle.store.specs.declared.batch_cache.CachedBatch.{CachedBatch}
use Rattle.store.specs.Overviews.{BatchView, batch_view_of, is_twin, pile_in, pile_text_of}
use Rattle.store.specs.Memories.{KnownView, checksum, row_of, IsKnown, same_sum, may_be_twin, batch_view_in}
use Rattle.store.proofs.LoadsLemmas.{entries_more}

-- ---- two batches

-- the checksum in the cache entry of a batch is that of its papers, if the batch is taken
sum_kept : (s : OfficeState) (k : CachedBatch) → IsKnown s k → k.pile ≡ option_map checksum (pile_in s (row_of k))
sum_kept s k is = ap (λ (v : KnownView). v.pile) is

-- a batch has a checksum only if it is taken
pub untaken : (s : OfficeState) (k : CachedBatch) → IsKnown s k → k.pile ≡ None → is_taken s (row_of k) ≡ false
untaken s k is none = go (is_taken s (row_of k)) refl (sym (sum_kept s k is) ∙ none)
  where
    go : (q : Bool) → is_taken s (row_of k) ≡ q → option_map checksum (pile_in s (row_of k)) ≡ None → is_taken s (row_of k) ≡ false
    go false is none = is
    go true is none = absurd (lost (ap (option_map checksum) (sym (cond-true (is_taken s (row_of k)) (Some (pile_text_of s (row_of k))) None is)) ∙ none))
      where
        lost : {n : ℕ} → Some n ≡ None → ⊥
        lost e = cc

-- if the checksums of two batches differ, their papers differ
apart : (s : OfficeState) (b c : BatchEntry) → is_taken s b ≡ true → same_sum (option_map checksum (pile_in s b)) (option_map checksum (pile_in s c)) ≡ false
    → (is_taken s c && bytes_eq (pile_text_of s b) (pile_text_of s c)) ≡ false
apart s b c taken differ = go (is_taken s c) refl (bytes_eq (pile_text_of s b) (pile_text_of s c)) refl
  where
    own : pile_in s b ≡ Some (pile_text_of s b)
    own = cond-true (is_taken s b) (Some (pile_text_of s b)) None taken

    go : (q : Bool) → is_taken s c ≡ q → (e : Bool) → bytes_eq (pile_text_of s b) (pile_text_of s c) ≡ e → (q && e) ≡ false
    go false is e same = refl
    go true is false same = refl
    go true is true same =
        let others : pile_in s c ≡ Some (pile_text_of s c) = cond-true (is_taken s c) (Some (pile_text_of s c)) None is in
        let equal : (checksum (pile_text_of s b) == checksum (pile_text_of s c)) ≡ true = eq-eqb _ _ (ap checksum ((bytes_eq-Decides (pile_text_of s b) (pile_text_of s c)).0 same)) in
        let told : same_sum (option_map checksum (pile_in s b)) (option_map checksum (pile_in s c)) ≡ true =
        ap (λ (o : Option (List ℕ)). same_sum (option_map checksum o) (option_map checksum (pile_in s c))) own
        ∙ ap (λ (o : Option (List ℕ)). same_sum (option_map checksum (Some (pile_text_of s b))) (option_map checksum o)) others ∙ equal in
        sym told ∙ differ

module _ (s : OfficeState) (k c : CachedBatch) (own : IsKnown s k) (taken : is_taken s (row_of k) ≡ true) (others : IsKnown s c) where
  sums : same_sum k.pile c.pile ≡ same_sum (option_map checksum (pile_in s (row_of k))) (option_map checksum (pile_in s (row_of c)))
  sums = ap (λ (o : Option ℕ). same_sum o c.pile) (sum_kept s k own) ∙ ap (same_sum (option_map checksum (pile_in s (row_of k)))) (sum_kept s c others)

  -- a batch whose cache entry rules it out isn't a twin
  pub no_twin : may_be_twin k c ≡ false → is_twin s (row_of k) (row_of c) ≡ false
  no_twin may = go (not (c.overview.batch.number == k.overview.batch.number)) (same_sum k.pile c.pile) refl may
    where
      go : (q e : Bool) → same_sum k.pile c.pile ≡ e → (q && e) ≡ false → (q && (is_taken s (row_of c) && bytes_eq (pile_text_of s (row_of k)) (pile_text_of s (row_of c)))) ≡ false
      go false e is may = refl
      go true false is may = apart s (row_of k) (row_of c) taken (sym sums ∙ is)
      go true true is may = absurd cc

  -- a batch with the same checksum is taken
  its_taken : same_sum k.pile c.pile ≡ true → is_taken s (row_of c) ≡ true
  its_taken same = go (is_taken s (row_of c)) refl (sym sums ∙ same)
    where
      go : (q : Bool) → is_taken s (row_of c) ≡ q
          → same_sum (option_map checksum (pile_in s (row_of k))) (option_map checksum (cond (is_taken s (row_of c)) (Some (pile_text_of s (row_of c))) None)) ≡ true
          → is_taken s (row_of c) ≡ true
      go true is same = is
      go false is same = absurd (none (option_map checksum (pile_in s (row_of k))) (rw is at same))
        where
          none : (o : Option ℕ) → same_sum o None ≡ true → ⊥
          none None e = cc
          none (Some n) e = cc

  -- a batch that may be a twin is one if its papers are the same
  pub twin_told : may_be_twin k c ≡ true → (same : Bool)
      → (is_taken s (row_of k) ≡ true → is_taken s (row_of c) ≡ true → same ≡ bytes_eq (pile_text_of s (row_of k)) (pile_text_of s (row_of c))) → same ≡ is_twin s (row_of k) (row_of c)
  twin_told may same told =
      let parts = and_parts (not (c.overview.batch.number == k.overview.batch.number)) (same_sum k.pile c.pile) may in
      let also = its_taken parts.1 in
      told taken also ∙ sym (rw (parts.0, also) refl)

-- ---- the first twin

-- another element that doesn't pass a test, after others that don't
pub find_more : {X : Type 0} (p : X → Bool) (xs : List X) (x : X) → find p xs ≡ None → p x ≡ false → find p (xs ++ x ∷ []) ≡ None
find_more p [] x none other = rw other refl
find_more {X} p (y ∷ xs) x none other = go (p y) (find_more p xs x) none
  where
    go : (q : Bool) → (find p xs ≡ None → p x ≡ false → find p (xs ++ x ∷ []) ≡ None) → cond q (Some y) (find p xs) ≡ None → cond q (Some y) (find p (xs ++ x ∷ [])) ≡ None
    go true later none = absurd cc
    go false later none = later none other

-- the first element that passes a test, after others that don't
pub find_here : {X : Type 0} (p : X → Bool) (xs : List X) (x : X) (ys : List X) → find p xs ≡ None → p x ≡ true → find p (xs ++ x ∷ ys) ≡ Some x
find_here p [] x ys none is = rw is refl
find_here {X} p (y ∷ xs) x ys none is = go (p y) (find_here p xs x ys) none
  where
    go : (q : Bool) → (find p xs ≡ None → p x ≡ true → find p (xs ++ x ∷ ys) ≡ Some x) → cond q (Some y) (find p xs) ≡ None → cond q (Some y) (find p (xs ++ x ∷ ys)) ≡ Some x
    go true later none = absurd cc
    go false later none = later none is

-- ---- one of the cache entries, at its index

module _ {X : Type 0} (row : CachedBatch → X) (known : List CachedBatch) (k : ℕ) (c : CachedBatch) (within : k < length known) (is : c ≡ get_or known k c) where
  -- the rows up to and including this one
  pub rows_more : take (k + 1) (map row known) ≡ take k (map row known) ++ row c ∷ []
  rows_more = entries_more row known k c within ∙ ap (λ (x : CachedBatch). take k (map row known) ++ row x ∷ []) (sym is)

  -- the rows up to and including this one, and those after it
  pub rows_split : map row known ≡ take k (map row known) ++ row c ∷ drop (suc k) (map row known)
  rows_split =
      sym (take-append-drop k (map row known))
      ∙ ap (λ (xs : List X). take k (map row known) ++ xs)
      (drop-cons (map row known) k (row c) (omega (arith, within, mapped_length row known)) ∙ ap (λ (x : X). x ∷ drop (suc k) (map row known))
      (get_mapped row known k (row c) c within ∙ ap row (sym is)))

-- ---- the batches of a ward

-- the overviews of several batches and another
pub views_more : (s : OfficeState) (ward : ℕ) (bs : List BatchEntry) (b : BatchEntry) (before : List BatchView) (found : Option BatchView) → before ≡ map (batch_view_of s)
    (filter (λ (c : BatchEntry). c.ward == ward) bs)
    → found ≡ batch_view_in s ward b → before ++ option_to_list found ≡ map (batch_view_of s) (filter (λ (c : BatchEntry). c.ward == ward) (bs ++ b ∷ []))
views_more s ward bs b before found so_far one =
    ap (λ (vs : List BatchView). vs ++ option_to_list found) so_far
    ∙ ap (λ (o : Option BatchView). map (batch_view_of s) (filter of bs) ++ option_to_list o) one
    ∙ ap (λ (vs : List BatchView). map (batch_view_of s) (filter of bs) ++ vs) (last (b.ward == ward))
    ∙ sym (ap (map (batch_view_of s)) (filter-append of bs (b ∷ [])) ∙ map-append (batch_view_of s) (filter of bs) (filter of (b ∷ [])))
  where
    of : BatchEntry → Bool
    of c = c.ward == ward

    last : (q : Bool) → option_to_list (cond q (Some (batch_view_of s b)) None) ≡ map (batch_view_of s) (cond q (b ∷ []) [])
    last true = refl
    last false = refl

-- a batch with a checksum is taken
pub has_sum : (s : OfficeState) (k : CachedBatch) → IsKnown s k → (n : ℕ) → k.pile ≡ Some n → is_taken s (row_of k) ≡ true
has_sum s k is n some = go (is_taken s (row_of k)) refl
  where
    lost : None ≡ Some n → ⊥
    lost e = cc

    go : (q : Bool) → is_taken s (row_of k) ≡ q → is_taken s (row_of k) ≡ true
    go true is_it = is_it
    go false is_it = absurd (lost (ap (option_map checksum) (sym (cond-false (is_taken s (row_of k)) (Some (pile_text_of s (row_of k))) None is_it)) ∙ sym (sum_kept s k is) ∙ some))
