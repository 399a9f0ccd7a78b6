-- Proof that the twins found are those of the batches.
use Rattle.std.proofs.Common.{◌≡◌, ◌==◌, ℕ, Bool, true, false, cond, not, ◌&&◌, List, [], ◌∷◌, ◌++◌, map, filter, find, Option, Some, None, option_map, refl, sym, ap, ◌∙◌}
use Rattle.std.proofs.Math.Bool.{and-false}
use Rattle.std.proofs.lemmas.Bool.{cond-true, cond-false}
use Rattle.std.proofs.lemmas.List.{map-append}
use Rattle.std.proofs.lemmas.List.Elements.{filter-append, filter_map-append}
use Rattle.std.specs.List.{cons_option}
use Rattle.std.specs.Option.{option_to_list, option_map_or}
use Rattle.std.specs.HashMap.{HashMap, get_by_text}
use Rattle.std.specs.Prelude.{String, Vec}
use Rattle.std.specs.Str.{bytes_eq}
use Rattle.register.specs.Offices.{BatchEntry, KeyedEntry, JudgedEntry, OfficeState, candidates_of, verdicts_of}
use Rattle.register.specs.Marks.{columns_of}
use Rattle.register.specs.Agreement.{is_keyed, agreed, clerks_of, keyings_now, taken_papers, is_taken}
use Rattle.store.specs.declared.overviews.batches.BatchOverview.{BatchOverview}
use Rattle.store.specs.Overviews.{BatchView, clerk_view_of, batch_view, batch_view_with, batch_view_of, batch_views, is_twin, twin_of, pile_text, pile_in, pile_text_of}
use Rattle.store.specs.Piles.{ReadView, view_by, read_view_of, is_pile, numbers_with, numbers_under, twin_under, paired, all_paired}

-- ---- lists

-- the numbers of batches, with another batch added
pub numbers_more : (rs : List ReadView) (r : ReadView) (q : List ℕ) → numbers_with rs q ++ numbers_with (r ∷ []) q ≡ numbers_with (rs ++ r ∷ []) q
numbers_more rs r q =
    let has = λ (x : ReadView). is_pile q x.pile in
    let number = λ (x : ReadView). x.number in
    sym (ap (map number) (filter-append has rs (r ∷ [])) ∙ map-append number (filter has rs) (filter has (r ∷ [])))

-- the overviews of batches, with another batch added
pub one_paired : (numbers : List ℕ → List ℕ) (before : List BatchOverview) (found : Option BatchOverview) (rs : List ReadView) (r : ReadView)
    → map batch_view before ≡ all_paired numbers rs → option_map batch_view found ≡ paired numbers r
    → map batch_view (before ++ option_to_list found) ≡ all_paired numbers (rs ++ r ∷ [])
one_paired numbers before found rs r all one =
    map-append batch_view before (option_to_list found)
    ∙ ap (λ (vs : List BatchView). vs ++ map batch_view (option_to_list found)) all
    ∙ ap (λ (vs : List BatchView). all_paired numbers rs ++ vs) (as_list found ∙ ap option_to_list one ∙ last (paired numbers r))
    ∙ sym (filter_map-append (paired numbers) rs (r ∷ []))
  where
    as_list : (o : Option BatchOverview) → map batch_view (option_to_list o) ≡ option_to_list (option_map batch_view o)
    as_list None = refl
    as_list (Some o) = refl

    last : (o : Option BatchView) → option_to_list o ≡ cons_option o []
    last None = refl
    last (Some v) = refl

-- the numbers found for a text
pub group_told : {Y A S : Type 0} (numbers : HashMap (String Y) (Vec ℕ A) S) (text : List ℕ) (group : Vec ℕ A) → Some group ≡ get_by_text numbers text → group.items ≡ numbers_under numbers text
group_told {A = A} numbers text group found = ap (λ (o : Option (Vec ℕ A)). option_map_or (λ v. v.items) o []) found

-- ---- twins

module _ (s : OfficeState) (ward : ℕ) where
  -- a batch has the given pile if it is taken with the same papers
  has_pile : (text own : List ℕ) (taken : Bool) → is_pile text (cond taken (Some own) None) ≡ (taken && bytes_eq text own)
  has_pile text own true = refl
  has_pile text own false = refl

  -- the first number with the same pile, other than the batch's own, is that of the first twin
  first_twin : (b : BatchEntry) (cs : List BatchEntry)
      → find (λ n. not (n == b.number)) (numbers_with (map (read_view_of s ward) cs) (pile_text_of s b)) ≡ option_map (λ (c : BatchEntry). c.number) (find (is_twin s b) cs)
  first_twin b [] = refl
  first_twin b (c ∷ cs) =
      ap (λ h. find other (map number (cond h (read_view_of s ward c ∷ rest) rest))) (has_pile (pile_text_of s b) (pile_text_of s c) (is_taken s c))
      ∙ go (is_taken s c && bytes_eq (pile_text_of s b) (pile_text_of s c)) (first_twin b cs)
    where
      other : ℕ → Bool
      other n = not (n == b.number)

      number : ReadView → ℕ
      number r = r.number

      rest : List ReadView
      rest = filter (λ (r : ReadView). is_pile (pile_text_of s b) r.pile) (map (read_view_of s ward) cs)

      go : (has : Bool) → find other (map number rest) ≡ option_map (λ (d : BatchEntry). d.number) (find (is_twin s b) cs)
          → find other (map number (cond has (read_view_of s ward c ∷ rest) rest)) ≡ option_map (λ (d : BatchEntry). d.number)
          (cond (not (c.number == b.number) && has) (Some c) (find (is_twin s b) cs))
      go true later = inner (c.number == b.number) later
        where
          inner : (same : Bool) → find other (map number rest) ≡ option_map (λ (d : BatchEntry). d.number) (find (is_twin s b) cs)
              → cond (not same) (Some c.number) (find other (map number rest)) ≡ option_map (λ (d : BatchEntry). d.number) (cond (not same && true) (Some c) (find (is_twin s b) cs))
          inner true later = later
          inner false later = refl
      go false later = later ∙ sym (ap (λ h. option_map (λ (d : BatchEntry). d.number) (cond h (Some c) (find (is_twin s b) cs))) (and-false (not (c.number == b.number))))

  module _ (numbers : List ℕ → List ℕ) (are : (q : List ℕ) → numbers q ≡ numbers_with (map (read_view_of s ward) s.batches) q) where
    twin_found : (b : BatchEntry) → twin_under numbers b.number (pile_in s b) ≡ twin_of s b
    twin_found b = go (is_taken s b)
      where
        go : (taken : Bool) → twin_under numbers b.number (cond taken (Some (pile_text_of s b)) None) ≡ cond taken (option_map (λ (c : BatchEntry). c.number) (find (is_twin s b) s.batches)) None
        go true = ap (find (λ n. not (n == b.number))) (are (pile_text_of s b)) ∙ first_twin b s.batches
        go false = refl

    each_paired : (bs : List BatchEntry) → all_paired numbers (map (read_view_of s ward) bs) ≡ map (batch_view_of s) (filter (λ (b : BatchEntry). b.ward == ward) bs)
    each_paired [] = refl
    each_paired (b ∷ bs) = go (b.ward == ward) (each_paired bs)
      where
        others : List BatchView
        others = all_paired numbers (map (read_view_of s ward) bs)

        own : List BatchEntry
        own = filter (λ (c : BatchEntry). c.ward == ward) bs

        go : (q : Bool) → others ≡ map (batch_view_of s) own
            → cons_option (option_map (λ (v : BatchView). record v { twin = twin_under numbers b.number (pile_in s b) }) (cond q (Some (batch_view_with s b None)) None)) others
            ≡ map (batch_view_of s) (cond q (b ∷ own) own)
        go true later = ap (λ (t : Option ℕ). batch_view_with s b t ∷ others) (twin_found b) ∙ ap (λ (vs : List BatchView). batch_view_of s b ∷ vs) later
        go false later = later

    -- the overviews computed from all batches that were read are those of the ward's batches
    batches_paired : all_paired numbers (map (read_view_of s ward) s.batches) ≡ batch_views s ward
    batches_paired = each_paired s.batches

  pub overviews_told : (numbers : List ℕ → List ℕ) (rs : List ReadView) (found : List BatchView) → ((q : List ℕ) → numbers q ≡ numbers_with rs q)
      → found ≡ all_paired numbers rs → rs ≡ map (read_view_of s ward) s.batches → found ≡ batch_views s ward
  overviews_told numbers rs found are all told =
      all ∙ ap (all_paired numbers) told ∙ batches_paired numbers (λ q. are q ∙ ap (λ (xs : List ReadView). numbers_with xs q) told)

-- ---- one batch

-- the overview of a batch, from the data read for it
pub view_told : (s : OfficeState) (b : BatchEntry) (clerks : List (ℕ × Bool)) (keyings : List (List KeyedEntry)) (verdicts : List JudgedEntry)
    → clerks ≡ map (clerk_view_of s b) (clerks_of s b) → keyings ≡ keyings_now s b → verdicts ≡ verdicts_of s b.number
    → view_by b clerks keyings verdicts ≡ batch_view_with s b None
view_told s b clerks keyings verdicts by_clerk now judged =
    ap (λ (cs : List (ℕ × Bool)). view_by b cs keyings verdicts) by_clerk
    ∙ ap (λ (ks : List (List KeyedEntry)). view_by b (map (clerk_view_of s b) (clerks_of s b)) ks verdicts) now
    ∙ ap (λ (vs : List JudgedEntry). view_by b (map (clerk_view_of s b) (clerks_of s b)) (keyings_now s b) vs) judged

-- the text of the papers of a taken batch
pub pile_told : (s : OfficeState) (b : BatchEntry) (columns text : List ℕ) (papers : List KeyedEntry) (keyings : List (List KeyedEntry))
    → text ≡ pile_text columns papers → columns ≡ columns_of (candidates_of s b.ward) → papers ≡ agreed keyings → keyings ≡ keyings_now s b
    → is_keyed papers ≡ true → Some text ≡ pile_in s b
pile_told s b columns text papers keyings is told taken now there =
    let same : papers ≡ taken_papers s b = taken ∙ ap agreed now in
    ap (λ (t : List ℕ). Some t) (is ∙ ap (λ (cs : List ℕ). pile_text cs papers) told ∙ ap (pile_text (columns_of (candidates_of s b.ward))) same)
    ∙ sym (cond-true (is_taken s b) (Some (pile_text_of s b)) None (ap is_keyed (sym same) ∙ there))

-- a batch that isn't taken has no such text
pub no_pile : (s : OfficeState) (b : BatchEntry) (papers : List KeyedEntry) (keyings : List (List KeyedEntry)) → papers ≡ agreed keyings
    → keyings ≡ keyings_now s b → is_keyed papers ≡ false → None ≡ pile_in s b
no_pile s b papers keyings taken now there = sym (cond-false (is_taken s b) (Some (pile_text_of s b)) None (ap is_keyed (sym (taken ∙ ap agreed now)) ∙ there))

-- values of `ReadView` with the same fields are equal
pub same_read_view : (x y : ReadView) → x.number ≡ y.number → x.pile ≡ y.pile → x.overview ≡ y.overview → x ≡ y
same_read_view x y number pile overview = ap (λ v. record x { number = v }) number ∙ ap (λ v. record x { number = y.number; pile = v }) pile ∙ ap (λ v. record y { overview = v }) overview
