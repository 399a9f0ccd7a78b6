-- Adjacent papers form a keying if they have its numbers.
use Rattle.std.proofs.Common.{◌≡◌, ℕ, zero, suc, ◌+◌, Bool, true, cond, ◌&&◌, ◌==◌, List, [], ◌∷◌, map, filter, length, Option, Some, None, IfSome}
use Rattle.std.proofs.Common.{Result, Ok, Err, IfOk, IfErr, OnOk, IsTrue, inl, inr, refl, sym, ap, subst, ◌∙◌, arith, Ordering, Less, Equal, nat_cmp}
use Rattle.std.specs.Prelude.{⊤}
use Rattle.std.specs.List.{AllByRecursion, list_all}
use Rattle.std.specs.List.Sorted.{IsStrictlySortedBy}
use Rattle.std.proofs.lemmas.Bool.{and_parts, eqb-true}
use Rattle.std.proofs.lemmas.Cmp.{nat_cmp_total, tied_itself}
use Rattle.std.proofs.lemmas.Map.Keys.{sorted_head, sorted_tail}
use Rattle.sqlite_rules.specs.Lists.{Has}
use Rattle.sqlite_rules.proofs.ListLemmas.{all_has, has_filtered}
use Rattle.sqlite.specs.State.{State, HasCleanDisk}
use Rattle.register.specs.declared.keyings.KeyedPaper.{KeyedPaper}
use Rattle.register.specs.Offices.{BatchEntry, KeyedEntry, OfficeState, keyed_entry, keyed_cmp, batch_at, keying_of}
use Rattle.register.specs.BatchConditions.{are_numbered, is_whole}
use Rattle.register.specs.StateConditions.{IsState}
use Rattle.tables.specs.declared.fault.Fault.{Fault}
use Rattle.tables.specs.declared.table.Table.TheVariants.{Keying}
use Rattle.tables.specs.Contents.{Contents, RestsIfOpen}
use Rattle.tables.specs.Reading.{OnlyReads, FailsBy}
use Rattle.tables.proofs.ListLemmas.{has_mapped, filtered_has, all_from}
use Rattle.store.specs.EntryRows.{row_of_keyed, IsKeyedRow}
use Rattle.store.specs.Loads.{LoadsAt}
use Rattle.store.specs.Keyings.{is_paper_of}
use Rattle.store.specs.StateTables.{tables_of, tables_with}
use Rattle.store.proofs.StateLemmas.{keyed_in, keyed_back}
use Rattle.store.proofs.FitLemmas.{keyings_fit}
use Rattle.store.proofs.KeepLemmas.{is_at_read}
use Rattle.store.proofs.KeyingLemmas.{HasNumbers, has_numbers, there_whole_of}

-- ---- elements that occur once in a state

-- two elements of a strictly ascending list are the same if they compare as equal
once : {X : Type 0} (cmp : X → X → Ordering) (xs : List X) → IsStrictlySortedBy cmp xs → (a b : X) → Has xs a → Has xs b → cmp a b ≡ Equal → cmp b a ≡ Equal → a ≡ b
once cmp [] up a b here there one other = absurd here
once cmp (x ∷ xs) up a b (inl first) (inl also) one other = first ∙ sym also
once cmp (x ∷ xs) up a b (inl first) (inr later) one other =
    let below = all_has (λ y. cmp x y ≡ Less) xs b (sorted_head cmp x xs up) later in
    absurd (let no : Less ≡ Equal = sym below ∙ ap (λ y. cmp y b) (sym first) ∙ one in cc)
once cmp (x ∷ xs) up a b (inr later) (inl first) one other =
    let below = all_has (λ y. cmp x y ≡ Less) xs a (sorted_head cmp x xs up) later in
    absurd (let no : Less ≡ Equal = sym below ∙ ap (λ y. cmp y a) (sym first) ∙ other in cc)
once cmp (x ∷ xs) up a b (inr here) (inr there) one other = once cmp xs (sorted_tail cmp x xs up) a b here there one other

same_numbers : (m n : ℕ) → m ≡ n → nat_cmp m n ≡ Equal
same_numbers m n same = ap (nat_cmp m) (sym same) ∙ tied_itself nat_cmp_total m

-- papers with the same numbers compare as equal
same_place : (j k : KeyedEntry) → j.batch ≡ k.batch → j.round ≡ k.round → j.clerk ≡ k.clerk → j.paper ≡ k.paper → keyed_cmp j k ≡ Equal
same_place j k batch round clerk paper =
    rw (same_numbers j.batch k.batch batch, same_numbers j.round k.round round, same_numbers j.clerk k.clerk clerk) (same_numbers j.paper k.paper paper)

-- ---- keyings

-- a paper of a state that belongs to a keying
record IsIn (s : OfficeState) (batch round clerk : ℕ) (k : KeyedEntry) : Type 0 where
  there : Has s.keyings k
  own : is_paper_of batch round clerk k ≡ true

module _ (s : OfficeState) (is : IsState s) (batch round clerk : ℕ) where
  -- two papers of a keying with the same number are equal
  one_paper : (j k : KeyedEntry) → IsIn s batch round clerk j → IsIn s batch round clerk k → j.paper ≡ k.paper → j ≡ k
  one_paper j k first second paper =
      let a = has_numbers batch round clerk j first.own in
      let b = has_numbers batch round clerk k second.own in
      once keyed_cmp s.keyings is.rise.keyings j k first.there second.there
      (same_place j k (a.batch_is ∙ sym b.batch_is) (a.round_is ∙ sym b.round_is) (a.clerk_is ∙ sym b.clerk_is) paper)
      (same_place k j (b.batch_is ∙ sym a.batch_is) (b.round_is ∙ sym a.round_is) (b.clerk_is ∙ sym a.clerk_is) (sym paper))

  -- papers of a keying with the same numbers are equal
  same_numbered : (n : ℕ) (js ks : List KeyedEntry) → length js ≡ length ks → are_numbered n js ≡ true → are_numbered n ks ≡ true
      → AllByRecursion (IsIn s batch round clerk) js → AllByRecursion (IsIn s batch round clerk) ks → js ≡ ks
  unfolding are_numbered
  same_numbered n [] [] many first second own also = refl
  same_numbered n [] (k ∷ ks) many first second own also = absurd (omega (arith, many))
  same_numbered n (j ∷ js) [] many first second own also = absurd (omega (arith, many))
  same_numbered n (j ∷ js) (k ∷ ks) many first second own also =
      let a = and_parts _ _ first in
      let b = and_parts _ _ second in
      let head : j ≡ k = one_paper j k own.0 also.0 (eqb-true j.paper n a.0 ∙ sym (eqb-true k.paper n b.0)) in
      ap (λ x. x ∷ js) head ∙ ap (λ l. k ∷ l) (same_numbered (n + 1) js ks (omega (arith, many)) a.1 b.1 own.1 also.1)

  each_in : (ks : List KeyedEntry) → AllByRecursion (Has s.keyings) ks → list_all (is_paper_of batch round clerk) ks ≡ true → AllByRecursion (IsIn s batch round clerk) ks
  each_in [] there own = tt
  each_in (k ∷ ks) there own = let both = and_parts _ _ own in (record { there = there.0; own = both.0 }, each_in ks there.1 both.1)

  keying_in : AllByRecursion (IsIn s batch round clerk) (keying_of s batch round clerk)
  keying_in = all_from (IsIn s batch round clerk) (keying_of s batch round clerk)
      (λ k h. let both = has_filtered (is_paper_of batch round clerk) s.keyings k h in record { there = both.0; own = both.1 })

  -- if papers of the state form a whole keying, it is that keying
  run_is_keying : (b : BatchEntry) → batch_at s batch ≡ Some b → (ks : List KeyedEntry) → AllByRecursion (Has s.keyings) ks → is_whole b.size ks ≡ true
      → list_all (is_paper_of batch round clerk) ks ≡ true
      → ks ≡ keying_of s batch round clerk
  run_is_keying b found ks there whole own = go (keying_of s batch round clerk) refl ks there whole own
    where
      some_same : {x y : BatchEntry} → ◌≡◌ {A = Option BatchEntry} (Some x) (Some y) → x ≡ y
      some_same e = cc

      go : (all : List KeyedEntry) → keying_of s batch round clerk ≡ all → (js : List KeyedEntry) → AllByRecursion (Has s.keyings) js → is_whole b.size js ≡ true
          → list_all (is_paper_of batch round clerk) js ≡ true
          → js ≡ keying_of s batch round clerk
      go [] none [] there whole own = sym none
      go [] none (j ∷ js) there whole own =
          absurd (subst (λ l. Has l j) none (filtered_has (is_paper_of batch round clerk) s.keyings j there.0 (and_parts _ _ own).0))
      go (k ∷ rest) some js there whole own =
          let it = there_whole_of s is batch round clerk k rest some in
          let size : it.0 ≡ b = some_same (sym it.1 ∙ found) in
          let a = and_parts _ _ whole in
          let c = and_parts _ _ (subst (λ (x : BatchEntry). is_whole x.size (k ∷ rest) ≡ true) size it.2) in
          let many : length js ≡ length (k ∷ rest) = eqb-true _ b.size a.0 ∙ sym (eqb-true (length (k ∷ rest)) b.size c.0) in
          same_numbered 1 js (k ∷ rest) many a.1 c.1 (each_in js there own) (subst (AllByRecursion (IsIn s batch round clerk)) some keying_in) ∙ sym some

-- ---- what is read

all_mapped : {A X : Type 0} (p : X → Bool) (f : A → X) (xs : List A) → list_all (λ a. p (f a)) xs ≡ list_all p (map f xs)
all_mapped p f [] = refl
all_mapped p f (x ∷ xs) = ap (λ b. p (f x) && b) (all_mapped p f xs)

-- papers that are recognized as a keying are that keying
pub seen_keying : (s : OfficeState) → IsState s → (batch round clerk : ℕ) (b : BatchEntry) → batch_at s batch ≡ Some b → (ks : List KeyedPaper) → AllByRecursion (Has s.keyings) (map keyed_entry ks)
    → is_whole b.size (map keyed_entry ks) && list_all (λ k. is_paper_of batch round clerk (keyed_entry k)) ks ≡ true → map keyed_entry ks ≡ keying_of s batch round clerk
seen_keying s is batch round clerk b found ks there seen =
    let both = and_parts _ _ seen in
    run_is_keying s is batch round clerk b found (map keyed_entry ks) there both.0 (sym (all_mapped (is_paper_of batch round clerk) keyed_entry ks) ∙ both.1)

-- papers whose rows are in the table belong to the state
there_each : (all : List KeyedEntry) (ks : List KeyedPaper) → AllByRecursion (Has (map row_of_keyed all)) (map (λ k. row_of_keyed (keyed_entry k)) ks) → AllByRecursion (Has all) (map keyed_entry ks)
there_each all [] rows = tt
there_each all (k ∷ ks) rows =
    let it = has_mapped row_of_keyed all (row_of_keyed (keyed_entry k)) rows.0 in
    let same : keyed_entry k ≡ it.0 = sym (keyed_back (keyed_entry k)) ∙ ap keyed_in it.2 ∙ keyed_back it.0 in
    (subst (Has all) (sym same) it.1, there_each all ks rows.1)

pub if_there : {W F : Type 0} (items : W → List KeyedPaper) (s : OfficeState) (r : Result W F)
    → IfOk r (λ w. AllByRecursion (Has (tables_of s Keying)) (map (λ k. row_of_keyed (keyed_entry k)) (items w)))
    → IfOk r (λ w. AllByRecursion (Has s.keyings) (map keyed_entry (items w)))
unfolding tables_of tables_with
if_there items s (Ok w) rows = there_each s.keyings (items w) rows
if_there items s (Err f) rows = tt

pub if_any : {W F : Type 0} (r : Result W F) → IfOk r (λ w. ⊤)
if_any (Ok w) = tt
if_any (Err f) = tt

-- a read whose result isn't determined by the state
pub loads_any : {X : Type 0} {old new : State} {r : Result X Fault} → (HasCleanDisk new → (c : Contents) → RestsIfOpen c old → IfErr r (FailsBy old new))
    → (HasCleanDisk new → OnOk r (IsTrue new.is_open)) → OnlyReads old new
    → LoadsAt old new r (λ s x. ⊤)
loads_any {old = old} {new = new} {r = r} fails opens reads = record {
  shows = λ clean s at. if_any r;
  cause = λ clean s at. fails clean (tables_of s) at.rests;
  opens = opens;
  reads = reads;
  keeps = λ clean s at. is_at_read s old new reads clean at;
}

-- a read of papers that are in the table
pub loads_there : {W : Type 0} {old new : State} {r : Result W Fault} (items : W → List KeyedPaper)
    → (HasCleanDisk new → (c : Contents) → RestsIfOpen c old → IfOk r (λ w. AllByRecursion (Has (c Keying)) (map (λ k. row_of_keyed (keyed_entry k)) (items w))))
    → (HasCleanDisk new → (c : Contents) → RestsIfOpen c old → AllByRecursion IsKeyedRow (c Keying) → IfErr r (FailsBy old new)) → (HasCleanDisk new → OnOk r (IsTrue new.is_open)) → OnlyReads old new
    → LoadsAt old new r (λ s w. AllByRecursion (Has s.keyings) (map keyed_entry (items w)))
loads_there {old = old} {new = new} {r = r} items told fails opens reads = record {
  shows = λ clean s at. if_there items s r (told clean (tables_of s) at.rests);
  cause = λ clean s at. fails clean (tables_of s) at.rests (keyings_fit s at.is);
  opens = opens;
  reads = reads;
  keeps = λ clean s at. is_at_read s old new reads clean at;
}
