-- A keying exists if and only if its first paper does.
use Rattle.std.proofs.Common.{◌≡◌, ℕ, zero, suc, ◌≤◌, Bool, true, false, cond, not, ◌&&◌, ◌||◌, ◌==◌, List, [], ◌∷◌, map}
use Rattle.std.proofs.Common.{filter, Option, Some, None, is_some, inl, inr, refl, sym, ap, ◌∙◌, subst, true≢false, arith, Ordering, nat_cmp}
use Rattle.std.specs.Ordering.{is_eq, is_lt}
use Rattle.std.specs.List.{list_all}
use Rattle.std.proofs.lemmas.Bool.{and_parts, and_from, or_cases, leb-true, eqb-true, cases_eq}
use Rattle.std.proofs.lemmas.Bool.Decides.{nat_tests}
use Rattle.register.specs.Offices.{BatchEntry, ThirdEntry, KeyedEntry, OfficeState, put, batch_compared, batch_at, third_at, keying_of, entry_at}
use Rattle.register.specs.Agreement.{is_keyed, is_its_clerk, two_clerks, clerks, clerks_of}
use Rattle.register.specs.BatchConditions.{is_keyed_for, are_numbered, is_whole, is_round_of, are_rounds_to}
use Rattle.register.specs.StateConditions.{is_keyed_paper, IsState}
use Rattle.register.proofs.KeyedLemmas.{rounds_more}
use Rattle.register.proofs.MapLemmas.{kept_all, found_passes, found_number, found_filter}
use Rattle.store.proofs.FitLemmas.{keyings_in_range}
use Rattle.store.specs.Keyings.{is_paper_of}
use Rattle.store.proofs.FindLemmas.{keyed_compared}

-- ---- the first element that passes a test

head_passes : {X : Type 0} (p : X → Bool) (x : X) (xs ys : List X) → filter p ys ≡ x ∷ xs → p x ≡ true
head_passes p x xs [] is = absurd cc
head_passes {X} p x xs (y ∷ ys) is = go (p y) refl (λ later. head_passes p x xs ys later)
  where
    go : (b : Bool) → p y ≡ b → (filter p ys ≡ x ∷ xs → p x ≡ true) → p x ≡ true
    go true passes later = let first : y ∷ filter p ys ≡ x ∷ xs = rw passes at is in let same : y ≡ x = cc in ap p (sym same) ∙ passes
    go false fails later = later (rw fails at is)

-- the first element that passes one test also passes any test that all elements pass
head_has : {X : Type 0} (p q : X → Bool) (x : X) (xs ys : List X) → list_all q ys ≡ true → filter p ys ≡ x ∷ xs → q x ≡ true
head_has p q x xs ys all is = (and_parts _ _ (subst (λ zs. list_all q zs ≡ true) is (kept_all q p ys all))).0

-- ---- rounds

-- each round from 1 to the batch's latest is one of its rounds
round_among : (s : OfficeState) (b : BatchEntry) (n m : ℕ) → are_rounds_to s b n ≡ true → 1 ≤ m → m ≤ n → is_round_of s b m ≡ true
round_among s b zero m rounds low high = absurd (omega (arith, low, high))
round_among s b (suc n) m rounds low high = elim (cases_eq m (suc n)) [
  | inl last ↦ subst (λ k. is_round_of s b k ≡ true) (sym last) (and_parts _ _ (sym (rounds_more s b n) ∙ rounds)).0
  | inr other ↦ round_among s b n m (and_parts _ _ (sym (rounds_more s b n) ∙ rounds)).1 low (omega (arith, high, other))
]

-- ---- clerks

-- if all elements of a list pass a test after one has been inserted, the inserted element passes it, and so do the others
put_all : {X : Type 0} (cmp : X → X → Ordering) (p : X → Bool) (x : X) (ys : List X) → list_all p (put cmp x ys) ≡ true → (p x ≡ true) × (list_all p ys ≡ true)
put_all cmp p x [] all = and_parts _ _ all
put_all {X} cmp p x (y ∷ ys) all = go (is_lt (cmp x y)) all (put_all cmp p x ys)
  where
    go : (b : Bool) → list_all p (cond b (x ∷ y ∷ ys) (y ∷ put cmp x ys)) ≡ true → (list_all p (put cmp x ys) ≡ true → (p x ≡ true) × (list_all p ys ≡ true))
        → (p x ≡ true) × (list_all p (y ∷ ys) ≡ true)
    go true all later = and_parts _ _ all
    go false all later = let both = and_parts _ _ all in let others = later both.1 in (others.0, and_from _ _ both.0 others.1)

-- if all clerks of a batch pass a test, each of them does
each_clerk : (p : ℕ → Bool) (b : BatchEntry) (third : Option ThirdEntry) (clerk : ℕ) → list_all p (clerks b third) ≡ true → is_its_clerk clerk b third ≡ true → p clerk ≡ true
each_clerk p b third clerk all its = go third all its
  where
    is_first : list_all p (two_clerks b) ≡ true → (clerk == b.first_clerk) ≡ true → p clerk ≡ true
    is_first two same = ap p (eqb-true clerk b.first_clerk same) ∙ (put_all nat_cmp p b.first_clerk (b.second_clerk ∷ []) two).0

    is_second : list_all p (two_clerks b) ≡ true → (clerk == b.second_clerk) ≡ true → p clerk ≡ true
    is_second two same = ap p (eqb-true clerk b.second_clerk same) ∙ (and_parts _ _ (put_all nat_cmp p b.first_clerk (b.second_clerk ∷ []) two).1).0

    go : (o : Option ThirdEntry) → list_all p (clerks b o) ≡ true → is_its_clerk clerk b o ≡ true → p clerk ≡ true
    go None two its = elim (or_cases _ _ its) [
      | inl first ↦ is_first two first
      | inr other ↦ elim (or_cases _ _ other) [ inl second ↦ is_second two second | inr none ↦ absurd (true≢false (sym none)) ]
    ]
    go (Some t) all its =
        let both = put_all nat_cmp p t.clerk (two_clerks b) all in
        elim (or_cases _ _ its) [
          | inl first ↦ is_first both.1 first
          | inr other ↦ elim (or_cases _ _ other) [ inl second ↦ is_second both.1 second | inr third ↦ ap p (eqb-true clerk t.clerk third) ∙ both.0 ]
        ]

-- a keying is complete, if it exists
abbrev whole_if_there : ℕ → List KeyedEntry → Bool
whole_if_there size keying = not (is_keyed keying) || is_whole size keying

there_whole : (size : ℕ) (f : ℕ → List KeyedEntry) (cs : List ℕ) → list_all (is_whole size) (filter is_keyed (map f cs)) ≡ true → list_all (λ c. whole_if_there size (f c)) cs ≡ true
there_whole size f [] all = refl
there_whole size f (c ∷ cs) all = go (f c) all (there_whole size f cs)
  where
    go : (keying : List KeyedEntry) → list_all (is_whole size) (cond (is_keyed keying) (keying ∷ filter is_keyed (map f cs)) (filter is_keyed (map f cs))) ≡ true
        → (list_all (is_whole size) (filter is_keyed (map f cs)) ≡ true → list_all (λ d. whole_if_there size (f d)) cs ≡ true)
        → (whole_if_there size keying && list_all (λ d. whole_if_there size (f d)) cs) ≡ true
    go [] all later = later all
    go (k ∷ ks) all later = let both = and_parts _ _ all in and_from _ _ both.0 (later both.1)

-- the keying of a round by one of the batch's clerks is complete, if it exists
keying_whole : (s : OfficeState) (b : BatchEntry) (round clerk : ℕ) (k : KeyedEntry) (ks : List KeyedEntry) → keying_of s b.number round clerk ≡ k ∷ ks
    → is_its_clerk clerk b (third_at s b.number) ≡ true → is_round_of s b round ≡ true
    → is_whole b.size (k ∷ ks) ≡ true
keying_whole s b round clerk k ks there its of_round =
    let all = there_whole b.size (keying_of s b.number round) (clerks_of s b) (and_parts _ _ of_round).0 in
    subst (λ keying. whole_if_there b.size keying ≡ true) there (each_clerk (λ c. whole_if_there b.size (keying_of s b.number round c)) b (third_at s b.number) clerk all its)

first_of_whole : (size : ℕ) (k : KeyedEntry) (ks : List KeyedEntry) → is_whole size (k ∷ ks) ≡ true → k.paper ≡ 1
unfolding are_numbered
first_of_whole size k ks whole = eqb-true k.paper 1 (and_parts _ _ (and_parts _ _ whole).1).0

-- ---- the first paper of a keying

-- the batch, the round and the clerk of a paper
pub record HasNumbers (batch round clerk : ℕ) (k : KeyedEntry) : Type 0 where
  pub batch_is : k.batch ≡ batch
  pub round_is : k.round ≡ round
  pub clerk_is : k.clerk ≡ clerk

pub has_numbers : (batch round clerk : ℕ) (k : KeyedEntry) → is_paper_of batch round clerk k ≡ true → HasNumbers batch round clerk k
has_numbers batch round clerk k own =
    let rest = and_parts _ _ (and_parts _ _ own).1 in
    record { batch_is = eqb-true k.batch batch (and_parts _ _ own).0; round_is = eqb-true k.round round rest.0; clerk_is = eqb-true k.clerk clerk rest.1 }

round_low : (k : KeyedEntry) → is_keyed_paper k ≡ true → 1 ≤ k.round
unfolding is_keyed_paper
round_low k fine = leb-true 1 k.round (and_parts _ _ (and_parts _ _ (and_parts _ _ fine).1).0).0

module _ (s : OfficeState) (is : IsState s) (batch round clerk : ℕ) where
  -- if a keying exists, so does its batch, and the keying has each of the batch's papers
  pub there_whole_of : (k : KeyedEntry) (ks : List KeyedEntry) → keying_of s batch round clerk ≡ k ∷ ks → (b : BatchEntry) × (batch_at s batch ≡ Some b) × (is_whole b.size (k ∷ ks) ≡ true)
  there_whole_of k ks there =
      let own = has_numbers batch round clerk k (head_passes (is_paper_of batch round clerk) k ks s.keyings there) in
      let fine = head_has (is_paper_of batch round clerk) is_keyed_paper k ks s.keyings (keyings_in_range s is) there in
      go own fine (batch_at s k.batch) refl (head_has (is_paper_of batch round clerk) (λ (x : KeyedEntry). is_keyed_for s x (batch_at s x.batch)) k ks s.keyings (and_parts _ _ is.keyed).0 there)
    where
      go : HasNumbers batch round clerk k → is_keyed_paper k ≡ true → (o : Option BatchEntry) → batch_at s k.batch ≡ o → is_keyed_for s k o ≡ true
          → (b : BatchEntry) × (batch_at s batch ≡ Some b) × (is_whole b.size (k ∷ ks) ≡ true)
      go own fine None found keyed = absurd cc
      go own fine (Some b) found keyed =
          let parts = and_parts _ _ keyed in
          let number : k.batch ≡ b.number = found_number (λ (x : BatchEntry). x.number) s.batches k.batch b found in
          let rounds = found_passes (batch_compared k.batch) (λ (x : BatchEntry). are_rounds_to s x x.round) b s.batches (and_parts _ _ is.keyed).1 found in
          let of_round = round_among s b b.round k.round rounds (round_low k fine) (leb-true k.round b.round parts.0) in
          let same : keying_of s b.number k.round k.clerk ≡ k ∷ ks =
          ap (λ n. keying_of s n k.round k.clerk) (sym number ∙ own.batch_is) ∙ ap (λ n. keying_of s batch n k.clerk) own.round_is ∙ ap (keying_of s batch round) own.clerk_is ∙ there in
          (b, ap (batch_at s) (sym own.batch_is) ∙ found, keying_whole s b k.round k.clerk k ks same (and_parts _ _ parts.1).0 of_round)

  -- the first paper of a keying has number 1
  starts_at_one : (k : KeyedEntry) (ks : List KeyedEntry) → keying_of s batch round clerk ≡ k ∷ ks → k.paper ≡ 1
  starts_at_one k ks there = let it = there_whole_of k ks there in first_of_whole it.0.size k ks it.2

  -- a paper with the given numbers is found by those numbers
  found_by_numbers : (k : KeyedEntry) → is_paper_of batch round clerk k ≡ true → k.paper ≡ 1 → is_eq (keyed_compared batch round clerk 1 k) ≡ true
  found_by_numbers k own first = grind (arith, nat_tests)

  -- a paper found by the given numbers belongs to the keying
  of_the_keying : (k : KeyedEntry) → is_eq (keyed_compared batch round clerk 1 k) ≡ true → is_paper_of batch round clerk k ≡ true
  of_the_keying k found = grind (arith, nat_tests)

  -- a keying exists if and only if its first paper does
  pub first_paper_tells : is_some (entry_at (keyed_compared batch round clerk 1) s.keyings) ≡ is_keyed (keying_of s batch round clerk)
  first_paper_tells = ap is_some (sym (found_filter (keyed_compared batch round clerk 1) (is_paper_of batch round clerk) s.keyings of_the_keying)) ∙ go (keying_of s batch round clerk) refl
    where
      go : (ks : List KeyedEntry) → keying_of s batch round clerk ≡ ks → is_some (entry_at (keyed_compared batch round clerk 1) ks) ≡ is_keyed ks
      go [] there = refl
      go (k ∷ ks) there = rw (found_by_numbers k (head_passes (is_paper_of batch round clerk) k ks s.keyings there) (starts_at_one k ks there)) refl
