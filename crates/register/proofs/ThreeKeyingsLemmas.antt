-- The keyings of a batch by its two or three clerks: what is preserved when another clerk keys the batch.
use Rattle.std.proofs.Common.{inl, inr, ◌≡◌, ◌⊎◌, ℕ, ◌+◌, Bool, true, false, cond, codes, ◌&&◌, ◌||◌, ◌==◌, List, [], ◌∷◌, map, length, filter, find, Option, Some, None, refl, sym, ap, ◌∙◌}
use Rattle.std.specs.List.{list_all}
use Rattle.std.specs.Ordering.{nat_cmp, is_lt}
use Rattle.std.specs.Str.{bytes_eq}
use Rattle.std.proofs.lemmas.Bool.{and_parts, and_from, eqb-true}
use Rattle.std.proofs.lemmas.Slice.Eq.{bytes_eq-Decides}
use Rattle.register.specs.Offices.{BatchEntry, ThirdEntry, KeyedEntry, put}
use Rattle.register.specs.Agreement.{is_keyed, of_three, same_marks, agreed, is_doubtful, is_found_doubtful, has_doubtful, clerks}
use Rattle.register.specs.BatchConditions.{are_numbered, is_whole}
use Rattle.register.proofs.AgreedLemmas.{agreed_three}

-- the existing keyings by the given clerks, given what each clerk keyed
abbrev pub keyed_by : (ℕ → List KeyedEntry) → List ℕ → List (List KeyedEntry)
keyed_by f cs = filter is_keyed (map f cs)

-- a missing keying is empty
pub not_keyed : (keying : List KeyedEntry) → is_keyed keying ≡ false → keying ≡ []
not_keyed [] none = refl
not_keyed (k ∷ ks) none = absurd (cc)

-- ---- any number of clerks

-- two lists of keyings by the same clerks are equal if each clerk's keyings are equal
pub keyed_alike : (f g : ℕ → List KeyedEntry) (cs : List ℕ) → ((c : ℕ) → f c ≡ g c) → keyed_by f cs ≡ keyed_by g cs
keyed_alike f g [] same = refl
keyed_alike f g (c ∷ cs) same =
    ap (λ (ks : List KeyedEntry). cond (is_keyed ks) (ks ∷ keyed_by f cs) (keyed_by f cs)) (same c)
    ∙ ap (λ (others : List (List KeyedEntry)). cond (is_keyed (g c)) (g c ∷ others) others) (keyed_alike f g cs same)

-- if no clerk has keyed anything, there are no keyings
pub none_keyed : (f : ℕ → List KeyedEntry) (cs : List ℕ) → ((c : ℕ) → f c ≡ []) → keyed_by f cs ≡ []
none_keyed f [] none = refl
none_keyed f (c ∷ cs) none = rw (none c) (none_keyed f cs none)

-- another clerk who hasn't keyed anything doesn't change the keyings
pub put_unkeyed : (f : ℕ → List KeyedEntry) (c : ℕ) (cs : List ℕ) → f c ≡ [] → keyed_by f (put nat_cmp c cs) ≡ keyed_by f cs
put_unkeyed f c [] none = rw none refl
put_unkeyed f c (d ∷ ds) none = go (is_lt (nat_cmp c d)) (put_unkeyed f c ds none)
  where
    go : (b : Bool) → keyed_by f (put nat_cmp c ds) ≡ keyed_by f ds → keyed_by f (cond b (c ∷ d ∷ ds) (d ∷ put nat_cmp c ds)) ≡ keyed_by f (d ∷ ds)
    go true later = rw none refl
    go false later = ap (λ (others : List (List KeyedEntry)). cond (is_keyed (f d)) (f d ∷ others) others) later

-- if every keying passes a test, and new keyings do too, every keying still passes
pub all_grown : (p : List KeyedEntry → Bool) (f g : ℕ → List KeyedEntry) (cs : List ℕ) → ((c : ℕ) → (g c ≡ f c) ⊎ (p (g c) ≡ true)) → list_all p (keyed_by f cs) ≡ true
    → list_all p (keyed_by g cs) ≡ true
all_grown p f g [] each all = refl
all_grown p f g (c ∷ cs) each all = go (g c) (f c) (each c) all (all_grown p f g cs each)
  where
    go : (new old : List KeyedEntry) → (new ≡ old) ⊎ (p new ≡ true) → list_all p (cond (is_keyed old) (old ∷ keyed_by f cs) (keyed_by f cs)) ≡ true
        → (list_all p (keyed_by f cs) ≡ true → list_all p (keyed_by g cs) ≡ true) → list_all p (cond (is_keyed new) (new ∷ keyed_by g cs) (keyed_by g cs)) ≡ true
    go [] [] which all later = later all
    go [] (k ∷ ks) which all later = later (and_parts _ _ all).1
    go (j ∷ js) [] (inl same) all later = absurd (cc)
    go (j ∷ js) [] (inr passes) all later = and_from _ _ passes (later all)
    go (j ∷ js) (k ∷ ks) (inl same) all later = let parts = and_parts (p (k ∷ ks)) (list_all p (keyed_by f cs)) all in and_from _ _ (ap p same ∙ parts.0) (later parts.1)
    go (j ∷ js) (k ∷ ks) (inr passes) all later = and_from _ _ passes (later (and_parts (p (k ∷ ks)) (list_all p (keyed_by f cs)) all).1)

-- ---- a batch has three clerks, although one may be missing

-- what a clerk keyed, if that clerk exists
abbrev pub of_one : (ℕ → List KeyedEntry) → Option ℕ → List KeyedEntry
of_one f None = []
of_one f (Some c) = f c

pub record AreThree (cs : List ℕ) : Type 0 where
  pub first : ℕ
  pub second : ℕ
  pub third : Option ℕ
  pub are : (f : ℕ → List KeyedEntry) → keyed_by f cs ≡ of_three (f first) (f second) (of_one f third)

pub are_three : (b : BatchEntry) (third : Option ThirdEntry) → AreThree (clerks b third)
are_three b None = go (is_lt (nat_cmp b.first_clerk b.second_clerk))
  where
    go : (x : Bool) → AreThree (cond x (b.first_clerk ∷ b.second_clerk ∷ []) (b.second_clerk ∷ b.first_clerk ∷ []))
    go true = record { first = b.first_clerk; second = b.second_clerk; third = None; are = λ f. refl }
    go false = record { first = b.second_clerk; second = b.first_clerk; third = None; are = λ f. refl }
are_three b (Some t) = go (is_lt (nat_cmp b.first_clerk b.second_clerk))
  where
    among : (low high : ℕ) (x y : Bool) → AreThree (cond x (t.clerk ∷ low ∷ high ∷ []) (low ∷ cond y (t.clerk ∷ high ∷ []) (high ∷ t.clerk ∷ [])))
    among low high true y = record { first = t.clerk; second = low; third = Some high; are = λ f. refl }
    among low high false true = record { first = low; second = t.clerk; third = Some high; are = λ f. refl }
    among low high false false = record { first = low; second = high; third = Some t.clerk; are = λ f. refl }

    go : (x : Bool) → AreThree (put nat_cmp t.clerk (cond x (b.first_clerk ∷ b.second_clerk ∷ []) (b.second_clerk ∷ b.first_clerk ∷ [])))
    go true = among b.first_clerk b.second_clerk (is_lt (nat_cmp t.clerk b.first_clerk)) (is_lt (nat_cmp t.clerk b.second_clerk))
    go false = among b.second_clerk b.first_clerk (is_lt (nat_cmp t.clerk b.second_clerk)) (is_lt (nat_cmp t.clerk b.first_clerk))

-- ---- keyings with the same marks

-- in numbered keyings with the same marks, the same papers are doubtful
pub alike_doubtful : (n p : ℕ) (js ks : List KeyedEntry) → are_numbered n js ≡ true → are_numbered n ks ≡ true → same_marks js ks ≡ true → has_doubtful js p ≡ has_doubtful ks p
unfolding are_numbered same_marks
alike_doubtful n p [] [] first second same = refl
alike_doubtful n p [] (k ∷ ks) first second same = absurd (cc)
alike_doubtful n p (j ∷ js) [] first second same = absurd (cc)
alike_doubtful n p (j ∷ js) (k ∷ ks) first second same =
    let one = and_parts (j.paper == n) (are_numbered (n + 1) js) first in
    let other = and_parts (k.paper == n) (are_numbered (n + 1) ks) second in
    let marks = and_parts (bytes_eq j.marks k.marks) (same_marks js ks) same in
    let number : j.paper ≡ k.paper = eqb-true j.paper n one.0 ∙ sym (eqb-true k.paper n other.0) in
    let written : j.marks ≡ k.marks = (bytes_eq-Decides j.marks k.marks).0 marks.0 in
    ap (λ (b : Bool). is_found_doubtful (cond b (Some j) (find (λ (x : KeyedEntry). x.paper == p) js))) (ap (λ (m : ℕ). m == p) number)
    ∙ go (k.paper == p) (is_alike written) (alike_doubtful (n + 1) p js ks one.1 other.1 marks.1)
  where
    is_alike : j.marks ≡ k.marks → is_doubtful j ≡ is_doubtful k
    is_alike written = ap (λ (marks : List ℕ). bytes_eq marks (codes "D")) written

    go : (b : Bool) → is_doubtful j ≡ is_doubtful k → has_doubtful js p ≡ has_doubtful ks p
        → is_found_doubtful (cond b (Some j) (find (λ (x : KeyedEntry). x.paper == p) js)) ≡ is_found_doubtful (cond b (Some k) (find (λ (x : KeyedEntry). x.paper == p) ks))
    go true alike later = alike
    go false alike later = later

-- ---- adding keyings

-- a keying is unchanged or didn't exist before
abbrev pub Grows : List KeyedEntry → List KeyedEntry → Type 0
Grows old new = (new ≡ old) ⊎ (old ≡ [])

-- each existing keying among three is numbered
pub numbered_three : (size : ℕ) (a b c : List KeyedEntry) → list_all (is_whole size) (of_three a b c) ≡ true
    → (are_numbered 1 a ≡ true) × ((are_numbered 1 b ≡ true) × (are_numbered 1 c ≡ true))
unfolding are_numbered
numbered_three size a b c all =
    let first = front a (filter is_keyed (b ∷ c ∷ [])) all in
    let second = front b (filter is_keyed (c ∷ [])) first.1 in
    (first.0, (second.0, (front c [] second.1).0))
  where
    front : (ks : List KeyedEntry) (others : List (List KeyedEntry)) → list_all (is_whole size) (cond (is_keyed ks) (ks ∷ others) others) ≡ true
        → (are_numbered 1 ks ≡ true) × (list_all (is_whole size) others ≡ true)
    front [] others all = (refl, all)
    front (k ∷ ks) others all =
        let parts = and_parts (is_whole size (k ∷ ks)) (list_all (is_whole size) others) all in
        ((and_parts (length (k ∷ ks) == size) (are_numbered 1 (k ∷ ks)) parts.0).1, parts.1)

module _ (p size : ℕ) where
  doubtful_by : (a b c : List KeyedEntry) → has_doubtful (agreed (of_three a b c)) p
      ≡ has_doubtful (cond (is_keyed a && (same_marks a b || same_marks a c)) a (cond (is_keyed b && same_marks b c) b [])) p
  doubtful_by a b c = ap (λ (ks : List KeyedEntry). has_doubtful ks p) (agreed_three a b c)

  -- a single keying doesn't agree with any other
  alone : (c : List KeyedEntry) → has_doubtful (agreed (of_three [] [] c)) p ≡ false
  alone [] = refl
  alone (z ∷ c) = refl

  alone_second : (b : List KeyedEntry) → has_doubtful (agreed (of_three [] b [])) p ≡ false
  alone_second [] = refl
  alone_second (y ∷ b) = refl

  alone_first : (a : List KeyedEntry) → has_doubtful (agreed (of_three a [] [])) p ≡ false
  alone_first [] = refl
  alone_first (x ∷ a) = refl

  -- adding the first keying
  first_more : (k b c : List KeyedEntry) → list_all (is_whole size) (of_three k b c) ≡ true → has_doubtful (agreed (of_three [] b c)) p ≡ true → has_doubtful (agreed (of_three k b c)) p ≡ true
  first_more k b c all was =
      let each = numbered_three size k b c all in
      doubtful_by k b c ∙ go (is_keyed k) (same_marks k b) refl (same_marks k c) refl (is_keyed b) (same_marks b c) refl each.0 each.1.0 each.1.1 (sym (doubtful_by [] b c) ∙ was)
    where
      go : (kept : Bool) (r : Bool) → same_marks k b ≡ r → (s : Bool) → same_marks k c ≡ s → (there : Bool) (t : Bool) → same_marks b c ≡ t
          → are_numbered 1 k ≡ true → are_numbered 1 b ≡ true → are_numbered 1 c ≡ true → has_doubtful (cond (there && t) b []) p ≡ true
          → has_doubtful (cond (kept && (r || s)) k (cond (there && t) b [])) p ≡ true
      go false r is_r s is_s there t is_t x y z was = was
      go true false is_r false is_s there t is_t x y z was = was
      go true true is_r s is_s true true is_t x y z was = alike_doubtful 1 p k b x y is_r ∙ was
      go true false is_r true is_s true true is_t x y z was = alike_doubtful 1 p k c x z is_s ∙ (sym (alike_doubtful 1 p b c y z is_t) ∙ was)
      go true true is_r s is_s false t is_t x y z was = absurd (cc)
      go true false is_r true is_s false t is_t x y z was = absurd (cc)
      go true true is_r s is_s true false is_t x y z was = absurd (cc)
      go true false is_r true is_s true false is_t x y z was = absurd (cc)

  -- adding the second keying
  second_more : (a k c : List KeyedEntry) → has_doubtful (agreed (of_three a [] c)) p ≡ true → has_doubtful (agreed (of_three a k c)) p ≡ true
  unfolding same_marks
  second_more [] k [] was = absurd (cc)
  second_more [] k (z ∷ c) was = absurd (cc)
  second_more (x ∷ a) k c was = doubtful_by (x ∷ a) k c ∙ go (same_marks (x ∷ a) k) (same_marks (x ∷ a) c) (sym (doubtful_by (x ∷ a) [] c) ∙ was)
    where
      go : (r s : Bool) → has_doubtful (cond (same_marks (x ∷ a) [] || s) (x ∷ a) []) p ≡ true → has_doubtful (cond (r || s) (x ∷ a) (cond (is_keyed k && same_marks k c) k [])) p ≡ true
      go true s was = found s was
        where
          found : (b : Bool) → has_doubtful (cond b (x ∷ a) []) p ≡ true → has_doubtful (x ∷ a) p ≡ true
          found true was = was
          found false was = absurd (cc)
      go false true was = was
      go false false was = absurd (cc)

  -- adding the third keying
  third_more : (a b k : List KeyedEntry) → has_doubtful (agreed (of_three a b [])) p ≡ true → has_doubtful (agreed (of_three a b k)) p ≡ true
  unfolding same_marks
  third_more [] [] k was = absurd (cc)
  third_more [] (y ∷ b) k was = absurd (cc)
  third_more (x ∷ a) [] k was = absurd (cc)
  third_more (x ∷ a) (y ∷ b) k was = doubtful_by (x ∷ a) (y ∷ b) k ∙ go (same_marks (x ∷ a) (y ∷ b)) (same_marks (x ∷ a) k) (sym (doubtful_by (x ∷ a) (y ∷ b) []) ∙ was)
    where
      go : (r s : Bool) → has_doubtful (cond (r || same_marks (x ∷ a) []) (x ∷ a) (cond (same_marks (y ∷ b) []) (y ∷ b) [])) p ≡ true
          → has_doubtful (cond (r || s) (x ∷ a) (cond (same_marks (y ∷ b) k) (y ∷ b) [])) p ≡ true
      go true s was = was
      go false s was = absurd (cc)

  -- a doubtful paper among a batch's agreed papers remains among them when another clerk keys the batch
  pub doubtful_still : (a b c x y z : List KeyedEntry) → Grows a x → Grows b y → Grows c z → list_all (is_whole size) (of_three x y z) ≡ true
      → has_doubtful (agreed (of_three a b c)) p ≡ true → has_doubtful (agreed (of_three x y z)) p ≡ true
  doubtful_still a b c x y z (inl i) (inl j) (inl k) all was = rw (i, j, k) was
  doubtful_still a b c x y z (inr i) (inl j) (inl k) all was =
      first_more x y z all (ap (λ (ks : List KeyedEntry). has_doubtful (agreed (of_three [] ks z)) p) j
      ∙ (ap (λ (ks : List KeyedEntry). has_doubtful (agreed (of_three [] b ks)) p) k ∙ (ap (λ (ks : List KeyedEntry). has_doubtful (agreed (of_three ks b c)) p) (sym i) ∙ was)))
  doubtful_still a b c x y z (inl i) (inr j) (inl k) all was =
      second_more x y z (ap (λ (ks : List KeyedEntry). has_doubtful (agreed (of_three ks [] z)) p) i
      ∙ (ap (λ (ks : List KeyedEntry). has_doubtful (agreed (of_three a [] ks)) p) k ∙ (ap (λ (ks : List KeyedEntry). has_doubtful (agreed (of_three a ks c)) p) (sym j) ∙ was)))
  doubtful_still a b c x y z (inl i) (inl j) (inr k) all was =
      third_more x y z (ap (λ (ks : List KeyedEntry). has_doubtful (agreed (of_three ks y [])) p) i
      ∙ (ap (λ (ks : List KeyedEntry). has_doubtful (agreed (of_three a ks [])) p) j ∙ (ap (λ (ks : List KeyedEntry). has_doubtful (agreed (of_three a b ks)) p) (sym k) ∙ was)))
  doubtful_still a b c x y z (inr i) (inr j) k all was = absurd (none (ap (λ (ks : List KeyedEntry). has_doubtful (agreed (of_three ks b c)) p) (sym i) ∙ was))
    where
      none : has_doubtful (agreed (of_three [] b c)) p ≡ true → ⊥
      none was = let lost : has_doubtful (agreed (of_three [] [] c)) p ≡ true = ap (λ (ks : List KeyedEntry). has_doubtful (agreed (of_three [] ks c)) p) (sym j) ∙ was in let is = alone c in cc
  doubtful_still a b c x y z (inr i) (inl j) (inr k) all was = absurd (none (ap (λ (ks : List KeyedEntry). has_doubtful (agreed (of_three ks b c)) p) (sym i) ∙ was))
    where
      none : has_doubtful (agreed (of_three [] b c)) p ≡ true → ⊥
      none was = let lost : has_doubtful (agreed (of_three [] b [])) p ≡ true = ap (λ (ks : List KeyedEntry). has_doubtful (agreed (of_three [] b ks)) p) (sym k) ∙ was in let is = alone_second b in cc
  doubtful_still a b c x y z (inl i) (inr j) (inr k) all was = absurd (none (ap (λ (ks : List KeyedEntry). has_doubtful (agreed (of_three a ks c)) p) (sym j) ∙ was))
    where
      none : has_doubtful (agreed (of_three a [] c)) p ≡ true → ⊥
      none was = let lost : has_doubtful (agreed (of_three a [] [])) p ≡ true = ap (λ (ks : List KeyedEntry). has_doubtful (agreed (of_three a [] ks)) p) (sym k) ∙ was in let is = alone_first a in cc
