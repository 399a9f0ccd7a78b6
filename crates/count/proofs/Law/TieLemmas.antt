-- In a nonempty group, some member is highest and some member is lowest.
use Rattle.std.proofs.Common.{◌≡◌, ℕ, ◌||◌, Bool, true, false, not, cond, eqb, nat_eq, List, [], ◌∷◌, refl, ap, ◌∙◌, Ordering}
use Rattle.std.specs.List.{list_any, filter}
use Rattle.std.specs.Ordering.{is_lt}
use Rattle.std.specs.declared.cmp.Ordering.TheVariants.{Less, Equal, Greater}
use Rattle.std.proofs.lemmas.Bool.{eq-eqb, eqb-true}
use Rattle.std.proofs.lemmas.Cmp.{nat_list_cmp_total, tied_itself}
use Rattle.count.specs.Law.Contest.{History, In}
use Rattle.count.specs.Law.Due.{trace, is_above, highest, lowest}
use Rattle.count.proofs.ChoiceLemmas.{or_later}

keep_choice : (c x : ℕ) (p : ℕ → Bool) (xs : List ℕ) (b t : Bool) → p x ≡ b → eqb c x ≡ t → p c ≡ true →
    (In c xs → In c (filter p xs)) → (t || list_any (nat_eq c) xs) ≡ true → list_any (nat_eq c) (cond b (x ∷ filter p xs) (filter p xs)) ≡ true
keep_choice c x p xs true true is same passes later h = ap (λ t. t || list_any (nat_eq c) (filter p xs)) same
keep_choice c x p xs true false is same passes later h = ap (λ t. t || list_any (nat_eq c) (filter p xs)) same ∙ later h
keep_choice c x p xs false true is same passes later h = let e = ap p (eqb-true c x same) in cc
keep_choice c x p xs false false is same passes later h = later h

-- a member that passes the test is in the filtered list
pub filter-in : (c : ℕ) (p : ℕ → Bool) (xs : List ℕ) → p c ≡ true → In c xs → In c (filter p xs)
filter-in c p [] passes h = cc
filter-in c p (x ∷ xs) passes h = keep_choice c x p xs (p x) (eqb c x) refl refl passes (filter-in c p xs passes) h

-- a test that no member passes
pub none-any : (p : ℕ → Bool) (xs : List ℕ) → ((d : ℕ) → In d xs → p d ≡ false) → list_any p xs ≡ false
none-any p [] h = refl
none-any p (x ∷ xs) h =
    ap (λ b. b || list_any p xs) (h x (ap (λ b. b || list_any (nat_eq x) xs) (eq-eqb x x refl)))
    ∙ none-any p xs (λ d k. h d (or_later (nat_eq d x) (list_any (nat_eq d) xs) k))

-- a member of a group that no other member beats
record IsUnbeaten (beats : ℕ → ℕ → Bool) (group : List ℕ) : Type 0 where
  pub c : ℕ
  pub is_member : In c group
  pub unbeaten : (d : ℕ) → In d group → beats d c ≡ false

-- no member beats itself, and beating is transitive
pub record IsContested (beats : ℕ → ℕ → Bool) : Type 0 where
  pub never_self : (c : ℕ) → beats c c ≡ false
  pub through : (a b c : ℕ) → beats a b ≡ true → beats b c ≡ true → beats a c ≡ true

not_beaten : (beats : ℕ → ℕ → Bool) (x m d : ℕ) (b : Bool) → IsContested beats → beats d x ≡ b → beats x m ≡ true → beats d m ≡ false → b ≡ false
not_beaten beats x m d true laws e over not_over = let t = laws.through d x m e over in cc
not_beaten beats x m d false laws e over not_over = refl

-- by cases: d is the first member, or in the rest
by_member : (beats : ℕ → ℕ → Bool) (d x c : ℕ) (b : Bool) (rest : List ℕ) → nat_eq d x ≡ b → beats x c ≡ false → (In d rest → beats d c ≡ false) → (b || list_any (nat_eq d) rest) ≡ true →
    beats d c ≡ false
by_member beats d x c true rest same first others h = ap (λ y. beats y c) (eqb-true d x same) ∙ first
by_member beats d x c false rest same first others h = others h

stronger : (beats : ℕ → ℕ → Bool) (x : ℕ) (rest : List ℕ) (b : Bool) → IsContested beats → (best : IsUnbeaten beats rest) → beats x best.c ≡ b → IsUnbeaten beats (x ∷ rest)
stronger beats x rest true laws best e = record {
  c = x;
  is_member = ap (λ b. b || list_any (nat_eq x) rest) (eq-eqb x x refl);
  unbeaten = λ d k. by_member beats d x x (nat_eq d x) rest refl (laws.never_self x) (λ j. not_beaten beats x best.c d _ laws refl e (best.unbeaten d j)) k;
}
stronger beats x rest false laws best e = record {
  c = best.c;
  is_member = or_later (nat_eq best.c x) (list_any (nat_eq best.c) rest) best.is_member;
  unbeaten = λ d k. by_member beats d x best.c (nat_eq d x) rest refl e (best.unbeaten d) k;
}

some-unbeaten : (beats : ℕ → ℕ → Bool) (x : ℕ) (xs : List ℕ) → IsContested beats → IsUnbeaten beats (x ∷ xs)
some-unbeaten beats x [] laws = record {
  c = x;
  is_member = ap (λ b. b || false) (eq-eqb x x refl);
  unbeaten = λ d k. by_member beats d x x (nat_eq d x) [] refl (laws.never_self x) (λ j. let e : false ≡ true = j in cc) k;
}
some-unbeaten beats x (y ∷ ys) laws = stronger beats x (y ∷ ys) _ laws (some-unbeaten beats y ys laws) refl

-- in a nonempty group some members are unbeaten
pub best-some : (beats : ℕ → ℕ → Bool) (x : ℕ) (xs : List ℕ) → IsContested beats → filter (λ c. not (list_any (λ d. beats d c) (x ∷ xs))) (x ∷ xs) ≡ [] → ⊥
best-some beats x xs laws empty =
    let best = some-unbeaten beats x xs laws in
    let passes : not (list_any (λ d. beats d best.c) (x ∷ xs)) ≡ true = ap not (none-any (λ d. beats d best.c) (x ∷ xs) best.unbeaten) in
    let among = filter-in best.c (λ c. not (list_any (λ d. beats d c) (x ∷ xs))) (x ∷ xs) passes best.is_member in
    let e = ap (list_any (nat_eq best.c)) empty in
    cc

less : (o : Ordering) → is_lt o ≡ true → o ≡ Less
less Less h = refl
less Equal h = cc
less Greater h = cc

above-self : (stages : History) (c : ℕ) → is_above stages c c ≡ false
above-self stages c = ap is_lt (tied_itself nat_list_cmp_total (trace stages c))

above-through : (stages : History) (a b c : ℕ) → is_above stages a b ≡ true → is_above stages b c ≡ true → is_above stages a c ≡ true
above-through stages a b c h k =
    ap is_lt (nat_list_cmp_total.trans (trace stages c) (trace stages b) (trace stages a) (less _ k) (less _ h))

pub highest-some : (stages : History) (x : ℕ) (xs : List ℕ) → highest stages (x ∷ xs) ≡ [] → ⊥
highest-some stages x xs = best-some (λ d c. is_above stages d c) x xs (record { never_self = above-self stages; through = above-through stages })

pub lowest-some : (stages : History) (x : ℕ) (xs : List ℕ) → lowest stages (x ∷ xs) ≡ [] → ⊥
lowest-some stages x xs = best-some (λ d c. is_above stages c d) x xs (record { never_self = above-self stages; through = λ a b c h k. above-through stages c b a k h })
