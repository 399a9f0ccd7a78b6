-- The candidates of a ward, read back from the names for all numbers and the withdrawn numbers.
use Rattle.std.proofs.Common.{◌≡◌, ◌∙◌, ℕ, zero, suc, ◌+◌, ◌<◌, ◌≤◌, ◌||◌, nat_eq, List, [], ◌∷◌, Bool, true, false, map, refl, sym, ap, subst, arith, Some, None, is_none}
use Rattle.std.specs.Prelude.{◌==◌, if◌then◌else◌}
use Rattle.std.specs.List.{filter, list_any, range_with_len}
use Rattle.std.proofs.lemmas.Bool.{eq-eqb, eqb-true, eqb-false, ne_eqb}
use Rattle.sheet.specs.Ballots.{name_at}
use Rattle.checker.specs.Tokens.{Text}
use Rattle.checker.specs.Wards.{candidates_from}
use Rattle.checker.proofs.QuoteLaws.{name_of}

-- ---- numbers in a range

skip_one : (b : Bool) (c a : ℕ) (xs : List ℕ) → (c ≡ a → ⊥) → list_any (nat_eq c) (if b then a ∷ xs else xs) ≡ list_any (nat_eq c) xs
skip_one true c a xs differ = ap (λ t. t || list_any (nat_eq c) xs) (ne_eqb c a differ)
skip_one false c a xs differ = refl

none_lower : (p : ℕ → Bool) (a n c : ℕ) → c < a → list_any (nat_eq c) (filter p (range_with_len a n)) ≡ false
none_lower p a zero c low = refl
none_lower p a (suc n) c low =
    skip_one (p a) c a (filter p (range_with_len (a + 1) n)) (λ e. omega (arith, e)) ∙ none_lower p (a + 1) n c (omega arith)

here_it_is : (b : Bool) (c a : ℕ) (xs : List ℕ) → c ≡ a → list_any (nat_eq c) xs ≡ false → list_any (nat_eq c) (if b then a ∷ xs else xs) ≡ b
here_it_is true c a xs same none = ap (λ t. t || list_any (nat_eq c) xs) (eq-eqb c a same)
here_it_is false c a xs same none = none

-- a number in a range is among those that pass a test if and only if it passes the test
pub any_range : (p : ℕ → Bool) (a n c : ℕ) → a ≤ c → c < a + n → list_any (nat_eq c) (filter p (range_with_len a n)) ≡ p c
any_range p a zero c low high = absurd (omega arith)
any_range p a (suc n) c low high = by (nat_eq c a) refl (λ differ. any_range p (a + 1) n c (omega (arith, differ)) (omega arith))
  where
    by : (b : Bool) → nat_eq c a ≡ b → ((c ≡ a → ⊥) → list_any (nat_eq c) (filter p (range_with_len (a + 1) n)) ≡ p c) → list_any (nat_eq c) (filter p (range_with_len a (suc n))) ≡ p c
    by true e rest =
        let same = eqb-true c a e in
        here_it_is (p a) c a (filter p (range_with_len (a + 1) n)) same (none_lower p (a + 1) n c (omega (arith, same))) ∙ ap p (sym same)
    by false e rest = skip_one (p a) c a (filter p (range_with_len (a + 1) n)) (eqb-false c a e) ∙ rest (eqb-false c a e)

-- ---- the candidates of a ward, by number

-- ascending numbers, at least a given one and below a given end
abbrev pub Rise : ℕ → ℕ → List (ℕ × Text) → Type 0
Rise low end [] = Unit {0}
Rise low end (x ∷ xs) = (low ≤ x.0) × (x.0 < end) × Rise (x.0 + 1) end xs

unnamed : (low end : ℕ) (xs : List (ℕ × Text)) (c : ℕ) → Rise low end xs → c < low → name_at xs c ≡ None
unnamed low end [] c rise below = refl
unnamed low end (x ∷ xs) c rise below =
    rw (ne_eqb x.0 c (λ e. omega (arith, e, rise.0))) (unnamed (x.0 + 1) end xs c rise.2 (omega (arith, rise.0)))

-- the candidates of a ward, starting with a given number, rebuilt from the names for all numbers in order
module _ (candidates : List (ℕ × Text)) (withdrawn : List ℕ) where
  pub rebuilt : (n k end : ℕ) (left : List (ℕ × Text)) → end ≡ k + n → Rise k end left → ((c : ℕ) → k ≤ c → name_at candidates c ≡ name_at left c)
      → ((c : ℕ) → k ≤ c → c < end → list_any (nat_eq c) withdrawn ≡ is_none (name_at candidates c)) → candidates_from withdrawn k (map (name_of candidates) (range_with_len k n)) ≡ left
  rebuilt zero k end [] is rise same missing = refl
  rebuilt zero k end (x ∷ left) is rise same missing = absurd (omega (arith, is, rise.0, rise.1))
  rebuilt (suc n) k end [] is rise same missing =
      let none : name_at candidates k ≡ None = same k (omega arith) in
      let gone : list_any (nat_eq k) withdrawn ≡ true = missing k (omega arith) (omega (arith, is)) ∙ ap is_none none in
      rw gone (rebuilt n (k + 1) end [] (omega (arith, is)) tt (λ c low. same c (omega arith)) (λ c low high. missing c (omega arith) high))
  rebuilt (suc n) k end (x ∷ left) is rise same missing = by (x.0 == k) refl
      (rebuilt n (k + 1) end left (omega (arith, is)))
      (rebuilt n (k + 1) end (x ∷ left) (omega (arith, is)))
    where
      by : (b : Bool) → (x.0 == k) ≡ b
          → (Rise (k + 1) end left → ((c : ℕ) → k + 1 ≤ c → name_at candidates c ≡ name_at left c) → ((c : ℕ) → k + 1 ≤ c → c < end → list_any (nat_eq c) withdrawn ≡ is_none (name_at candidates c))
          → candidates_from withdrawn (k + 1) (map (name_of candidates) (range_with_len (k + 1) n)) ≡ left)
          → (Rise (k + 1) end (x ∷ left) → ((c : ℕ) → k + 1 ≤ c → name_at candidates c ≡ name_at (x ∷ left) c)
          → ((c : ℕ) → k + 1 ≤ c → c < end → list_any (nat_eq c) withdrawn ≡ is_none (name_at candidates c))
          → candidates_from withdrawn (k + 1) (map (name_of candidates) (range_with_len (k + 1) n)) ≡ x ∷ left)
          → candidates_from withdrawn k (map (name_of candidates) (range_with_len k (suc n))) ≡ x ∷ left
      by true e taken passed =
          let number = eqb-true x.0 k e in
          let named : name_at candidates k ≡ Some x.1 = same k (omega arith) ∙ rw e refl in
          let stands : list_any (nat_eq k) withdrawn ≡ false = missing k (omega arith) (omega (arith, is)) ∙ ap is_none named in
          let others = taken (subst (λ m. Rise (m + 1) end left) number rise.2) (λ c low. same c (omega arith) ∙ rw (ne_eqb x.0 c (λ m. omega (arith, m, number))) refl)
          (λ c low high. missing c (omega arith) high) in
          rw (stands, named, others) (ap (λ m. (m, x.1) ∷ left) (sym number))
      by false e taken passed =
          let differ = eqb-false x.0 k e in
          let higher : k + 1 ≤ x.0 = omega (arith, differ, rise.0) in
          let none : name_at candidates k ≡ None = same k (omega arith) ∙ unnamed (k + 1) end (x ∷ left) k (higher, rise.1, rise.2) (omega arith) in
          let gone : list_any (nat_eq k) withdrawn ≡ true = missing k (omega arith) (omega (arith, is)) ∙ ap is_none none in
          rw gone (passed (higher, rise.1, rise.2) (λ c low. same c (omega arith)) (λ c low high. missing c (omega arith) high))
