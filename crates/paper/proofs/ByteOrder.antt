-- Byte strings of equal length sort in the same order as the numbers that they represent, most significant byte
-- first.
use Rattle.std.proofs.Common.{◌≡◌, ℕ, suc, zero, ◌+◌, ◌*◌, ◌^◌, ◌<◌, ◌≤◌, inl, inr, List, [], ◌∷◌, length, take, get_or, min, refl, sym, ap, ◌∙◌, arith}
use Rattle.std.specs.Cmp.{nat_cmp_is}
use Rattle.std.specs.Cmp.Lexicographic.{slice_cmp}
use Rattle.std.specs.Ordering.{nat_cmp, ordering_then, MatchOrdering}
use Rattle.std.specs.declared.cmp.Ordering.{Ordering}
use Rattle.std.specs.declared.cmp.Ordering.TheVariants.{Less, Equal, Greater}
use Rattle.std.proofs.Math.Nat.{pow-suc, mul-le-mul_right}
use Rattle.std.proofs.lemmas.Bool.{cases_order}
use Rattle.std.proofs.lemmas.Cmp.{ranked}
use Rattle.std.proofs.lemmas.List.{length-take}
use Rattle.paper.specs.Padded.{number_of}

abbrev AreBytes : List ℕ → Type 0
AreBytes xs = (i : ℕ) → get_or xs i 0 < 256

bytes-take : (k : ℕ) (xs : List ℕ) → AreBytes xs → AreBytes (take k xs)
bytes-take zero xs bytes i = omega arith
bytes-take (suc k) [] bytes i = omega arith
bytes-take (suc k) (x ∷ xs) bytes zero = bytes 0
bytes-take (suc k) (x ∷ xs) bytes (suc i) = bytes-take k xs (λ j. bytes (suc j)) i

-- the number that a byte string represents is less than the smallest number with one more byte
number-below : (xs : List ℕ) → AreBytes xs → number_of xs < 256 ^ length xs
number-below [] bytes = omega arith
number-below (x ∷ xs) bytes =
    let within : x * 256 ^ length xs ≤ 255 * 256 ^ length xs = mul-le-mul_right (256 ^ length xs) (omega (arith, bytes 0)) in
    omega (arith, within, number-below xs (λ i. bytes (suc i)), pow-suc 256 (length xs))

-- adding the same number to two numbers preserves their order
order_shifted : (a m n : ℕ) (o : Ordering) → MatchOrdering o (m < n) (m ≡ n) (n < m) → MatchOrdering o (a + m < a + n) (a + m ≡ a + n) (a + n < a + m)
order_shifted a m n Less is = omega (arith, is)
order_shifted a m n Equal is = ap (λ k. a + k) is
order_shifted a m n Greater is = omega (arith, is)

order-added : (a m n : ℕ) → nat_cmp (a + m) (a + n) ≡ nat_cmp m n
order-added a m n = sym (nat_cmp_is (a + m) (a + n) (nat_cmp m n) (order_shifted a m n (nat_cmp m n) (ranked m n (nat_cmp m n) refl)))

-- a number with a lower first byte is lower
first_below : (x y m n power : ℕ) → x < y → m < power → x * power + m < y * power + n
first_below x y m n power below small =
    let more : (x + 1) * power ≤ y * power = mul-le-mul_right power (omega (arith, below)) in
    omega (arith, more, small)

number-order : (xs ys : List ℕ) → AreBytes xs → AreBytes ys → length xs ≡ length ys → nat_cmp (number_of xs) (number_of ys) ≡ slice_cmp nat_cmp xs ys
number-order [] [] bytes others long = refl
number-order [] (y ∷ ys) bytes others long = absurd (omega (arith, long))
number-order (x ∷ xs) [] bytes others long = absurd (omega (arith, long))
number-order (x ∷ xs) (y ∷ ys) bytes others long =
    let same : length xs ≡ length ys = omega (arith, long) in
    let power : 256 ^ length xs ≡ 256 ^ length ys = ap (λ n. 256 ^ n) same in
    let before = number-order xs ys (λ i. bytes (suc i)) (λ i. others (suc i)) same in
    elim (cases_order x y) [
      | inl equal ↦
          ap (λ p. nat_cmp (x * p + number_of xs) (number_of (y ∷ ys))) power
          ∙ ap (λ z. nat_cmp (z * 256 ^ length ys + number_of xs) (number_of (y ∷ ys))) equal
          ∙ order-added (y * 256 ^ length ys) (number_of xs) (number_of ys)
          ∙ before
          ∙ ap (λ o. ordering_then o (slice_cmp nat_cmp xs ys)) (nat_cmp_is x y Equal equal)
      | inr (inl below) ↦
          let lower = first_below x y (number_of xs) (number_of ys) (256 ^ length xs) below (number-below xs (λ i. bytes (suc i))) in
          let less : number_of (x ∷ xs) < number_of (y ∷ ys) = rw (← power) lower in
          sym (nat_cmp_is (number_of (x ∷ xs)) (number_of (y ∷ ys)) Less less) ∙ ap (λ o. ordering_then o (slice_cmp nat_cmp xs ys)) (nat_cmp_is x y Less below)
      | inr (inr above) ↦
          let higher = first_below y x (number_of ys) (number_of xs) (256 ^ length ys) above (number-below ys (λ i. others (suc i))) in
          let more : number_of (y ∷ ys) < number_of (x ∷ xs) = rw power higher in
          sym (nat_cmp_is (number_of (x ∷ xs)) (number_of (y ∷ ys)) Greater more) ∙ ap (λ o. ordering_then o (slice_cmp nat_cmp xs ys)) (nat_cmp_is x y Greater above)
    ]

-- if the first elements of two lists differ, they determine the order of the lists
decides_then : (o rest whole : Ordering) → (ordering_then o rest ≡ Equal → ⊥) → ((rest ≡ Equal → ⊥) → whole ≡ rest) → ordering_then o whole ≡ ordering_then o rest
decides_then Less rest whole apart later = refl
decides_then Equal rest whole apart later = later apart
decides_then Greater rest whole apart later = refl

first-decides : (k : ℕ) (xs ys : List ℕ) → (slice_cmp nat_cmp (take k xs) (take k ys) ≡ Equal → ⊥) → slice_cmp nat_cmp xs ys ≡ slice_cmp nat_cmp (take k xs) (take k ys)
first-decides zero xs ys apart = absurd (apart refl)
first-decides (suc k) [] [] apart = refl
first-decides (suc k) [] (y ∷ ys) apart = refl
first-decides (suc k) (x ∷ xs) [] apart = refl
first-decides (suc k) (x ∷ xs) (y ∷ ys) apart =
    decides_then (nat_cmp x y) (slice_cmp nat_cmp (take k xs) (take k ys)) (slice_cmp nat_cmp xs ys) apart (first-decides k xs ys)

equal_numbers : (m n : ℕ) → nat_cmp m n ≡ Equal → m ≡ n
equal_numbers m n is = ranked m n Equal (sym is)

-- so the numbers that the first bytes represent determine the order, if they differ
pub beginnings-order : (k : ℕ) (xs ys : List ℕ) (own other : ℕ) (o : Ordering) → AreBytes xs → AreBytes ys → length xs ≡ length ys → own ≡ number_of (take k xs) → other ≡ number_of (take k ys) →
    (own ≡ other → ⊥) → o ≡ nat_cmp own other → o ≡ slice_cmp nat_cmp xs ys
beginnings-order k xs ys own other o bytes others long own_is other_is apart is =
    let size : length (take k xs) ≡ length (take k ys) = length-take k xs ∙ ap (min k) long ∙ sym (length-take k ys) in
    let told : nat_cmp own other ≡ slice_cmp nat_cmp (take k xs) (take k ys) =
    ap (λ n. nat_cmp n other) own_is ∙ ap (nat_cmp (number_of (take k xs))) other_is ∙ number-order (take k xs) (take k ys) (bytes-take k xs bytes) (bytes-take k ys others) size in
    is ∙ told ∙ sym (first-decides k xs ys (λ equal. apart (equal_numbers own other (told ∙ equal))))
