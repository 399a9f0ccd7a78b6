-- A number reads back from its digits.
use Rattle.std.proofs.Common.{◌≡◌, ◌∙◌, ℕ, ◌+◌, ◌-◌, ◌*◌, ◌/◌, ◌%◌, ◌^◌, ◌<◌, ◌≤◌, Bool, true, false, [], ◌∷◌, ◌++◌, length, refl, sym, ap, arith, length-append, Ok, Err}
use Rattle.std.specs.Prelude.{nat_eq, Result, codes}
use Rattle.std.specs.Fmt.{decimal}
use Rattle.std.specs.Char.{is_ascii_digit}
use Rattle.std.specs.Cmp.Lexicographic.{pointwise}
use Rattle.std.proofs.lemmas.Bool.{eqb-true, false≢true, le-leb, le-ltb, ne_eqb}
use Rattle.std.proofs.lemmas.Fmt.{decimal_by_steps}
use Rattle.std.proofs.lemmas.List.Folds.{list_all-append}
use Rattle.checker.specs.Numbers.{candidate_in, number_from, number_in, with_digit}
use Rattle.checker.specs.Outcomes.{and_then}
use Rattle.checker.specs.Tokens.{Text, parts, pieces_of}
use Rattle.checker.specs.Ranks.{is_zero}
use Rattle.checker.specs.declared.tokens.Separator.TheVariants.{Equals}
use Rattle.checker.specs.declared.problem.BallotsFlaw.{BallotsFlaw}
use Rattle.checker.proofs.LineLaws.{IsFigures, and_both, and_parts, figure_other, is_figure, last_piece, none_of}

digit_figure : (d : ℕ) → d < 10 → is_figure (48 + d) ≡ true
digit_figure d small = and_both _ _ (le-leb 45 (48 + d) (omega arith)) (le-leb (48 + d) 57 (omega arith))

digit_is : (d : ℕ) → d < 10 → is_ascii_digit (48 + d) ≡ true
digit_is d small = and_both _ _ (le-leb 48 (48 + d) (omega arith)) (le-leb (48 + d) 57 (omega arith))

-- the decimal text of a number satisfies `IsFigures`
pub decimal_figures : (n : ℕ) → n < 2 ^ 64 → IsFigures (decimal n)
decimal_figures n small = decimal_by_steps (λ n ds. IsFigures ds) one more n small
  where
    one : (n : ℕ) → n < 10 → IsFigures ((48 + n) ∷ [])
    one n low = record { all = and_both _ _ (digit_figure n low) refl; some = omega arith }

    more : (n : ℕ) (ds : Text) → 10 ≤ n → IsFigures ds → IsFigures (ds ++ (48 + n % 10) ∷ [])
    more n ds high is = record {
      all = list_all-append is_figure ds ((48 + n % 10) ∷ []) ∙ and_both _ _ is.all (and_both _ _ (digit_figure (n % 10) (omega arith)) refl);
      some = omega (arith, length-append ds ((48 + n % 10) ∷ []));
    }

number_snoc : (most acc : ℕ) (ds : Text) (d : ℕ) → number_from most acc (ds ++ d ∷ []) ≡ and_then (number_from most acc ds) (λ m. with_digit most m d)
number_snoc most acc [] d = by (with_digit most acc d)
  where
    by : (r : Result ℕ BallotsFlaw) → and_then r (λ m. Ok m) ≡ r
    by (Ok m) = refl
    by (Err flaw) = refl
number_snoc most acc (x ∷ ds) d = by (with_digit most acc x) (λ m. number_snoc most m ds d)
  where
    by : (r : Result ℕ BallotsFlaw) → ((m : ℕ) → number_from most m (ds ++ d ∷ []) ≡ and_then (number_from most m ds) (λ n. with_digit most n d))
        → and_then r (λ m. number_from most m (ds ++ d ∷ [])) ≡ and_then (and_then r (λ m. number_from most m ds)) (λ n. with_digit most n d)
    by (Ok m) h = h m
    by (Err flaw) h = refl

digit_read : (most m d n : ℕ) → d < 10 → m * 10 + d ≡ n → n ≤ most → with_digit most m (48 + d) ≡ Ok n
digit_read most m d n small is few =
    let value : m * 10 + (48 + d - 48) ≡ n = omega (arith, is) in
    rw (digit_is d small, value, le-leb n most few) refl

read_from_digits : (n : ℕ) → n < 2 ^ 64 → (most : ℕ) → n ≤ most → number_from most 0 (decimal n) ≡ Ok n
read_from_digits n small = decimal_by_steps (λ n ds. (most : ℕ) → n ≤ most → number_from most 0 ds ≡ Ok n) one more n small
  where
    one : (n : ℕ) → n < 10 → (most : ℕ) → n ≤ most → number_from most 0 ((48 + n) ∷ []) ≡ Ok n
    one n low most few = ap (λ r. and_then r (λ m. Ok m)) (digit_read most 0 n n low (omega arith) few)

    more : (n : ℕ) (ds : Text) → 10 ≤ n → ((most : ℕ) → n / 10 ≤ most → number_from most 0 ds ≡ Ok (n / 10)) → (most : ℕ) → n ≤ most → number_from most 0 (ds ++ (48 + n % 10) ∷ []) ≡ Ok n
    more n ds high rest most few =
        number_snoc most 0 ds (48 + n % 10)
        ∙ (ap (λ r. and_then r (λ m. with_digit most m (48 + n % 10))) (rest most (omega arith)) ∙ digit_read most (n / 10) (n % 10) n (omega arith) (omega arith) few)

some_digits : (most : ℕ) (ds : Text) → 0 < length ds → number_in most ds ≡ number_from most 0 ds
some_digits most [] some = absurd (omega arith)
some_digits most (d ∷ ds) some = refl

-- a number reads back
pub number_back : (most n : ℕ) → n < 2 ^ 64 → n ≤ most → number_in most (decimal n) ≡ Ok n
number_back most n small few = some_digits most (decimal n) (decimal_figures n small).some ∙ read_from_digits n small most few

-- a candidate number reads back
pub candidate_back : (highest c : ℕ) → 1 ≤ c → c ≤ highest → highest ≤ 30 → candidate_in highest (decimal c) ≡ Ok c
candidate_back highest c some few bound =
    rw (number_back 255 c (omega arith) (omega arith), ne_eqb c 0 (λ e. omega (arith, e)), le-ltb highest c few) refl

pub pointwise_same : (xs ys : Text) → pointwise nat_eq xs ys ≡ true → xs ≡ ys
pointwise_same [] [] h = refl
pointwise_same [] (y ∷ ys) h = absurd (false≢true h)
pointwise_same (x ∷ xs) [] h = absurd (false≢true h)
pointwise_same (x ∷ xs) (y ∷ ys) h =
    let part = and_parts (nat_eq x y) (pointwise nat_eq xs ys) h in
    ap (λ a. a ∷ xs) (eqb-true x y part.0) ∙ ap (λ l. y ∷ l) (pointwise_same xs ys part.1)

-- a number above 0 isn't written as 0
pub decimal_nonzero : (n : ℕ) → 1 ≤ n → n < 2 ^ 64 → is_zero (decimal n) ≡ false
decimal_nonzero n some small = by (is_zero (decimal n)) refl
  where
    by : (b : Bool) → is_zero (decimal n) ≡ b → b ≡ false
    by false e = refl
    by true e =
        let same = sym (number_back n n small (omega arith)) ∙ ap (number_in n) (pointwise_same (decimal n) (codes "0") e) in
        absurd (nonzero same)
      where
        nonzero : Ok n ≡ number_in n (codes "0") → ⊥
        nonzero same =
            let zero : number_in n (codes "0") ≡ Ok 0 = rw (le-leb 0 n (omega arith)) refl in
            let none : n ≡ 0 = cc (same ∙ zero) in
            omega (arith, none)

-- no number is written like a shared rank
pub decimal_alone : (n : ℕ) → n < 2 ^ 64 → pieces_of Equals [] (decimal n) ≡ decimal n ∷ []
decimal_alone n small = last_piece Equals [] (decimal n) (none_of is_figure (parts Equals) (λ b h. figure_other b 61 h (λ l m. omega arith)) (decimal n) (decimal_figures n small).all)
