-- Votes as text, digit by digit.
use Rattle.std.proofs.Common.{◌*◌, ◌<◌, ◌^◌, drop, refl, ◌≡◌, ℕ, ◌+◌, ◌/◌, ◌%◌, List, [], ◌∷◌, ◌++◌, ap, ◌∙◌, arith, decimal}
use Rattle.std.proofs.lemmas.Fmt.{decimal_digit, decimal_is_IsNumeral}
use Rattle.std.proofs.lemmas.Bool.{cond-true, cond-false, lt-ltb, le-ltb}
use Rattle.std.specs.Char.{digit_value}
use Rattle.std.specs.Str.Parse.{digits_value, digits_value_after}
use Rattle.votes.specs.Units.{one_vote}
use Rattle.votes.specs.Text.{last_digit, fraction_text, votes_text, TellsUnits}

one_digit : (n : ℕ) (more : List ℕ) → decimal (n % 10) ++ more ≡ last_digit n ∷ more
one_digit n more = ap (λ l. l ++ more) (decimal_digit (n % 10) (omega arith))

-- printing the five digits one by one yields the text of the votes
pub votes_text-printed : (u : ℕ) →
    decimal (u / one_vote) ++ (46 ∷ (decimal (u / 10000 % 10) ++ (decimal (u / 1000 % 10) ++ (decimal (u / 100 % 10) ++ (decimal (u / 10 % 10) ++ decimal (u % 10)))))) ≡ votes_text u
votes_text-printed u =
    let last : decimal (u % 10) ≡ last_digit u ∷ [] = decimal_digit (u % 10) (omega arith) in
    ap (λ l. decimal (u / one_vote) ++ (46 ∷ l))
    (one_digit (u / 10000) _ ∙ ap (λ l. last_digit (u / 10000) ∷ l) (one_digit (u / 1000) _ ∙ ap (λ l. last_digit (u / 1000) ∷ l)
    (one_digit (u / 100) _ ∙ ap (λ l. last_digit (u / 100) ∷ l) (one_digit (u / 10) _ ∙ ap (λ l. last_digit (u / 10) ∷ l) last))))

digits_value_after-append : (n : ℕ) (xs ys : List ℕ) → digits_value_after 10 n (xs ++ ys) ≡ digits_value_after 10 (digits_value_after 10 n xs) ys
digits_value_after-append n [] ys = refl
digits_value_after-append n (x ∷ xs) ys = digits_value_after-append (n * 10 + digit_value x) xs ys

digit_value-last_digit : (n : ℕ) → digit_value (last_digit n) ≡ n % 10
digit_value-last_digit n =
    cond-false _ _ _ (le-ltb (48 + n % 10) 48 (omega arith)) ∙ cond-true _ _ _ (lt-ltb (48 + n % 10) 58 (omega arith)) ∙ omega arith

-- appending a number's last digit to a tenth of the number, rounded down, yields the number
next_digit : (tenth n : ℕ) → tenth ≡ n / 10 → tenth * 10 + digit_value (last_digit n) ≡ n
next_digit tenth n is = omega (arith, is, digit_value-last_digit n)

pub votes_text-TellsUnits : (u : ℕ) → u < 2 ^ 64 → TellsUnits u
votes_text-TellsUnits u small =
    let whole : digits_value 10 (decimal (u / one_vote)) ≡ u / one_vote = (decimal_is_IsNumeral (u / one_vote) (omega (arith, small))).1 in
    digits_value_after-append 0 (decimal (u / one_vote)) (drop 1 (fraction_text u))
    ∙ ap (λ n. digits_value_after 10 n (drop 1 (fraction_text u))) whole
    ∙ ap (λ n. digits_value_after 10 n (drop 2 (fraction_text u))) (next_digit (u / one_vote) (u / 10000) (omega arith))
    ∙ ap (λ n. digits_value_after 10 n (drop 3 (fraction_text u))) (next_digit (u / 10000) (u / 1000) (omega arith))
    ∙ ap (λ n. digits_value_after 10 n (drop 4 (fraction_text u))) (next_digit (u / 1000) (u / 100) (omega arith))
    ∙ ap (λ n. digits_value_after 10 n (drop 5 (fraction_text u))) (next_digit (u / 100) (u / 10) (omega arith))
    ∙ next_digit (u / 10) u refl
