-- The texts of numbers and values are UTF-8.
use Rattle.std.proofs.Common.{ℕ, zero, suc, ◌/◌, ◌^◌, ◌<◌, List, [], ◌∷◌, replicate, map, decimal, arith}
use Rattle.std.specs.Str.{IsUtf8, IsAscii}
use Rattle.std.proofs.lemmas.Str.{IsUtf8-nil, IsUtf8-append, IsUtf8-from_ascii}
use Rattle.std.proofs.lemmas.Str.Ascii.{IsAscii-nil, IsAscii-cons}
use Rattle.std.proofs.lemmas.Fmt.{IsAscii-decimal}
use Rattle.votes.specs.Text.{last_digit, fraction_text, votes_text}

-- spaces
pub IsUtf8-spaces : (n : ℕ) → IsUtf8 (replicate n 32)
IsUtf8-spaces zero = IsUtf8-nil
IsUtf8-spaces (suc n) = IsUtf8-append (32 ∷ []) (replicate n 32) (IsUtf8-from_ascii (32 ∷ []) (IsAscii-cons 32 [] (omega arith) IsAscii-nil)) (IsUtf8-spaces n)

-- a number
pub IsUtf8-decimal : (n : ℕ) → n < 2 ^ 64 → IsUtf8 (decimal n)
IsUtf8-decimal n small = IsUtf8-from_ascii (decimal n) (IsAscii-decimal n small)

IsAscii-digits : (ns : List ℕ) → IsAscii (map last_digit ns)
IsAscii-digits [] = IsAscii-nil
IsAscii-digits (n ∷ ns) = IsAscii-cons (last_digit n) (map last_digit ns) (omega arith) (IsAscii-digits ns)

IsAscii-fraction_text : (units : ℕ) → IsAscii (fraction_text units)
IsAscii-fraction_text units =
    let places = units / 10000 ∷ units / 1000 ∷ units / 100 ∷ units / 10 ∷ units ∷ [] in
    IsAscii-cons 46 (map last_digit places) (omega arith) (IsAscii-digits places)

-- the text of a value
pub IsUtf8-votes_text : (units : ℕ) → units < 2 ^ 64 → IsUtf8 (votes_text units)
IsUtf8-votes_text units small =
    let whole : units / 100000 < 2 ^ 64 = omega (arith, small) in
    IsUtf8-append (decimal (units / 100000)) (fraction_text units) (IsUtf8-decimal (units / 100000) whole) (IsUtf8-from_ascii (fraction_text units) (IsAscii-fraction_text units))

pub ruleset utf8_texts = (IsUtf8-votes_text)
