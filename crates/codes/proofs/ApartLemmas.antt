-- What a clerk sends is never what the office sends: a clerk's name begins with a digit and the office's with a letter, and the seventh byte shows which.
use Rattle.std.proofs.Common.{◌≡◌, ◌∙◌, ◌<◌, ◌≤◌, ◌+◌, ◌-◌, ◌/◌, ◌%◌, ◌==◌, ◌&&◌, ◌||◌, ◌++◌, ◌∷◌, Bool, true, false}
use Rattle.std.proofs.Common.{zero, suc, List, [], None, Option, Some, ap, arith, codes, decimal, if◌then◌else◌, nat_lt, refl, subst, sym, ℕ}
use Rattle.std.specs.Fmt.{digit_glyph, digits, digits_onto}
use Rattle.std.specs.Prelude.{bytes_eq, slice_index}
use Rattle.std.proofs.lemmas.Bool.{and_parts}
use Rattle.std.proofs.lemmas.Bool.Decides.{nat_tests}
use Rattle.std.proofs.lemmas.Slice.Eq.{bytes_eq-Decides}
use Rattle.base64.specs.Engines.{standard}
use Rattle.base64.specs.Rfc4648.{encode_symbols}
use Rattle.codes.specs.Codes.{AreApart, Holder, basic_of, credentials_of, is_of, is_office, office_credentials}
use Rattle.codes.specs.Files.{CodeEntry, holders_by, office_held}
use Rattle.codes.proofs.MakingLemmas.{not_true}

-- ---- a number begins with a digit

record BeginsWithDigit (text : List ℕ) : Type 0 where
  first : ℕ
  rest : List ℕ
  is : text ≡ first ∷ rest
  low : 48 ≤ first
  high : first ≤ 57

glyph-digit : (d : ℕ) → d < 10 → digit_glyph false d ≡ 48 + d
glyph-digit d small =
    let test : nat_lt d 10 ≡ true = grind (arith, nat_tests) in
    rw test refl

glyph-begins : (n : ℕ) (text : List ℕ) → BeginsWithDigit (digit_glyph false (n % 10) ∷ text)
glyph-begins n text =
    let small : n % 10 < 10 = omega arith in
    record {
      first = 48 + n % 10;
      rest = text;
      is = ap (λ d. d ∷ text) (glyph-digit (n % 10) small);
      low = omega arith;
      high = omega (arith, small);
    }

either-begins : (b : Bool) (x y : List ℕ) → BeginsWithDigit x → BeginsWithDigit y → BeginsWithDigit (if b then x else y)
either-begins true x y left right = left
either-begins false x y left right = right

onto-begins : (k n : ℕ) (text : List ℕ) → BeginsWithDigit text → BeginsWithDigit (digits_onto k 10 false n text)
onto-begins zero n text begins = begins
onto-begins (suc k) n text begins =
    either-begins (n / 10 == 0) (digit_glyph false (n % 10) ∷ text) (digits_onto k 10 false (n / 10) (digit_glyph false (n % 10) ∷ text))
    (glyph-begins n text) (onto-begins k (n / 10) (digit_glyph false (n % 10) ∷ text) (glyph-begins n text))

decimal-begins : (n : ℕ) → BeginsWithDigit (decimal n)
unfolding digits
decimal-begins n =
    either-begins (n / 10 == 0) (digit_glyph false (n % 10) ∷ []) (digits_onto 63 10 false (n / 10) (digit_glyph false (n % 10) ∷ []))
    (glyph-begins n []) (onto-begins 63 (n / 10) (digit_glyph false (n % 10) ∷ []) (glyph-begins n []))

-- ---- the seventh byte

-- the base64 symbol for the first six bits of a byte
abbrev symbol_of : ℕ → ℕ
symbol_of byte = slice_index standard.encode_table (byte / 4)

first_symbol : (byte : ℕ) (bytes more : List ℕ) → slice_index (encode_symbols standard.encode_table (byte ∷ bytes) ++ more) 0 ≡ symbol_of byte
unfolding encode_symbols
first_symbol byte [] more = refl
first_symbol byte (b ∷ []) more = refl
first_symbol byte (b ∷ c ∷ bytes) more = refl

seventh : (byte : ℕ) (name code : List ℕ) → slice_index (basic_of (byte ∷ name) code) 6 ≡ symbol_of byte
seventh byte name code = first_symbol byte ((name ++ codes ":") ++ code) _

-- the symbols for digits are capital letters
above-capital : (k : ℕ) → k < 3 → slice_index standard.encode_table (12 + k) ≤ 90
above-capital zero small = omega arith
above-capital (suc zero) small = omega arith
above-capital (suc (suc zero)) small = omega arith
above-capital (suc (suc (suc k))) small = absurd (omega (arith, small))

digit-capital : (byte : ℕ) → 48 ≤ byte → byte ≤ 57 → symbol_of byte ≤ 90
digit-capital byte low high =
    let small : byte / 4 - 12 < 3 = omega (arith, low, high) in
    let same : 12 + (byte / 4 - 12) ≡ byte / 4 = omega (arith, low) in
    subst (λ k. slice_index standard.encode_table k ≤ 90) same (above-capital (byte / 4 - 12) small)

clerks_seventh : (clerk : ℕ) (code : List ℕ) → slice_index (credentials_of clerk code) 6 ≤ 90
clerks_seventh clerk code =
    let it = decimal-begins clerk in
    let same : slice_index (credentials_of clerk code) 6 ≡ symbol_of it.first = ap (λ (name : List ℕ). slice_index (basic_of name code) 6) it.is ∙ seventh it.first it.rest code in
    let capital : symbol_of it.first ≤ 90 = digit-capital it.first it.low it.high in
    omega (arith, same, capital)

offices_seventh : (code : List ℕ) → slice_index (office_credentials code) 6 ≡ 98
offices_seventh code = seventh 111 (codes "ffice") code

-- ---- what is accepted

one_apart : (clerk : ℕ) (code own text : List ℕ) → bytes_eq text (credentials_of clerk code) ≡ true → bytes_eq text (office_credentials own) ≡ false
one_apart clerk code own text is =
    not_true (bytes_eq text (office_credentials own))
    (λ both.
    let clerks : text ≡ credentials_of clerk code = (bytes_eq-Decides text (credentials_of clerk code)).0 is in
    let offices : text ≡ office_credentials own = (bytes_eq-Decides text (office_credentials own)).0 both in
    let same : slice_index (credentials_of clerk code) 6 ≡ slice_index (office_credentials own) 6 = ap (λ (t : List ℕ). slice_index t 6) (sym clerks ∙ offices) in
    omega (arith, same, clerks_seventh clerk code, offices_seventh own))

entry_apart : (b : Bool) (more : Bool) (clerk : ℕ) (e : CodeEntry) (own text : List ℕ) → ((e.clerk == clerk) && bytes_eq text (credentials_of e.clerk e.code)) ≡ b
    → (b || more) ≡ true → (more ≡ true → bytes_eq text (office_credentials own) ≡ false) → bytes_eq text (office_credentials own) ≡ false
entry_apart true more clerk e own text here is others = one_apart e.clerk e.code own text (and_parts (e.clerk == clerk) (bytes_eq text (credentials_of e.clerk e.code)) here).1
entry_apart false more clerk e own text here is others = others is

code_apart : (entries : List CodeEntry) (own : List ℕ) (clerk : ℕ) (text : List ℕ) → is_of (holders_by entries) clerk text ≡ true → bytes_eq text (office_credentials own) ≡ false
code_apart [] own clerk text is = let no : false ≡ true = is in absurd (cc)
code_apart (e ∷ entries) own clerk text is =
    entry_apart ((e.clerk == clerk) && bytes_eq text (credentials_of e.clerk e.code)) (is_of (holders_by entries) clerk text) clerk e own text refl is (code_apart entries own clerk text)

held_apart : (entries : List CodeEntry) (code : Option (List ℕ)) → AreApart (holders_by entries) (office_held code)
held_apart entries None clerk text is = refl
held_apart entries (Some own) clerk text is = code_apart entries own clerk text is

pub read_apart : (holders : List Holder) (own : Option (List ℕ)) (entries : List CodeEntry) (code : Option (List ℕ))
    → holders ≡ holders_by entries → own ≡ office_held code → AreApart holders own
read_apart holders own entries code of_clerks offices clerk text is =
    ap (λ (o : Option (List ℕ)). is_office o text) offices
    ∙ held_apart entries code clerk text (ap (λ (hs : List Holder). is_of hs clerk text) (sym of_clerks) ∙ is)
