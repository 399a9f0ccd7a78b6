-- A text is parsed as the number that it denotes.
use Rattle.std.proofs.Common.{◌≡◌, ◌<◌, ◌^◌, ℕ, Bool, List, Option, Some, None, true, false, refl, arith}
use Rattle.std.specs.Prelude.{Result, Ok, Err}
use Rattle.std.specs.Str.Parse.{IsNumeral, ParsesUnsigned, digits_value, without_leading_plus}
use Rattle.clap.specs.Matches.{ReadsOne}
use Rattle.clap.specs.declared.builder.value_parser.ValueParser.TheVariants as parser
use Rattle.clap.proofs.ValueTestLemmas.{accepts-Accepts, Accepts-accepts}
use Rattle.desk.specs.Numbers.{is_number, number_in}

-- the digits of a 32-bit number, optionally preceded by a plus sign
abbrev pub FitsNumber : List ℕ → Type 0
FitsNumber t = IsNumeral 10 (without_leading_plus t) × (digits_value 10 (without_leading_plus t) < 2 ^ 32)

pub fitting_is_number : (t : List ℕ) → FitsNumber t → is_number t ≡ true
fitting_is_number t fits = Accepts-accepts false (parser.Unsigned 0 4294967295) t (fits.0, omega arith, omega arith, omega arith)

pub unfitting_is_none : (t : List ℕ) → (FitsNumber t → ⊥) → is_number t ≡ false
unfitting_is_none t unfit = by (is_number t) refl
  where
    by : (b : Bool) → is_number t ≡ b → is_number t ≡ false
    by false is = is
    by true is =
        let number = accepts-Accepts false (parser.Unsigned 0 4294967295) t is in
        absurd (unfit (number.0, omega arith))

-- what a typed `clap` getter reads from a text; `G` relates the text to the result
pub read_number : (E : Type 0) (G : List ℕ → Result ℕ E → Type 0) (t : List ℕ) (r : Option ℕ)
    → ((u : List ℕ) (x : Result ℕ E) → G u x → ParsesUnsigned 32 10 u x)
    → ReadsOne G t r → r ≡ number_in t
read_number E G t (Some v) parses reads =
    let parsed = parses t (Ok v) reads in
    rw (parsed.1, fitting_is_number t parsed.0) refl
read_number E G t None parses reads = rw (unfitting_is_none t (parses t (Err reads.0) reads.1)) refl
