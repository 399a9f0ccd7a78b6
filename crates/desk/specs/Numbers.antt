-- Numbers in the words of the command line.
use Rattle.std.specs.Prelude.{ℕ, Bool, false, if◌then◌else◌, Option, Some, None}
use Rattle.std.specs.Str.Parse.{digits_value, without_leading_plus}
use Rattle.clap.specs.ValueTests.{accepts}
use Rattle.clap.specs.Words.{Text}
use Rattle.clap.specs.declared.builder.value_parser.ValueParser.TheVariants as parser

-- whether a text is a number from 0 to 4294967295 written in digits, optionally preceded by a plus sign
abbrev pub is_number : Text → Bool
is_number t = accepts false (parser.Unsigned 0 4294967295) t

-- the number that a text denotes, if it is one
abbrev pub number_in : Text → Option ℕ
number_in t = if is_number t then Some (digits_value 10 (without_leading_plus t)) else None
