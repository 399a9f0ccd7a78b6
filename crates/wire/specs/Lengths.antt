-- The length of a request's body, according to its header fields.
use Rattle.std.specs.Prelude.{◌∷◌, List, [], None, Option, Some, Result, Ok, Err, codes, filter, if◌then◌else◌, length, map, nat_le, nat_lt, not, ℕ}
use Rattle.std.specs.Borrow.{Bor}
use Rattle.std.specs.Str.{str_eq_ignore_ascii_case}
use Rattle.std.specs.Str.Parse.{digits_value}
use Rattle.origins.specs.Origins.{are_digits}
use Rattle.wire.specs.declared.request_error.RequestError.{RequestError}
use Rattle.wire.specs.declared.request_error.RequestError.TheVariants.{BadRequest, TooLarge}

-- the maximum size of a body, in bytes
abbrev pub most_body_bytes : ℕ
most_body_bytes = 1048576

-- a header field: its name, and its value without surrounding white space
abbrev pub NamedValue : Type 0
NamedValue = List ℕ × List ℕ

-- the values of the fields with the given name, ignoring case
abbrev pub values_of : List ℕ → List NamedValue → List (List ℕ)
values_of name fields = map (λ (f : NamedValue). f.1) (filter (λ (f : NamedValue). str_eq_ignore_ascii_case f.0 name) fields)

-- the value found, as a list
abbrev pub value_listed : Option (Bor (List ℕ)) → List (List ℕ)
value_listed None = []
value_listed (Some value) = value.now ∷ []

-- the length that a text denotes, up to the limit
abbrev pub length_in : List ℕ → Result ℕ RequestError
length_in text =
    if not (are_digits text) then Err BadRequest else (
    if nat_le (digits_value 10 text) most_body_bytes then Ok (digits_value 10 text) else Err TooLarge)

-- the length, given the values of Content-Length; it is 0 if there are none, and two values are an error
abbrev pub told_length : List (List ℕ) → Result ℕ RequestError
told_length [] = Ok 0
told_length (text ∷ []) = length_in text
told_length (text ∷ other ∷ others) = Err BadRequest

-- the length of the body; a transfer coding is an error
abbrev pub body_length : List NamedValue → Result ℕ RequestError
body_length fields =
    if nat_lt 0 (length (values_of (codes "transfer-encoding") fields)) then Err BadRequest else told_length (values_of (codes "content-length") fields)
