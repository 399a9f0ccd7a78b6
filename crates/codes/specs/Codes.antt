-- The codes of clerks and of the office, and the form in which a browser sends them.
use Rattle.std.specs.Prelude.{◌≡◌, ◌++◌, ◌==◌, ◌&&◌, Bool, false, true, List, Option, Some, None, bytes_eq, codes, decimal, map, option_map, string_bytes, ℕ}
use Rattle.std.specs.List.{list_any}
use Rattle.base64.specs.Engines.{standard}
use Rattle.base64.specs.GeneralPurpose.{encode_of}
use Rattle.codes.specs.declared.credentials.Basic.{Basic}
use Rattle.codes.specs.declared.credentials.Credentials.{Credentials}
use Rattle.codes.specs.declared.holders.Codes.{Codes}

-- a name, a colon and a code in the form that a browser sends: in base64, after the name of the scheme
abbrev pub basic_of : List ℕ → List ℕ → List ℕ
basic_of name code = codes "Basic " ++ encode_of standard ((name ++ codes ":") ++ code)

-- a clerk's name is the clerk's number
abbrev pub credentials_of : ℕ → List ℕ → List ℕ
credentials_of clerk code = basic_of (decimal clerk) code

-- the office's name
abbrev pub office_name : List ℕ
office_name = codes "office"

abbrev pub office_credentials : List ℕ → List ℕ
office_credentials code = basic_of office_name code

-- a clerk and that clerk's credentials
pub record Holder : Type 0 where
  pub clerk : ℕ
  pub text : List ℕ

abbrev pub holder : Credentials → Holder
holder c = record { clerk = c.clerk; text = string_bytes c.basic.text }

-- the clerks with codes, and their credentials
abbrev pub holders_of : Codes → List Holder
holders_of held = map holder held.all.items

-- whether a text is the credentials of the given clerk
abbrev pub is_of : List Holder → ℕ → List ℕ → Bool
is_of holders clerk text = list_any (λ (h : Holder). (h.clerk == clerk) && bytes_eq text h.text) holders

-- the office's credentials, if it has a code
abbrev pub office_of : Codes → Option (List ℕ)
office_of held = option_map (λ (own : Basic). string_bytes own.text) held.office

-- whether a text is the office's credentials; no text is if the office has no code
abbrev pub is_office : Option (List ℕ) → List ℕ → Bool
is_office None text = false
is_office (Some own) text = bytes_eq text own

-- no text is accepted both as a clerk's and as the office's: a clerk's code doesn't give access to the office, nor the office's code to a clerk's work
abbrev pub AreApart : List Holder → Option (List ℕ) → Type 0
AreApart holders own = (clerk : ℕ) → (text : List ℕ) → is_of holders clerk text ≡ true → is_office own text ≡ false
