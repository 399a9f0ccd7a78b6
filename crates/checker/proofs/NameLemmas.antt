-- Names that are UTF-8.
use Rattle.std.proofs.Common.{◌≡◌, ◌≤◌, Bool, true, false, List, [], ◌∷◌, ℕ, length, refl}
use Rattle.std.specs.Prelude.{Ok, Err, IsUtf8}
use Rattle.std.specs.Prelude.{nat_lt}
use Rattle.std.specs.List.{list_all}
use Rattle.std.specs.Str.{IsAscii, is_utf8}
use Rattle.std.proofs.lemmas.Bool.{le-ltb, ltb-true}
use Rattle.std.proofs.lemmas.Str.Ascii.{IsAscii-cons, IsAscii-nil}
use Rattle.checker.proofs.LineLaws.{and_parts}
use Rattle.std.proofs.lemmas.Str.{IsUtf8-from_ascii, IsUtf8-from_is_utf8, is_utf8-from_IsUtf8}
use Rattle.checker.specs.Names.{as_text, max_name}
use Rattle.checker.specs.declared.problem.BallotsFlaw.TheVariants.{NotUtf8}

pub name_is_text : (name : List ℕ) → length name ≤ max_name → IsUtf8 name → Ok name ≡ as_text name
name_is_text name short text = rw (le-ltb max_name (length name) short, is_utf8-from_IsUtf8 name text) refl

not_text : (name : List ℕ) (b : Bool) → is_utf8 name ≡ b → ¬ (IsUtf8 name) → is_utf8 name ≡ false
not_text name false e isnt = e
not_text name true e isnt = absurd (isnt (IsUtf8-from_is_utf8 name e))

pub name_isnt_text : (name : List ℕ) → length name ≤ max_name → ¬ (IsUtf8 name) → Err NotUtf8 ≡ as_text name
name_isnt_text name short isnt = rw (le-ltb max_name (length name) short, not_text name (is_utf8 name) refl isnt) refl

ascii_of : (text : List ℕ) → list_all (λ b. nat_lt b 128) text ≡ true → IsAscii text
ascii_of [] all = IsAscii-nil
ascii_of (b ∷ text) all =
    let part = and_parts (nat_lt b 128) (list_all (λ x. nat_lt x 128) text) all in
    IsAscii-cons b text (ltb-true b 128 part.0) (ascii_of text part.1)

-- a text of bytes below 128 is UTF-8
pub ascii_text : (text : List ℕ) → list_all (λ b. nat_lt b 128) text ≡ true → is_utf8 text ≡ true
ascii_text text all = is_utf8-from_IsUtf8 text (IsUtf8-from_ascii text (ascii_of text all))
