-- An escaped text has no markup: an entity has none, and a byte of any other character is that character itself or at least 128.
use Rattle.std.proofs.Common.{◌≡◌, ◌⊎◌, ◌<◌, ◌≤◌, inl, inr, ℕ, suc, Bool, true, false, List, [], ◌∷◌, length, get_or, flat_map, refl, sym, subst, arith}
use Rattle.std.proofs.lemmas.List.{append-nil}
use Rattle.std.proofs.lemmas.List.Folds.{list_all-append}
use Rattle.std.proofs.lemmas.Str.{inside_one}
use Rattle.std.proofs.lemmas.Bool.{cases_lt}
use Rattle.std.specs.Char.{encode_utf8}
use Rattle.std.specs.Prelude.{◌==◌, ◌||◌, codes, if◌then◌else◌}
use Rattle.forms.specs.Pages.{HasNoMarkup, Text, escaped_character, is_markup}

-- a text has no markup if no byte of it is markup
no_markup_at : (text : Text) → ((k : ℕ) → k < length text → is_markup (get_or text k 0) ≡ false) → HasNoMarkup text
no_markup_at [] at = refl
no_markup_at (byte ∷ text) at = grind (arith, at 0, no_markup_at text (λ k within. at (suc k) (omega arith)))

-- a byte of at least 128 isn't markup
high_byte : (byte : ℕ) → 128 ≤ byte → is_markup byte ≡ false
high_byte byte high = grind (arith, high)

-- a byte of a character that isn't markup isn't either
byte_of : (c : ℕ) (k : ℕ) → is_markup c ≡ false → k < length (encode_utf8 c) → get_or (encode_utf8 c) k 0 < 128 ⊎ 128 ≤ get_or (encode_utf8 c) k 0
    → is_markup (get_or (encode_utf8 c) k 0) ≡ false
byte_of c k other within (inl low) = subst (λ byte. is_markup byte ≡ false) (inside_one c [] (encode_utf8 c) k (sym (append-nil (encode_utf8 c))) within low) other
byte_of c k other within (inr high) = high_byte (get_or (encode_utf8 c) k 0) high

-- a character that isn't markup has no byte that is
other_character : (c : ℕ) → is_markup c ≡ false → HasNoMarkup (encode_utf8 c)
other_character c other = no_markup_at (encode_utf8 c) (λ k within. byte_of c k other within (cases_lt (get_or (encode_utf8 c) k 0) 128))

-- an entity, or a text without markup
entity_or : (amp lt gt quote apostrophe : Bool) (text : Text) → ((lt || (gt || (quote || apostrophe))) ≡ false → HasNoMarkup text)
    → HasNoMarkup (if amp then codes "&amp;" else (if lt then codes "&lt;" else (if gt then codes "&gt;" else (if quote then codes "&quot;" else (if apostrophe then codes "&#39;" else text)))))
entity_or true lt gt quote apostrophe text other = refl
entity_or false true gt quote apostrophe text other = refl
entity_or false false true quote apostrophe text other = refl
entity_or false false false true apostrophe text other = refl
entity_or false false false false true text other = refl
entity_or false false false false false text other = other refl

escaped_one : (c : ℕ) → HasNoMarkup (escaped_character c)
escaped_one c = entity_or (c == 38) (c == 60) (c == 62) (c == 34) (c == 39) (encode_utf8 c) (other_character c)

pub escaped_all : (characters : List ℕ) → HasNoMarkup (flat_map escaped_character characters)
escaped_all [] = refl
escaped_all (c ∷ characters) = grind (arith, escaped_one c, escaped_all characters, list_all-append)
