-- The fields of a record as texts.
use Rattle.std.proofs.Common.{◌≡◌, ◌∙◌, ◌<◌, ◌+◌, ◌∷◌, ◌++◌, ℕ, Bool, true, false, List, [], length, get_or, map, take, Option, Some, None, refl, sym, ap, Bor}
use Rattle.std.specs.Prelude.{option_map, unwrap_or, IsUtf8}
use Rattle.std.specs.List.{list_all}
use Rattle.std.specs.Str.{is_utf8}
use Rattle.std.proofs.lemmas.List.{map-append, take_more}
use Rattle.std.proofs.lemmas.List.Folds.{list_all_at, list_all_more}
use Rattle.std.proofs.lemmas.Str.{IsUtf8-from_is_utf8, is_utf8-from_IsUtf8}
use Rattle.csv.specs.Records.{field_at}
use Rattle.csv.proofs.RecordFacts.{field-get, field-there}
use Rattle.keyfile.specs.Records.{Record}

-- the field at an existing index
pub field_got : (fields : Record) (i : ℕ) (found : Option (Bor (List ℕ))) (other field : Bor (List ℕ)) → option_map (λ s. s.now) found ≡ field_at fields i → i < length fields
    → field ≡ unwrap_or found other → field.now ≡ get_or fields i []
field_got fields i None other field is there e = absurd (field-there fields i there (sym is))
field_got fields i (Some f) other field is there e = ap (λ (b : Bor (List ℕ)). b.now) e ∙ sym (field-get fields i f.now (sym is))

pub no_text : (field : List ℕ) → ¬ (IsUtf8 field) → is_utf8 field ≡ false
no_text field not_text = by_test (is_utf8 field) refl
  where
    by_test : (b : Bool) → is_utf8 field ≡ b → b ≡ false
    by_test true is = absurd (not_text (IsUtf8-from_is_utf8 field is))
    by_test false is = refl

-- a field isn't UTF-8
pub not_all_text : (fields : Record) (i : ℕ) (field : List ℕ) → i < length fields → field ≡ get_or fields i [] → ¬ (IsUtf8 field) → list_all is_utf8 fields ≡ false
not_all_text fields i field there is not_text = list_all_at is_utf8 fields i [] there (ap is_utf8 (sym is) ∙ no_text field not_text)

-- another text was appended
pub texts_more : (fields : Record) (i : ℕ) (texts : List (Bor (List ℕ))) (text : Bor (List ℕ)) → i < length fields → map (λ t. t.now) texts ≡ take i fields → text.now ≡ get_or fields i []
    → map (λ t. t.now) (texts ++ text ∷ []) ≡ take (i + 1) fields
texts_more fields i texts text there are is =
    map-append (λ (t : Bor (List ℕ)). t.now) texts (text ∷ []) ∙ ap (λ (l : Record). l ++ text.now ∷ []) are ∙ ap (λ (f : List ℕ). take i fields ++ f ∷ []) is
    ∙ sym (take_more fields i [] there)

pub all_text_more : (fields : Record) (i : ℕ) → i < length fields → list_all is_utf8 (take i fields) ≡ true → IsUtf8 (get_or fields i [])
    → list_all is_utf8 (take (i + 1) fields) ≡ true
all_text_more fields i there are is = list_all_more is_utf8 fields i [] there ∙ rw (are, is_utf8-from_IsUtf8 (get_or fields i []) is) refl
