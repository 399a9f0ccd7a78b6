-- The texts in a list of values, read one by one.
use Rattle.std.proofs.Common.{◌≡◌, ◌∙◌, ◌<◌, Bool, true, false, List, Option, Some, None, [], ◌∷◌, ◌++◌, drop, get_or, length, map, refl, suc, sym, take, ap, append_assoc, ℕ}
use Rattle.std.specs.Prelude.{String, if◌then◌else◌, option_map, string_bytes}
use Rattle.std.specs.declared.alloc.Global.{Global}
use Rattle.std.proofs.lemmas.List.{append-nil, map-append, take-append-drop}
use Rattle.std.proofs.Math.Seq.{drop-cons}
use Rattle.serde_json.specs.Data.{Data}
use Rattle.serde_json.specs.Find.{as_str}
use Rattle.serde_json.specs.View.{items_of, items_view, view}
use Rattle.serde_json.specs.declared.value.Value.{Value}
use Rattle.serde_json.specs.Read.{read}
use Rattle.std.specs.Str.{IsUtf8, is_utf8}
use Rattle.std.proofs.lemmas.Str.{IsUtf8-from_is_utf8, is_utf8-from_IsUtf8}
use Rattle.wire.specs.Bodies.{json_in, texts_in}

-- the values read so far have the given texts, and more values follow
abbrev pub ReadsOn : List Data → List (List ℕ) → Type 0
ReadsOn read texts = (others : List Data) → texts_in (items_of (read ++ others)) ≡ option_map (λ more. texts ++ more) (texts_in (items_of others))

with_none : (o : Option (List (List ℕ))) → o ≡ option_map (λ (more : List (List ℕ)). more) o
with_none None = refl
with_none (Some texts) = refl

pub ReadsOn-none : ReadsOn [] []
ReadsOn-none others = with_none (texts_in (items_of others))

with_more : (texts : List (List ℕ)) (text : List ℕ) (o : Option (List (List ℕ)))
    → option_map (λ (more : List (List ℕ)). texts ++ more) (option_map (λ (more : List (List ℕ)). text ∷ more) o) ≡ option_map (λ (more : List (List ℕ)). (texts ++ text ∷ []) ++ more) o
with_more texts text None = refl
with_more texts text (Some more) = ap Some (append_more texts)
  where
    append_more : (ts : List (List ℕ)) → ts ++ (text ∷ more) ≡ (ts ++ text ∷ []) ++ more
    append_more [] = refl
    append_more (t ∷ ts) = ap (λ (l : List (List ℕ)). t ∷ l) (append_more ts)

pub ReadsOn-more : (read : List Data) (texts : List (List ℕ)) (value : Data) (text : List ℕ) → ReadsOn read texts → as_str value ≡ Some text → ReadsOn (read ++ value ∷ []) (texts ++ text ∷ [])
ReadsOn-more read texts value text reads is others =
    ap (λ (l : List Data). texts_in (items_of l)) (append_assoc read (value ∷ []) others) ∙ reads (value ∷ others) ∙ rw is (with_more texts text (texts_in (items_of others)))

-- a value that isn't a string
pub ReadsOn-stop : (read : List Data) (texts : List (List ℕ)) (value : Data) (others : List Data) → ReadsOn read texts → as_str value ≡ None → texts_in (items_of (read ++ value ∷ others)) ≡ None
ReadsOn-stop read texts value others reads is = reads (value ∷ others) ∙ rw is refl

pub ReadsOn-all : (read : List Data) (texts : List (List ℕ)) → ReadsOn read texts → texts_in (items_of read) ≡ Some texts
ReadsOn-all read texts reads = ap (λ (l : List Data). texts_in (items_of l)) (append_back read) ∙ reads [] ∙ ap Some (append-nil texts)
  where
    append_back : (l : List Data) → l ≡ l ++ []
    append_back [] = refl
    append_back (d ∷ ds) = ap (λ (l : List Data). d ∷ l) (append_back ds)

-- what follows the values read so far
pub behind : {V : Type 0} (all so_far : List V) (value : V) → map (λ (x : V). x) so_far ≡ take (length so_far) all → (length so_far < length all) × (value ≡ get_or all (length so_far) value)
    → (others : List V) × (all ≡ so_far ++ value ∷ others)
behind all so_far value first (there, is) = (
  drop (suc (length so_far)) all,
  sym (take-append-drop (length so_far) all) ∙ ap (λ l. l ++ drop (length so_far) all) (sym first ∙ same so_far)
      ∙ ap (λ l. so_far ++ l) (drop-cons all (length so_far) value there ∙ ap (λ v. v ∷ drop (suc (length so_far)) all) (sym is)),
)
  where
    same : {V : Type 0} (l : List V) → map (λ (x : V). x) l ≡ l
    same [] = refl
    same (x ∷ xs) = ap (λ t. x ∷ t) (same xs)

-- one of the values after those read so far isn't a string
pub texts_in-stop : (all so_far : List Value) (texts : List (List ℕ)) (value : Value) → ReadsOn (map view so_far) texts → map (λ (x : Value). x) so_far ≡ take (length so_far) all
    → (length so_far < length all) × (value ≡ get_or all (length so_far) value) → as_str (view value) ≡ None → None ≡ texts_in (items_view all)
texts_in-stop all so_far texts value reads first there is =
    let (others, parts) = behind all so_far value first there in
    sym (ap (λ l. texts_in (items_view l)) parts ∙ ap (λ l. texts_in (items_of l)) (map-append view so_far (value ∷ others)) ∙ ReadsOn-stop
    (map view so_far) texts (view value) (map view others) reads is)

-- another value, with its text
pub ReadsOn-next : (so_far : List Value) (texts pushed : List (String Global)) (value : Value) (text : String Global) → ReadsOn (map view so_far) (map string_bytes texts)
    → pushed ≡ texts ++ text ∷ [] → Some (string_bytes text) ≡ as_str (view value) → ReadsOn (map view (so_far ++ value ∷ [])) (map string_bytes pushed)
ReadsOn-next so_far texts pushed value text reads is e others =
    ap (λ l. texts_in (items_of (l ++ others))) (map-append view so_far (value ∷ []))
    ∙ ReadsOn-more (map view so_far) (map string_bytes texts) (view value) (string_bytes text) reads (sym e) others
    ∙ ap (λ l. option_map (λ (more : List (List ℕ)). l ++ more) (texts_in (items_of others))) (sym (ap (map string_bytes) is ∙ map-append string_bytes texts (text ∷ [])))

-- the texts of all values
pub texts_in-all : (all so_far : List Value) (texts : List (String Global)) → ReadsOn (map view so_far) (map string_bytes texts) → map (λ (x : Value). x) so_far ≡ all
    → Some (map string_bytes texts) ≡ texts_in (items_view all)
texts_in-all all so_far texts reads is =
    sym (ap (λ l. texts_in (items_view l)) (sym is ∙ unmapped so_far) ∙ ReadsOn-all (map view so_far) (map string_bytes texts) reads)
  where
    unmapped : (l : List Value) → map (λ (x : Value). x) l ≡ l
    unmapped [] = refl
    unmapped (x ∷ xs) = ap (λ (t : List Value). x ∷ t) (unmapped xs)

-- ---- the JSON of a text

pub json_in-none : (text : List ℕ) → (IsUtf8 text → read text ≡ None) → None ≡ json_in text
json_in-none text none = by_test (is_utf8 text) refl
  where
    by_test : (b : Bool) → is_utf8 text ≡ b → None ≡ (if b then read text else None)
    by_test true is = sym (none (IsUtf8-from_is_utf8 text is))
    by_test false is = refl

pub json_in-some : (text : List ℕ) (value : Data) → IsUtf8 text → read text ≡ Some value → Some value ≡ json_in text
json_in-some text value is there = rw (is_utf8-from_IsUtf8 text is, there) refl
