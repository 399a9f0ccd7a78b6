-- The line of a request, parsed again.
use Rattle.std.proofs.Common.{◌≡◌, ◌∙◌, ◌&&◌, ◌++◌, ℕ, Bool, true, false, true≢false, not, List, [], ◌∷◌, get_or, length, refl, sym, ap, ap₂, subst, arith, eq-eqb, eqb-true}
use Rattle.std.specs.Prelude.{◌==◌, if◌then◌else◌}
use Rattle.std.specs.List.{list_any}
use Rattle.std.proofs.lemmas.Bool.{and_parts}
use Rattle.std.proofs.lemmas.List.{length-append}
use Rattle.clap.specs.Words.{Text}
use Rattle.register.specs.declared.command.Request.{Request}
use Rattle.desk.specs.Journals.{IsScriptOf}
use Rattle.desk.specs.Orders.{sent_as}
use Rattle.desk.specs.RequestLines.{IsLineOf, IsWholeLine}
use Rattle.desk.specs.Scripts.{behind_byte_order_mark}
use Rattle.desk.proofs.NoScriptLemmas.{same_number, same_request}

-- a list of one element has only its first
only_one : (requests : List Request) (said : Request) → length requests ≡ 1 → said ≡ get_or requests 0 said → requests ≡ said ∷ []
only_one [] said one is = absurd (omega (arith, one))
only_one (r ∷ []) said one is = let same : said ≡ r = is in cc
only_one (r ∷ q ∷ rs) said one is = absurd (omega (arith, one))

-- a text that is one whole line, from which one request was parsed, which is the same as the given one
pub sends_one : (text : Text) (request : Request) (requests : List Request) (said : Request) (whole same : Bool) → length requests ≡ 1 → said ≡ get_or requests 0 said
    → IsScriptOf text requests → (whole ≡ true → IsWholeLine text) → (same ≡ true → sent_as said ≡ sent_as request) → (whole && same) ≡ true → IsLineOf text request
sends_one text request requests said whole same one is script is_whole is_same sure =
    let parts = and_parts whole same sure in
    record {
      said = said;
      same = is_same parts.1;
      script = subst (IsScriptOf text) (only_one requests said one is) script;
      whole = is_whole parts.0;
    }

-- a text from which one request was parsed, and which isn't one whole line or has another request, isn't the line of the given one
pub sends_other : (text : Text) (request : Request) (requests : List Request) (said : Request) (whole same : Bool) → length requests ≡ 1 → said ≡ get_or requests 0 said
    → IsScriptOf text requests → (IsWholeLine text → whole ≡ true) → (sent_as said ≡ sent_as request → same ≡ true) → (whole && same) ≡ false → IsLineOf text request → ⊥
sends_other text request requests said whole same one is script is_whole is_same none line =
    let alone : IsScriptOf text (said ∷ []) = subst (IsScriptOf text) (only_one requests said one is) script in
    let yes : same ≡ true = is_same (same_request text said line.said alone line.script ∙ line.same) in
    let both : (whole && same) ≡ true = ap₂ (λ (a b : Bool). a && b) (is_whole line.whole) yes in
    true≢false (sym both ∙ none)

-- nor is a text from which another number of requests was parsed
pub sends_many : (text : Text) (request : Request) (requests : List Request) → IsScriptOf text requests → (length requests ≡ 1 → ⊥) → IsLineOf text request → ⊥
sends_many text request requests script other line =
    let one : length requests ≡ length (line.said ∷ []) = same_number text requests (line.said ∷ []) script line.script in other (omega (arith, one))

-- ---- one whole line

-- a text has as many bytes without its byte order mark only if it has none
unmarked_by_length : (text : Text) → length (behind_byte_order_mark text) ≡ length text → behind_byte_order_mark text ≡ text
unmarked_by_length [] same = refl
unmarked_by_length (a ∷ []) same = refl
unmarked_by_length (a ∷ b ∷ []) same = refl
unmarked_by_length (a ∷ b ∷ c ∷ text) same = by (a == 239 && (b == 187 && c == 191)) same
  where
    by : (m : Bool) → length (if m then text else a ∷ b ∷ c ∷ text) ≡ length (a ∷ b ∷ c ∷ text) → (if m then text else a ∷ b ∷ c ∷ text) ≡ a ∷ b ∷ c ∷ text
    by true same = absurd (omega (arith, same))
    by false same = refl

-- a list ends with one element, after one list
same_end : (xs ys : Text) (x y : ℕ) → xs ++ x ∷ [] ≡ ys ++ y ∷ [] → (xs ≡ ys) × (x ≡ y)
same_end [] [] x y same = (refl, cc same)
same_end [] (b ∷ ys) x y same = let n = ap length same in absurd (omega (arith, n, length-append ys (y ∷ [])))
same_end (a ∷ xs) [] x y same = let n = ap length same in absurd (omega (arith, n, length-append xs (x ∷ [])))
same_end (a ∷ xs) (b ∷ ys) x y same =
    let first : a ≡ b = cc same in
    let rest : xs ++ x ∷ [] ≡ ys ++ y ∷ [] = cc same in
    let it = same_end xs ys x y rest in
    (ap₂ (λ (z : ℕ) (zs : Text). z ∷ zs) first it.0, it.1)

-- the tests of a whole line
pub passes_as_whole : (text words : Text) (last size full : ℕ) (broken : Bool) → text ≡ words ++ last ∷ [] → size ≡ length (behind_byte_order_mark text) → full ≡ length text
    → broken ≡ list_any (λ byte. byte == 10) words → ((last == 10) && ((size == full) && not broken)) ≡ true → IsWholeLine text
passes_as_whole text words last size full broken is short long tested sure =
    let parts = and_parts (last == 10) ((size == full) && not broken) sure in
    let others = and_parts (size == full) (not broken) parts.1 in
    let even : size ≡ full = eqb-true size full others.0 in
    record {
      words = words;
      ends = is ∙ ap (λ (n : ℕ). words ++ n ∷ []) (eqb-true last 10 parts.0);
      one = sym tested ∙ none_of broken others.1;
      unmarked = unmarked_by_length text (sym short ∙ (even ∙ long));
    }
  where
    none_of : (b : Bool) → not b ≡ true → b ≡ false
    none_of true bad = absurd (cc bad)
    none_of false fine = refl

-- a whole line passes them
pub whole_passes : (text words : Text) (last size full : ℕ) (broken : Bool) → text ≡ words ++ last ∷ [] → size ≡ length (behind_byte_order_mark text) → full ≡ length text
    → broken ≡ list_any (λ byte. byte == 10) words → IsWholeLine text → ((last == 10) && ((size == full) && not broken)) ≡ true
whole_passes text words last size full broken is short long tested line =
    let parts = same_end words line.words last 10 (sym is ∙ line.ends) in
    let even : size ≡ full = short ∙ (ap length line.unmarked ∙ sym long) in
    let one : broken ≡ false = tested ∙ (ap (list_any (λ byte. byte == 10)) parts.0 ∙ line.one) in
    ap₂ (λ (a b : Bool). a && b) (eq-eqb last 10 parts.1) (ap₂ (λ (a b : Bool). a && b) (eq-eqb size full even) (ap not one))

-- an empty text isn't a whole line
pub none_whole : (text : Text) → length text ≡ 0 → IsWholeLine text → ⊥
none_whole text none line = let n = ap length line.ends in omega (arith, none, n, length-append line.words (10 ∷ []))
