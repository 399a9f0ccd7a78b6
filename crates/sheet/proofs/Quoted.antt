-- Quoted texts, and texts on a page, are UTF-8.
use Rattle.std.proofs.Common.{◌≡◌, ℕ, ◌<◌, ◌≤◌, ◌||◌, ◌==◌, Bool, true, false, cond, codes, List, [], ◌∷◌, nat_lt, IsUtf8, refl, ◌∙◌, ap₂, arith}
use Rattle.std.specs.List.{flat_map, list_all}
use Rattle.std.proofs.lemmas.Bool.{and_parts, cond-false, ltb-true, ne_eqb}
use Rattle.std.proofs.lemmas.Str.{IsUtf8-nil}
use Rattle.sheet.specs.Lines.{escaped, plain_byte, plain}
use Rattle.sheet.proofs.Bytewise.{ascii_then, IsUtf8-by_bytes}

-- if both texts are UTF-8, so is the chosen text
either : (b : Bool) (xs ys : List ℕ) → IsUtf8 xs → IsUtf8 ys → IsUtf8 (cond b xs ys)
either true xs ys left right = left
either false xs ys left right = right

-- ---- quoted texts

-- an ASCII byte is preceded by a backslash or by nothing
escaped_small : (x : ℕ) → x < 128 → IsUtf8 (escaped x)
escaped_small x small =
    either ((x == 34) || (x == 92)) (92 ∷ x ∷ []) (x ∷ []) (ascii_then 92 (x ∷ []) (omega arith) (ascii_then x [] small IsUtf8-nil)) (ascii_then x [] small IsUtf8-nil)

-- any other byte is preceded by nothing
escaped_high : (x : ℕ) → 128 ≤ x → escaped x ≡ x ∷ []
escaped_high x high =
    let bare : ((x == 34) || (x == 92)) ≡ false = ap₂ (λ (a b : Bool). a || b) (ne_eqb x 34 (λ e. omega (arith, e))) (ne_eqb x 92 (λ e. omega (arith, e))) in
    cond-false ((x == 34) || (x == 92)) (92 ∷ x ∷ []) (x ∷ []) bare

-- the bytes between the quotation marks
pub IsUtf8-escaped : (text : List ℕ) → IsUtf8 text → IsUtf8 (flat_map escaped text)
IsUtf8-escaped = IsUtf8-by_bytes escaped escaped_small escaped_high

-- ---- texts on a page

ascii_text : (xs : List ℕ) → list_all (λ x. nat_lt x 128) xs ≡ true → IsUtf8 xs
ascii_text [] e = IsUtf8-nil
ascii_text (x ∷ xs) e =
    let p = and_parts (nat_lt x 128) (list_all (λ x. nat_lt x 128) xs) e in
    let low : x < 128 = ltb-true _ _ p.0 in
    ascii_then x xs low (ascii_text xs p.1)

-- an ASCII byte stays the same or becomes an entity
plain_small : (x : ℕ) → x < 128 → IsUtf8 (plain_byte x)
plain_small x small =
    either (x == 38) _ _ (ascii_text (codes "&amp;") refl)
    (either (x == 60) _ _ (ascii_text (codes "&lt;") refl)
    (either (x == 62) _ _ (ascii_text (codes "&gt;") refl)
    (either (x == 34) _ _ (ascii_text (codes "&quot;") refl)
    (either (x == 39) _ _ (ascii_text (codes "&#39;") refl) (ascii_then x [] small IsUtf8-nil)))))

-- any other byte stays the same
plain_high : (x : ℕ) → 128 ≤ x → plain_byte x ≡ x ∷ []
plain_high x high =
    cond-false (x == 38) _ _ (ne_eqb x 38 (λ e. omega (arith, e)))
    ∙ cond-false (x == 60) _ _ (ne_eqb x 60 (λ e. omega (arith, e)))
    ∙ cond-false (x == 62) _ _ (ne_eqb x 62 (λ e. omega (arith, e)))
    ∙ cond-false (x == 34) _ _ (ne_eqb x 34 (λ e. omega (arith, e)))
    ∙ cond-false (x == 39) _ _ (ne_eqb x 39 (λ e. omega (arith, e)))

pub IsUtf8-page_text : (text : List ℕ) → IsUtf8 text → IsUtf8 (plain text)
IsUtf8-page_text = IsUtf8-by_bytes plain_byte plain_small plain_high
