-- A row of a table is UTF-8 if its cells are.
use Rattle.std.proofs.Common.{◌≡◌, ℕ, ◌<◌, ◌≤◌, ◌==◌, Bool, true, false, cond, if◌then◌else◌, List, [], ◌∷◌, ◌++◌, map, String, string_bytes, IsUtf8, refl, sym, ap, subst, arith, ◌∙◌}
use Rattle.std.proofs.Common.{append_assoc, append-nil}
use Rattle.std.specs.List.{flat_map}
use Rattle.std.proofs.lemmas.Bool.{cond-false, ne_eqb}
use Rattle.std.proofs.lemmas.Grind.{flat_map-append}
use Rattle.std.proofs.lemmas.Str.{IsUtf8-append, IsUtf8-had, IsUtf8-nil}
use Rattle.std.specs.declared.alloc.Global.{Global}
use Rattle.csv.specs.Writing.{escaped, fields_text, field_text, is_blank, row_text}
use Rattle.sheet.specs.Spreadsheet.{writer}
use Rattle.sheet.proofs.Bytewise.{ascii_then, IsUtf8-by_bytes}

-- a quotation mark is written twice
abbrev doubled : ℕ → List ℕ
doubled b = if b == 34 then 34 ∷ b ∷ [] else b ∷ []

by_byte : (is : Bool) (b : ℕ) (xs ys : List ℕ) → xs ≡ ys → cond is (34 ∷ b ∷ xs) (b ∷ xs) ≡ cond is (34 ∷ b ∷ []) (b ∷ []) ++ ys
by_byte true b xs ys same = ap (λ l. 34 ∷ b ∷ l) same
by_byte false b xs ys same = ap (λ l. b ∷ l) same

escaped_is : (field : List ℕ) → escaped writer field ≡ flat_map doubled field
unfolding escaped
escaped_is [] = refl
escaped_is (b ∷ rest) = by_byte (b == 34) b (escaped writer rest) (flat_map doubled rest) (escaped_is rest)

doubled_low : (x : ℕ) → x < 128 → IsUtf8 (doubled x)
doubled_low x small = either (x == 34)
  where
    either : (is : Bool) → IsUtf8 (cond is (34 ∷ x ∷ []) (x ∷ []))
    either true = ascii_then 34 (x ∷ []) (omega arith) (ascii_then x [] small IsUtf8-nil)
    either false = ascii_then x [] small IsUtf8-nil

doubled_high : (x : ℕ) → 128 ≤ x → doubled x ≡ x ∷ []
doubled_high x high = cond-false (x == 34) (34 ∷ x ∷ []) (x ∷ []) (ne_eqb x 34 (λ e. omega (arith, e)))

field_is : (field : List ℕ) → IsUtf8 field → IsUtf8 (field_text writer field)
field_is field u =
    ascii_then 34 (escaped writer field ++ 34 ∷ []) (omega arith)
    (IsUtf8-append (escaped writer field) (34 ∷ []) (subst IsUtf8 (sym (escaped_is field)) (IsUtf8-by_bytes doubled doubled_low doubled_high field u)) (ascii_then 34 [] (omega arith) IsUtf8-nil))

fields_are : (row : List (String Global)) → IsUtf8 (fields_text writer (map string_bytes row))
unfolding fields_text
fields_are [] = IsUtf8-nil
fields_are (cell ∷ rest) =
    ascii_then 44 (field_text writer (string_bytes cell) ++ fields_text writer (map string_bytes rest)) (omega arith)
    (IsUtf8-append (field_text writer (string_bytes cell)) (fields_text writer (map string_bytes rest)) (field_is (string_bytes cell) (IsUtf8-had (string_bytes cell) cell.ok)) (fields_are rest))

end_is : (blank : Bool) → IsUtf8 ((if blank then 34 ∷ 34 ∷ [] else []) ++ 10 ∷ [])
end_is true = ascii_then 34 (34 ∷ 10 ∷ []) (omega arith) (ascii_then 34 (10 ∷ []) (omega arith) (ascii_then 10 [] (omega arith) IsUtf8-nil))
end_is false = ascii_then 10 [] (omega arith) IsUtf8-nil

-- the line for a row
pub IsUtf8-row : (row : List (String Global)) → IsUtf8 (row_text writer (map string_bytes row))
IsUtf8-row [] = end_is (is_blank writer [])
IsUtf8-row (cell ∷ rest) =
    IsUtf8-append (field_text writer (string_bytes cell) ++ fields_text writer (map string_bytes rest)) _
    (IsUtf8-append (field_text writer (string_bytes cell)) (fields_text writer (map string_bytes rest)) (field_is (string_bytes cell) (IsUtf8-had (string_bytes cell) cell.ok)) (fields_are rest))
    (end_is (is_blank writer (string_bytes cell ∷ map string_bytes rest)))

-- the lines for rows, in order
pub rows_whole : (first last_but_one last : List (List ℕ)) (middle : List (List (List ℕ))) (none one two three four : List ℕ) →
    none ≡ [] → one ≡ none ++ row_text writer first → two ≡ one ++ flat_map (row_text writer) middle →
    three ≡ two ++ row_text writer last_but_one → four ≡ three ++ row_text writer last →
    four ≡ flat_map (row_text writer) (first ∷ middle ++ last_but_one ∷ last ∷ [])
rows_whole first last_but_one last middle none one two three four is_none is_one is_two is_three is_four =
    let f = row_text writer in
    is_four ∙ ap (λ l. l ++ f last) (is_three ∙ ap (λ l. l ++ f last_but_one) (is_two ∙ ap (λ l. l ++ flat_map f middle) (is_one ∙ ap (λ l. l ++ f first) is_none)))
    ∙ append_assoc (f first ++ flat_map f middle) (f last_but_one) (f last)
    ∙ append_assoc (f first) (flat_map f middle) (f last_but_one ++ f last)
    ∙ ap (λ l. f first ++ l) (
    ap (λ l. flat_map f middle ++ (f last_but_one ++ l)) (sym (append-nil (f last)))
    ∙ sym (flat_map-append f middle (last_but_one ∷ last ∷ [])))

pub ruleset rows = (IsUtf8-row)
