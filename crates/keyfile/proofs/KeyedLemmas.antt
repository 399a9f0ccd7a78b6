-- The marks text of a paper in an import file means what its mark fields say.
use Rattle.std.proofs.Common.{◌≡◌, ◌∙◌, ◌∷◌, ◌==◌, ℕ, suc, zero, Bool, true, false, cond, List, [], length, Ok, refl, sym, ap, arith, codes, bytes_eq}
use Rattle.std.specs.List.{All, join_with_byte, list_any}
use Rattle.std.proofs.lemmas.Bool.{eq-eqb, or_parts}
use Rattle.std.proofs.lemmas.List.Splits.{slice_split_at, slice_split_none}
use Rattle.std.proofs.lemmas.Slice.Eq.{bytes_eq-Decides}
use Rattle.paper.specs.MarksText.{with_columns, fields, marks_in, reading}
use Rattle.paper.specs.declared.marked.Keyed.TheVariants.{Doubtful}
use Rattle.keyfile.specs.Keying.{AreReadAsKeyed, breaks_marks, is_break, is_doubtful}

no_comma : (mark : List ℕ) → breaks_marks mark ≡ false → All (λ b. (b == 44) ≡ false) mark
no_comma [] plain k d below = absurd (omega (arith, below))
no_comma (b ∷ bs) plain zero d below =
    let first = (or_parts (is_break b) (list_any is_break bs) plain).0 in
    (or_parts (b == 44) _ first).0
no_comma (b ∷ bs) plain (suc k) d below = no_comma bs (or_parts (is_break b) (list_any is_break bs) plain).1 k d (omega (arith, below))

-- fields without commas, joined with commas, are split into the same fields
fields-join : (mark : List ℕ) (marks : List (List ℕ)) → list_any breaks_marks (mark ∷ marks) ≡ false → fields (join_with_byte 44 (mark ∷ marks)) ≡ mark ∷ marks
fields-join mark [] plain = slice_split_none (λ b. b == 44) mark (no_comma mark (or_parts (breaks_marks mark) false plain).0)
fields-join mark (next ∷ marks) plain =
    let parts = or_parts (breaks_marks mark) (list_any breaks_marks (next ∷ marks)) plain in
    slice_split_at (λ b. b == 44) mark 44 (join_with_byte 44 (next ∷ marks)) (no_comma mark parts.0) refl ∙ ap (λ l. mark ∷ l) (fields-join next marks parts.1)

-- and the joined text isn't the letter D, unless D is the only field
not_letter : (mark : List ℕ) (marks : List (List ℕ)) → list_any breaks_marks (mark ∷ marks) ≡ false → is_doubtful (mark ∷ marks) ≡ false
    → bytes_eq (join_with_byte 44 (mark ∷ marks)) (codes "D") ≡ false
not_letter mark marks plain sure = by_test (bytes_eq (join_with_byte 44 (mark ∷ marks)) (codes "D")) refl
  where
    by_test : (b : Bool) → bytes_eq (join_with_byte 44 (mark ∷ marks)) (codes "D") ≡ b → b ≡ false
    by_test false is = refl
    by_test true is =
        let text : join_with_byte 44 (mark ∷ marks) ≡ codes "D" = (bytes_eq-Decides (join_with_byte 44 (mark ∷ marks)) (codes "D")).0 is in
        let letter : mark ∷ marks ≡ codes "D" ∷ [] = sym (fields-join mark marks plain) ∙ ap fields text in
        let doubt : is_doubtful (mark ∷ marks) ≡ true = ap is_doubtful letter in
        absurd (let e : true ≡ false = sym doubt ∙ sure in cc)

pub read_as_keyed : (columns : List ℕ) → AreReadAsKeyed columns
read_as_keyed columns [] some size plain = absurd (omega (arith, some, size))
read_as_keyed columns (mark ∷ marks) some size plain = by_doubt (is_doubtful (mark ∷ marks)) refl
  where
    by_doubt : (b : Bool) → is_doubtful (mark ∷ marks) ≡ b
        → reading columns (cond b (codes "D") (join_with_byte 44 (mark ∷ marks))) ≡ cond b (Ok Doubtful) (with_columns columns (marks_in (mark ∷ marks)))
    by_doubt true is = refl
    by_doubt false is =
        rw (not_letter mark marks plain is, fields-join mark marks plain, eq-eqb (length (mark ∷ marks)) (length columns) size) refl
