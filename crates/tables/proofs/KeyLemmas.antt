-- Rows with values of the correct kinds and the same key have equal values in the key's columns.
use Rattle.std.proofs.Common.{◌≡◌, ℕ, zero, suc, ◌+◌, ◌≤◌, List, [], ◌∷◌, ◌++◌, length, true, refl, sym, ap, ◌∙◌, arith, true≢false, ◌&&◌}
use Rattle.std.proofs.lemmas.Bool.{and_parts}
use Rattle.std.proofs.lemmas.List.{map-append}
use Rattle.std.proofs.lemmas.Slice.Eq.{bytes_eq-Decides}
use Rattle.std.proofs.lemmas.Map.Text.{is_eq-slice_cmp}
use Rattle.sqlite.specs.declared.types.Value.{Value}
use Rattle.sqlite.specs.declared.types.Value.TheVariants.{Int, Text, Blob}
use Rattle.sqlite.specs.Kind.{Kind}
use Rattle.sqlite.specs.Kind.TheVariants.{Integer, Text as Words, Blob as Bytes}
use Rattle.sqlite.specs.Collation.TheVariants.{Binary}
use Rattle.sqlite.specs.Order.{Row, column}
use Rattle.sqlite_schema.specs.Rules.{equal}
use Rattle.sqlite_schema.specs.declared.schema.Column.{Column}
use Rattle.tables.specs.declared.table.Table.{Table}
use Rattle.tables.specs.Schema.{shape, columns_of, places_from}
use Rattle.tables.specs.Rows.{at, is_of, are_of, is_row_of, agree_at, has_key}
use Rattle.tables.proofs.Edits.{beyond_key}
use Rattle.tables.proofs.ListingLemmas.{key_within}
use Rattle.tables.proofs.OrderLemmas.{equal-Int, equal-words, equal-Blob}
use Rattle.tables.proofs.PickLemmas.{tied}
use Rattle.tables.proofs.ColumnPlaceLemmas.{padded, pads, typed_at}

-- values of the same kind that SQL considers equal are equal
same_value : (k : Kind) (a b : Value) → is_of k a ≡ true → is_of k b ≡ true → equal Binary a b ≡ true → a ≡ b
same_value Integer (Int m) (Int n) h l e = ap Int (tied m n (sym (equal-Int m n) ∙ e))
same_value Words (Text s) (Text t) h l e = ap Text ((bytes_eq-Decides s t).0 (sym (equal-words s t) ∙ e))
same_value Bytes (Blob s) (Blob t) h l e = ap Blob ((bytes_eq-Decides s t).0 (sym (equal-Blob s t ∙ is_eq-slice_cmp s t) ∙ e))
same_value Integer (Int m) _ h l e = absurd (true≢false (sym l))
same_value Words (Text s) _ h l e = absurd (true≢false (sym l))
same_value Bytes (Blob s) _ h l e = absurd (true≢false (sym l))
same_value _ _ _ h l e = absurd (true≢false (sym h))

shifted : (p n : ℕ) (u v : Value) (a b : Row) → agree_at (places_from (suc p) n) (u ∷ a) (v ∷ b) ≡ agree_at (places_from p n) a b
shifted p zero u v a b = refl
shifted p (suc n) u v a b = ap (λ x. equal Binary (column a p) (column b p) && x) (shifted (suc p) n u v a b)

same_front : (cs : List Column) (k : ℕ) (a b : Row) → are_of cs a ≡ true → are_of cs b ≡ true → k ≤ length cs → agree_at (places_from 0 k) a b ≡ true → padded k a ≡ padded k b
same_front cs zero a b first second low agree = refl
same_front [] (suc k) a b first second low agree = absurd (omega (arith, low))
same_front (c ∷ cs) (suc k) [] b first second low agree = absurd (true≢false (sym first))
same_front (c ∷ cs) (suc k) (u ∷ a) [] first second low agree = absurd (true≢false (sym second))
same_front (c ∷ cs) (suc k) (u ∷ a) (v ∷ b) first second low agree =
    let f = and_parts _ _ first in
    let s = and_parts _ _ second in
    let e = and_parts _ _ agree in
    ap (λ x. x ∷ padded k a) (same_value c.kind u v f.0 s.0 e.0) ∙ ap (λ l. v ∷ l) (same_front cs k a b f.1 s.1 (omega (arith, low)) (sym (shifted 0 k u v a b) ∙ e.1))

places_split : (p k n : ℕ) → places_from p k ++ places_from (p + k) n ≡ places_from p (k + n)
places_split p zero n = ap (λ m. places_from m n) (right p) ∙ ap (places_from p) (left n)
  where
    right : (m : ℕ) → m + 0 ≡ m
    right m = omega arith

    left : (m : ℕ) → m ≡ 0 + m
    left m = omega arith
places_split p (suc k) n = ap (λ m. p ∷ places_from (suc p) k ++ places_from m n) (over p k) ∙ ap (λ l. p ∷ l) (places_split (suc p) k n) ∙ ap (places_from p) (on k n)
  where
    over : (m l : ℕ) → m + suc l ≡ suc m + l
    over m l = omega arith

    on : (m l : ℕ) → suc (m + l) ≡ suc m + l
    on m l = omega arith

beyond_within : (t : Table) → (shape t).key + beyond_key t ≡ length (columns_of t)
beyond_within t = let low = key_within t in omega (arith, low)

-- the key of one row, followed by the remaining values of another row with the same key, is that other row
pub updated_row : (t : Table) (was row : Row) → is_row_of t was ≡ true → is_row_of t row ≡ true → has_key t row was ≡ true
    → at (places_from 0 (shape t).key) was ++ at (places_from (shape t).key (beyond_key t)) row ≡ row
updated_row t was row first second agree =
    let k = (shape t).key in
    let n = beyond_key t in
    let cs = columns_of t in
    ap (λ l. l ++ at (places_from k n) row) (pads k was ∙ same_front cs k was row first second (key_within t) agree ∙ sym (pads k row))
    ∙ sym (map-append (column row) (places_from 0 k) (places_from k n))
    ∙ ap (λ l. at l row) (ap (λ p. places_from 0 k ++ places_from p n) (plus k) ∙ places_split 0 k n ∙ ap (places_from 0) (beyond_within t)) ∙ typed_at cs row second
  where
    plus : (m : ℕ) → m ≡ 0 + m
    plus m = omega arith
