-- The page of all wards as it is read, place by place, and texts without their entities.
use Rattle.std.proofs.Common.{◌≡◌, ◌∙◌, ℕ, zero, suc, ◌+◌, ◌-◌, ◌<◌, ◌&&◌, nat_eq, Bool, true, false, List, [], ◌∷◌, ◌++◌, length, drop, get_or, take}
use Rattle.std.proofs.Common.{refl, sym, ap, subst, arith, append_assoc, Some, None}
use Rattle.std.specs.Prelude.{◌==◌, codes, if◌then◌else◌, Option}
use Rattle.std.specs.Cmp.Lexicographic.{pointwise}
use Rattle.std.specs.Option.{option_map}
use Rattle.std.proofs.lemmas.Bool.{eq-eqb, eqb-true, eqb-false, false≢true}
use Rattle.std.proofs.lemmas.List.{at_drop_more}
use Rattle.sheet.specs.Lines.{plain, plain_byte}
use Rattle.checker.specs.IndexPage.{RowEntry, begins, behind, behind_first, row_at, rows_in, unescaped, unescaped_from, with_row}
use Rattle.checker.specs.Tokens.{Text}
use Rattle.checker.proofs.LineLaws.{and_parts}

-- ---- entities

-- an escaped byte is read back
byte_back : (byte : ℕ) (rest : Text) → unescaped_from 0 (plain_byte byte ++ rest) ≡ byte ∷ unescaped_from 0 rest
byte_back byte rest = by (byte == 38) (byte == 60) (byte == 62) (byte == 34) (byte == 39) refl refl refl refl refl
  where
    by : (a b c d e : Bool) → (byte == 38) ≡ a → (byte == 60) ≡ b → (byte == 62) ≡ c → (byte == 34) ≡ d → (byte == 39) ≡ e
        → unescaped_from 0 ((if a then codes "&amp;" else (if b then codes "&lt;" else (if c then codes "&gt;" else (if d then codes "&quot;" else (if e then codes "&#39;" else byte ∷ []))))) ++ rest)
        ≡ byte ∷ unescaped_from 0 rest
    by true b c d e i j k l m = ap (λ x. x ∷ unescaped_from 0 rest) (sym (eqb-true byte 38 i))
    by false true c d e i j k l m = ap (λ x. x ∷ unescaped_from 0 rest) (sym (eqb-true byte 60 j))
    by false false true d e i j k l m = ap (λ x. x ∷ unescaped_from 0 rest) (sym (eqb-true byte 62 k))
    by false false false true e i j k l m = ap (λ x. x ∷ unescaped_from 0 rest) (sym (eqb-true byte 34 l))
    by false false false false true i j k l m = ap (λ x. x ∷ unescaped_from 0 rest) (sym (eqb-true byte 39 m))
    by false false false false false i j k l m = rw i refl

-- an escaped text is read back
pub plain_back : (text : Text) → unescaped (plain text) ≡ text
plain_back [] = refl
plain_back (byte ∷ text) = byte_back byte (plain text) ∙ ap (λ t. byte ∷ t) (plain_back text)

-- ---- lemmas for the functions

pub behind_none : (mark text : Text) → pointwise nat_eq (take (length mark) text) mark ≡ false → behind mark text ≡ None
behind_none [] [] differ = absurd (false≢true (sym differ))
behind_none [] (b ∷ text) differ = absurd (false≢true (sym differ))
behind_none (m ∷ mark) [] differ = refl
behind_none (m ∷ mark) (b ∷ text) differ = by (nat_eq b m) (m == b) differ refl refl (behind_none mark text)
  where
    by : (x y : Bool) → (x && pointwise nat_eq (take (length mark) text) mark) ≡ false → nat_eq b m ≡ x → (m == b) ≡ y
        → (pointwise nat_eq (take (length mark) text) mark ≡ false → behind mark text ≡ None) → (if y then behind mark text else None) ≡ None
    by x false differ e f rest = refl
    by true true differ e f rest = rest differ
    by false true differ e f rest = absurd (eqb-false b m e (sym (eqb-true m b f)))

pub behind_some : (mark text : Text) → pointwise nat_eq (take (length mark) text) mark ≡ true → behind mark text ≡ Some (drop (length mark) text)
behind_some [] [] same = refl
behind_some [] (b ∷ text) same = refl
behind_some (m ∷ mark) [] same = absurd (false≢true same)
behind_some (m ∷ mark) (b ∷ text) same =
    let part = and_parts (nat_eq b m) (pointwise nat_eq (take (length mark) text) mark) same in
    let alike : (m == b) ≡ true = eq-eqb m b (sym (eqb-true b m part.0)) in
    rw alike (behind_some mark text part.1)

-- bytes of an entity are passed over
pub unescaped_pass : (passed byte : ℕ) (text : Text) → 0 < passed → unescaped_from passed (byte ∷ text) ≡ unescaped_from (passed - 1) text
unescaped_pass zero byte text some = absurd (omega arith)
unescaped_pass (suc k) byte text some =
    let same : suc k - 1 ≡ k = omega arith in
    ap (λ n. unescaped_from n text) (sym same)

-- the rest of a text from a place on begins with the byte there
rest_at : (text : Text) (i : ℕ) → i < length text → (byte : ℕ) × (drop i text ≡ byte ∷ drop (i + 1) text)
rest_at text i within = (get_or text i 0, at_drop_more (λ t. t) text i 0 within)

-- no row begins at a place
pub rows_pass : (text : Text) (i : ℕ) → i < length text → begins (codes "</tbody>") (drop i text) ≡ false → behind (codes "<tr><th scope=\"row\">") (drop i text) ≡ None
    → rows_in (drop i text) ≡ rows_in (drop (i + 1) text)
rows_pass text i within on none =
    let at = rest_at text i within in
    ap rows_in at.1 ∙ by at.0 (subst (λ t. begins (codes "</tbody>") t ≡ false) at.1 on) (subst (λ t. behind (codes "<tr><th scope=\"row\">") t ≡ None) at.1 none)
  where
    by : (byte : ℕ) → begins (codes "</tbody>") (byte ∷ drop (i + 1) text) ≡ false → behind (codes "<tr><th scope=\"row\">") (byte ∷ drop (i + 1) text) ≡ None
        → rows_in (byte ∷ drop (i + 1) text) ≡ rows_in (drop (i + 1) text)
    by byte on none = rw (on, none) refl

-- a row begins at a place
pub rows_more : (text after : Text) (i : ℕ) → i < length text → begins (codes "</tbody>") (drop i text) ≡ false → behind (codes "<tr><th scope=\"row\">") (drop i text) ≡ Some after
    → rows_in (drop i text) ≡ with_row (row_at after) (rows_in (drop (i + 1) text))
rows_more text after i within on some =
    let at = rest_at text i within in
    ap rows_in at.1 ∙ by at.0 (subst (λ t. begins (codes "</tbody>") t ≡ false) at.1 on) (subst (λ t. behind (codes "<tr><th scope=\"row\">") t ≡ Some after) at.1 some)
  where
    by : (byte : ℕ) → begins (codes "</tbody>") (byte ∷ drop (i + 1) text) ≡ false → behind (codes "<tr><th scope=\"row\">") (byte ∷ drop (i + 1) text) ≡ Some after
        → rows_in (byte ∷ drop (i + 1) text) ≡ with_row (row_at after) (rows_in (drop (i + 1) text))
    by byte on some = rw (on, some) refl

-- another row
pub rows_pushed : (rows more : List RowEntry) (row : RowEntry) (others : Option (List RowEntry)) → more ≡ rows ++ row ∷ []
    → option_map (λ rest. more ++ rest) others ≡ option_map (λ rest. rows ++ rest) (with_row (Some row) others)
rows_pushed rows more row None is = refl
rows_pushed rows more row (Some rest) is = ap Some (ap (λ t. t ++ rest) is ∙ append_assoc rows (row ∷ []) rest)

-- the mark doesn't begin at a place
pub behind_pass : (mark text : Text) (i : ℕ) → i < length text → behind mark (drop i text) ≡ None → behind_first mark (drop i text) ≡ behind_first mark (drop (i + 1) text)
behind_pass mark text i within none =
    let at = rest_at text i within in
    ap (behind_first mark) at.1 ∙ by at.0 (subst (λ t. behind mark t ≡ None) at.1 none)
  where
    by : (byte : ℕ) → behind mark (byte ∷ drop (i + 1) text) ≡ None → behind_first mark (byte ∷ drop (i + 1) text) ≡ behind_first mark (drop (i + 1) text)
    by byte none = rw none refl

-- a byte at a place is passed over
pub unescaped_pass_at : (passed i : ℕ) (text : Text) → i < length text → 0 < passed → unescaped_from passed (drop i text) ≡ unescaped_from (passed - 1) (drop (i + 1) text)
unescaped_pass_at passed i text within some =
    let at = rest_at text i within in
    ap (unescaped_from passed) at.1 ∙ unescaped_pass passed at.0 (drop (i + 1) text) some
