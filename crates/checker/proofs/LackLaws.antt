-- Bytes that a text lacks, so that what precedes them is read back: the text of a number, and escaped texts.
use Rattle.std.proofs.Common.{◌≡◌, ℕ, zero, suc, ◌+◌, ◌/◌, ◌%◌, ◌<◌, ◌≤◌, Bool, true, false, [], ◌∷◌, ◌++◌, refl, ap, arith, Some}
use Rattle.std.specs.Prelude.{◌==◌, codes, if◌then◌else◌}
use Rattle.std.specs.Fmt.{decimal, digit_glyph, digits, digits_onto}
use Rattle.std.specs.List.{AllByRecursion, list_all}
use Rattle.std.specs.Option.{option_map}
use Rattle.std.proofs.lemmas.Bool.{le-leb, lt-ltb}
use Rattle.sheet.specs.Lines.{plain, plain_byte}
use Rattle.checker.specs.IndexPage.{behind, field, from_first, until}
use Rattle.checker.specs.Tokens.{Text}
use Rattle.checker.proofs.LineLaws.{and_both, and_parts, figure_other, is_figure}

-- ---- bytes that a text lacks

-- the given byte isn't in a text
abbrev pub Lacks : ℕ → Text → Type 0
Lacks stop xs = AllByRecursion (λ x. (x == stop) ≡ false) xs

lacks-append : (stop : ℕ) (xs ys : Text) → Lacks stop xs → Lacks stop ys → Lacks stop (xs ++ ys)
lacks-append stop [] ys a b = b
lacks-append stop (x ∷ xs) ys a b = (a.0, lacks-append stop xs ys a.1 b)

pub until_there : (stop : ℕ) (xs rest : Text) → Lacks stop xs → (stop == stop) ≡ true → until stop (xs ++ stop ∷ rest) ≡ xs
until_there stop [] rest none same = rw same refl
until_there stop (x ∷ xs) rest none same = rw none.0 (ap (λ t. x ∷ t) (until_there stop xs rest none.1 same))

from_there : (stop : ℕ) (xs rest : Text) → Lacks stop xs → (stop == stop) ≡ true → from_first stop (xs ++ stop ∷ rest) ≡ stop ∷ rest
from_there stop [] rest none same = rw same refl
from_there stop (x ∷ xs) rest none same = rw none.0 (from_there stop xs rest none.1 same)

behind_itself : (mark rest : Text) → AllByRecursion (λ x. (x == x) ≡ true) mark → behind mark (mark ++ rest) ≡ Some rest
behind_itself [] rest same = refl
behind_itself (m ∷ mark) rest same = rw same.0 (behind_itself mark rest same.1)

-- a field is read back
pub field_back : (stop : ℕ) (xs mark rest : Text) → Lacks stop xs → AllByRecursion (λ x. (x == x) ≡ true) (stop ∷ mark) → field stop (stop ∷ mark) (xs ++ stop ∷ (mark ++ rest)) ≡ Some (xs, rest)
field_back stop xs mark rest none same =
    rw (until_there stop xs (mark ++ rest) none same.0, from_there stop xs (mark ++ rest) none same.0)
    (ap (option_map (λ after. (xs, after))) (behind_itself (stop ∷ mark) rest same))

-- ---- the text of a number, and escaped texts

glyph_figure : (d : ℕ) → d < 10 → is_figure (digit_glyph false d) ≡ true
glyph_figure d small =
    let same : digit_glyph false d ≡ 48 + d = rw (lt-ltb d 10 small) refl in
    rw same (and_both _ _ (le-leb 45 (48 + d) (omega arith)) (le-leb (48 + d) 57 (omega arith)))

onto_figures : (k n : ℕ) (acc : Text) → list_all is_figure acc ≡ true → list_all is_figure (digits_onto k 10 false n acc) ≡ true
onto_figures zero n acc all = all
onto_figures (suc k) n acc all =
    let more : list_all is_figure (digit_glyph false (n % 10) ∷ acc) ≡ true = and_both _ _ (glyph_figure (n % 10) (omega arith)) all in
    by (n / 10 == 0) more (onto_figures k (n / 10) (digit_glyph false (n % 10) ∷ acc) more)
  where
    by : (b : Bool) → list_all is_figure (digit_glyph false (n % 10) ∷ acc) ≡ true → list_all is_figure (digits_onto k 10 false (n / 10) (digit_glyph false (n % 10) ∷ acc)) ≡ true
        → list_all is_figure (if b then digit_glyph false (n % 10) ∷ acc else digits_onto k 10 false (n / 10) (digit_glyph false (n % 10) ∷ acc)) ≡ true
    by true here later = here
    by false here later = later

-- the text of each number has figures only
number_figures : (n : ℕ) → list_all is_figure (decimal n) ≡ true
unfolding digits
number_figures n = onto_figures 64 n [] refl

figures_lack : (stop : ℕ) → (45 ≤ stop → stop ≤ 57 → ⊥) → (xs : Text) → list_all is_figure xs ≡ true → Lacks stop xs
figures_lack stop out [] all = tt
figures_lack stop out (x ∷ xs) all =
    let part = and_parts (is_figure x) (list_all is_figure xs) all in
    (figure_other x stop part.0 out, figures_lack stop out xs part.1)

pub number_lacks : (stop n : ℕ) → (45 ≤ stop → stop ≤ 57 → ⊥) → Lacks stop (decimal n)
number_lacks stop n out = figures_lack stop out (decimal n) (number_figures n)

-- an escaped byte isn't markup
byte_lacks : (byte : ℕ) → Lacks 60 (plain_byte byte)
byte_lacks byte = by (byte == 38) (byte == 60) (byte == 62) (byte == 34) (byte == 39) refl
  where
    by : (a b c d e : Bool) → (byte == 60) ≡ b
        → Lacks 60 (if a then codes "&amp;" else (if b then codes "&lt;" else (if c then codes "&gt;" else (if d then codes "&quot;" else (if e then codes "&#39;" else byte ∷ [])))))
    by true b c d e is = (refl, (refl, (refl, (refl, (refl, tt)))))
    by false true c d e is = (refl, (refl, (refl, (refl, tt))))
    by false false true d e is = (refl, (refl, (refl, (refl, tt))))
    by false false false true e is = (refl, (refl, (refl, (refl, (refl, (refl, tt))))))
    by false false false false true is = (refl, (refl, (refl, (refl, (refl, tt)))))
    by false false false false false is = (is, tt)

pub plain_lacks : (text : Text) → Lacks 60 (plain text)
plain_lacks [] = tt
plain_lacks (byte ∷ text) = lacks-append 60 (plain_byte byte) (plain text) (byte_lacks byte) (plain_lacks text)
