-- Joined texts that split into exactly their original pieces, and lines that are read in order.
use Rattle.std.proofs.Common.{◌≡◌, ◌∙◌, ℕ, ◌+◌, ◌<◌, ◌≤◌, ◌&&◌, ◌||◌, nat_le, Bool, true, false, List, [], ◌∷◌, ◌++◌, length, refl, sym, ap, arith, append_assoc, append-nil, Ok}
use Rattle.std.specs.Prelude.{◌==◌}
use Rattle.std.specs.List.{flat_map, list_all, list_any}
use Rattle.std.proofs.lemmas.Bool.{eqb-true, false≢true, leb-true, ne_eqb}
use Rattle.std.proofs.lemmas.List.Folds.{list_all-append}
use Rattle.checker.specs.Outcomes.{and_then}
use Rattle.checker.specs.ForeignComments.{behind_number_sign, skip_foreign}
use Rattle.checker.specs.Tokens.{Text, is_blank, kind_of, parts, piece, pieces_of}
use Rattle.checker.specs.Reading.{ReaderEntry, before_comment, read_from, with_line, words_before_comment}
use Rattle.checker.specs.declared.tokens.LineKind.TheVariants.{Content}
use Rattle.checker.specs.declared.tokens.Separator.{Separator}
use Rattle.checker.specs.declared.tokens.Separator.TheVariants.{Blank, LineFeed}

pub or_none : (a b : Bool) → (a || b) ≡ false → (a ≡ false) × (b ≡ false)
or_none false b h = (refl, h)
or_none true b h = absurd (false≢true (sym h))

pub and_parts : (a b : Bool) → (a && b) ≡ true → (a ≡ true) × (b ≡ true)
and_parts true b h = (refl, h)
and_parts false b h = absurd (false≢true h)

pub and_both : (a b : Bool) → a ≡ true → b ≡ true → (a && b) ≡ true
and_both a b h k = rw (h, k) refl

pub or_both : (a b : Bool) → a ≡ false → b ≡ false → (a || b) ≡ false
or_both a b h k = rw (h, k) refl

-- ---- pieces

-- a piece ends at the first separator
pub cut_piece : (s : Separator) (begun body : Text) (b : ℕ) (rest : Text) → list_any (parts s) body ≡ false → parts s b ≡ true →
    pieces_of s begun (body ++ b ∷ rest) ≡ piece s (begun ++ body) ++ pieces_of s [] rest
cut_piece s begun [] b rest none parted = rw (parted, append-nil begun) refl
cut_piece s begun (x ∷ body) b rest none parted =
    let part = or_none (parts s x) (list_any (parts s) body) none in
    rw part.0 (cut_piece s (begun ++ x ∷ []) body b rest part.1 parted ∙ ap (λ t. piece s t ++ pieces_of s [] rest) (append_assoc begun (x ∷ []) body))

-- or at the end of the text
pub last_piece : (s : Separator) (begun body : Text) → list_any (parts s) body ≡ false → pieces_of s begun body ≡ piece s (begun ++ body)
last_piece s begun [] none = ap (piece s) (sym (append-nil begun))
last_piece s begun (x ∷ body) none =
    let part = or_none (parts s x) (list_any (parts s) body) none in
    rw part.0 (last_piece s (begun ++ x ∷ []) body part.1 ∙ ap (piece s) (append_assoc begun (x ∷ []) body))

-- ---- bytes

pub none_of : (p q : ℕ → Bool) → ((b : ℕ) → p b ≡ true → q b ≡ false) → (xs : List ℕ) → list_all p xs ≡ true → list_any q xs ≡ false
none_of p q apart [] all = refl
none_of p q apart (x ∷ xs) all =
    let part = and_parts (p x) (list_all p xs) all in
    or_both (q x) (list_any q xs) (apart x part.0) (none_of p q apart xs part.1)

pub all_of : (p q : ℕ → Bool) → ((b : ℕ) → p b ≡ true → q b ≡ true) → (xs : List ℕ) → list_all p xs ≡ true → list_all q xs ≡ true
all_of p q so [] all = refl
all_of p q so (x ∷ xs) all =
    let part = and_parts (p x) (list_all p xs) all in
    and_both (q x) (list_all q xs) (so x part.0) (all_of p q so xs part.1)

-- a byte from `-` (45) to `9` (57), as are all bytes of numbers
abbrev pub is_figure : ℕ → Bool
is_figure b = nat_le 45 b && nat_le b 57

pub figure_bounds : (b : ℕ) → is_figure b ≡ true → (45 ≤ b) × (b ≤ 57)
figure_bounds b h =
    let part = and_parts (nat_le 45 b) (nat_le b 57) h in
    (leb-true 45 b part.0, leb-true b 57 part.1)

-- a byte in that range differs from every byte outside it
pub figure_other : (b n : ℕ) → is_figure b ≡ true → (45 ≤ n → n ≤ 57 → ⊥) → (b == n) ≡ false
figure_other b n h out =
    let bounds = figure_bounds b h in
    ne_eqb b n (λ e. out (omega (arith, e, bounds.0)) (omega (arith, e, bounds.1)))

pub figure_unblank : (b : ℕ) → is_figure b ≡ true → is_blank b ≡ false
figure_unblank b h = or_both _ _ (figure_other b 32 h (λ l m. omega arith)) (or_both _ _ (figure_other b 9 h (λ l m. omega arith)) (figure_other b 13 h (λ l m. omega arith)))

-- a word that consists of bytes in that range
pub record IsFigures (w : Text) : Type 0 where
  pub all : list_all is_figure w ≡ true
  pub some : 0 < length w

-- a byte in that range, or a space
abbrev pub is_plain : ℕ → Bool
is_plain b = is_figure b || (b == 32)

or_left : (a b : Bool) → a ≡ true → (a || b) ≡ true
or_left a b h = rw h refl

pub plain_other : (b n : ℕ) → (45 ≤ n → n ≤ 57 → ⊥) → (n ≡ 32 → ⊥) → is_plain b ≡ true → (b == n) ≡ false
plain_other b n out apart h = by (is_figure b) refl h
  where
    eq : (c : Bool) → (b == 32) ≡ c → c ≡ true → (b == n) ≡ false
    eq true e h = ne_eqb b n (λ same. apart (sym same ∙ eqb-true b 32 e))
    eq false e h = absurd (false≢true h)

    by : (c : Bool) → is_figure b ≡ c → (c || (b == 32)) ≡ true → (b == n) ≡ false
    by true e h = figure_other b n e out
    by false e h = eq (b == 32) refl h

-- ---- a line of numbers: words of digits and minuses, separated by single spaces

abbrev pub spaced : List Text → Text
spaced ws = flat_map (λ w. 32 ∷ w) ws

abbrev pub AreFigures : List Text → Type 0
AreFigures [] = Unit {0}
AreFigures (w ∷ ws) = IsFigures w × AreFigures ws

figures_plain : (w : Text) → IsFigures w → list_all is_plain w ≡ true
figures_plain w is = all_of is_figure is_plain (λ b h. or_left (is_figure b) (b == 32) h) w is.all

pub spaced_plain : (ws : List Text) → AreFigures ws → list_all is_plain (spaced ws) ≡ true
spaced_plain [] are = refl
spaced_plain (w ∷ ws) are = list_all-append is_plain w (spaced ws) ∙ and_both _ _ (figures_plain w are.0) (spaced_plain ws are.1)

pub line_plain : (w : Text) (ws : List Text) → IsFigures w → AreFigures ws → list_all is_plain (w ++ spaced ws) ≡ true
line_plain w ws is are = list_all-append is_plain w (spaced ws) ∙ and_both _ _ (figures_plain w is) (spaced_plain ws are)

word_whole : (w : Text) → 0 < length w → piece Blank w ≡ w ∷ []
word_whole [] some = absurd (omega arith)
word_whole (b ∷ w) some = refl

unblank : (w : Text) → IsFigures w → list_any (parts Blank) w ≡ false
unblank w is = none_of is_figure (parts Blank) figure_unblank w is.all

pub line_words : (w : Text) (ws : List Text) → IsFigures w → AreFigures ws → pieces_of Blank [] (w ++ spaced ws) ≡ w ∷ ws
line_words w [] is are = ap (pieces_of Blank []) (append-nil w) ∙ (last_piece Blank [] w (unblank w is) ∙ word_whole w is.some)
line_words w (v ∷ ws) is are =
    cut_piece Blank [] w 32 (v ++ spaced ws) (unblank w is) refl ∙ (ap (λ ps. ps ++ pieces_of Blank [] (v ++ spaced ws)) (word_whole w is.some) ∙ ap (λ ps. w ∷ ps) (line_words v ws are.0 are.1))

no_comment : (xs : Text) → list_any (λ b. b == 35) xs ≡ false → before_comment xs ≡ xs
no_comment [] none = refl
no_comment (x ∷ xs) none =
    let part = or_none (x == 35) (list_any (λ b. b == 35) xs) none in
    rw part.0 (ap (λ t. x ∷ t) (no_comment xs part.1))

nothing_behind : (xs : Text) → list_any (λ b. b == 35) xs ≡ false → behind_number_sign xs ≡ []
nothing_behind [] none = refl
nothing_behind (x ∷ xs) none =
    let part = or_none (x == 35) (list_any (λ b. b == 35) xs) none in
    rw part.0 (nothing_behind xs part.1)

pub line_numbers : (w : Text) (ws : List Text) → IsFigures w → AreFigures ws → words_before_comment (w ++ spaced ws) ≡ Ok (w ∷ ws)
line_numbers w ws is are =
    let line = w ++ spaced ws in
    let none = none_of is_plain (λ b. b == 35) (λ b h. plain_other b 35 (λ l m. omega arith) (λ e. omega (arith, e)) h) line (line_plain w ws is are) in
    let passed : skip_foreign (behind_number_sign line) ≡ Ok tt = ap skip_foreign (nothing_behind line none) in
    ap (λ told. and_then told (λ passed. Ok (pieces_of Blank [] (before_comment line)))) passed
    ∙ ap Ok (ap (pieces_of Blank []) (no_comment line none) ∙ line_words w ws is are)

pub line_unended : (w : Text) (ws : List Text) → IsFigures w → AreFigures ws → list_any (λ b. b == 10) (w ++ spaced ws) ≡ false
line_unended w ws is are = none_of is_plain (λ b. b == 10) (λ b h. plain_other b 10 (λ l m. omega arith) (λ e. omega (arith, e)) h) (w ++ spaced ws) (line_plain w ws is are)

pub line_content : (w rest : Text) → IsFigures w → kind_of (w ++ rest) ≡ Content
line_content [] rest is = absurd (omega (arith, is.some))
line_content (b ∷ w) rest is =
    let part = and_parts (is_figure b) (list_all is_figure w) is.all in
    rw (figure_unblank b part.0, figure_other b 35 part.0 (λ l m. omega arith)) refl

-- ---- lines that are read in order

-- reading complete lines leads from one state to another
pub record Reads (here : ReaderEntry) (text : Text) (there : ReaderEntry) : Type 0 where
  pub lines : ℕ
  pub so : (k : ℕ) (rest : Text) → read_from k here (pieces_of LineFeed [] (text ++ rest)) ≡ read_from (k + lines) there (pieces_of LineFeed [] rest)

pub reads-nothing : (here : ReaderEntry) → Reads here [] here
reads-nothing here = record { lines = 0; so = λ k rest. ap (λ n. read_from n here (pieces_of LineFeed [] rest)) (omega arith) }

pub reads-then : (here : ReaderEntry) (text : Text) (there : ReaderEntry) (others : Text) (end : ReaderEntry) → Reads here text there → Reads there others end → Reads here (text ++ others) end
reads-then here text there others end first second = record {
  lines = first.lines + second.lines;
  so = λ k rest.
      let sum : k + first.lines + second.lines ≡ k + (first.lines + second.lines) = omega arith in
      ap (λ t. read_from k here (pieces_of LineFeed [] t)) (append_assoc text others rest) ∙
      (first.so k (others ++ rest) ∙ (second.so (k + first.lines) rest ∙ ap (λ n. read_from n end (pieces_of LineFeed [] rest)) sum));
}

pub reads-line : (here : ReaderEntry) (body : Text) (there : ReaderEntry) → list_any (λ b. b == 10) body ≡ false → with_line here body ≡ Ok there → Reads here (body ++ 10 ∷ []) there
reads-line here body there none read = record {
  lines = 1;
  so = λ k rest.
      ap (λ t. read_from k here (pieces_of LineFeed [] t)) (append_assoc body (10 ∷ []) rest)
      ∙ (ap (read_from k here) (cut_piece LineFeed [] body 10 rest none refl) ∙ rw read refl);
}
