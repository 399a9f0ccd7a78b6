-- The pieces of a text, byte by byte.
use Rattle.std.proofs.Common.{◌≡◌, ◌∙◌, ℕ, ◌+◌, ◌-◌, ◌<◌, ◌≤◌, false, List, [], ◌∷◌, ◌++◌, length, get_or, take, drop, refl, sym, ap, arith}
use Rattle.std.proofs.lemmas.List.{get_or-drop, length-drop, take_all, take_more, at_drop_all, at_drop_more}
use Rattle.checker.specs.Tokens.{parts, pieces_of}
use Rattle.checker.specs.declared.tokens.Separator.{Separator}
use Rattle.checker.specs.declared.tokens.Separator.TheVariants.{LineFeed}

-- another byte of the current piece
pub piece_more : (text : List ℕ) (start i : ℕ) → start ≤ i → i < length text → take (i + 1 - start) (drop start text) ≡ take (i - start) (drop start text) ++ get_or text i 0 ∷ []
piece_more text start i within here =
    let more : i + 1 - start ≡ i - start + 1 = omega arith in
    let inside : i - start < length (drop start text) = omega (arith, length-drop start text) in
    let at : start + (i - start) ≡ i = omega arith in
    ap (λ n. take n (drop start text)) more ∙ (take_more (drop start text) (i - start) 0 inside ∙ ap (λ x. take (i - start) (drop start text) ++ x ∷ [])
    (get_or-drop start text (i - start) 0 ∙ ap (λ j. get_or text j 0) at))

-- a byte that isn't a separator belongs to the current piece
pub goes_on : (s : Separator) (text : List ℕ) (start i : ℕ) → start ≤ i → i < length text → parts s (get_or text i 0) ≡ false
    → pieces_of s (take (i - start) (drop start text)) (drop i text) ≡ pieces_of s (take (i + 1 - start) (drop start text)) (drop (i + 1) text)
goes_on s text start i within here other =
    at_drop_more (pieces_of s (take (i - start) (drop start text))) text i 0 here ∙ rw (other, piece_more text start i within here) refl

-- a line feed ends the current line
pub line_ends : (text : List ℕ) (start i : ℕ) → i < length text → get_or text i 0 ≡ 10
    → pieces_of LineFeed (take (i - start) (drop start text)) (drop i text) ≡ take (i - start) (drop start text) ∷ pieces_of LineFeed [] (drop (i + 1) text)
line_ends text start i here is = at_drop_more (pieces_of LineFeed (take (i - start) (drop start text))) text i 0 here ∙ rw is refl

-- the text ends the last line
pub last_line : (text : List ℕ) (start i : ℕ) → length text ≤ i
    → pieces_of LineFeed (take (i - start) (drop start text)) (drop i text) ≡ take (length text - start) (drop start text) ∷ []
last_line text start i past =
    let all : length (drop start text) ≤ i - start = omega (arith, length-drop start text, past) in
    let own : length (drop start text) ≤ length text - start = omega (arith, length-drop start text) in
    at_drop_all (pieces_of LineFeed (take (i - start) (drop start text))) text i past
    ∙ ap (λ (line : List ℕ). line ∷ []) (take_all (i - start) (drop start text) all ∙ sym (take_all (length text - start) (drop start text) own))
