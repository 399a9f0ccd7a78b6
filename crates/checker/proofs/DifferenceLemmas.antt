-- The lines of a text, byte by byte.
use Rattle.std.proofs.Common.{◌≡◌, ◌∙◌, ℕ, zero, suc, ◌+◌, ◌-◌, ◌<◌, ◌⊎◌, inl, inr, Bool, true, false, List, [], ◌∷◌, ◌++◌, length, get_or, take, drop, refl, sym, ap, subst, arith}
use Rattle.std.proofs.Common.{append_assoc, length-append}
use Rattle.std.specs.Prelude.{◌==◌}
use Rattle.std.specs.Str.{IsCharBoundary, IsUtf8}
use Rattle.std.proofs.lemmas.Bool.{eq-eqb, eqb-true, ne_eqb}
use Rattle.std.proofs.lemmas.List.{at_drop_more, drop_at, get_or_at, take_at}
use Rattle.std.proofs.lemmas.Str.{IsCharBoundary-after_ascii, IsUtf8-drop, IsUtf8-nil, IsUtf8-take}
use Rattle.checker.specs.Differences.{behind_lines, common, first_line}

-- another line is skipped
pub line_passed : (left : ℕ) (text : List ℕ) (i : ℕ) → (left ≡ 0 → ⊥) → i < length text → get_or text i 0 ≡ 10 → behind_lines left (drop i text) ≡ behind_lines (left - 1) (drop (i + 1) text)
line_passed zero text i some here is = absurd (some refl)
line_passed (suc left) text i some here is =
    let less : suc left - 1 ≡ left = omega arith in
    at_drop_more (behind_lines (suc left)) text i 0 here ∙ rw (eq-eqb _ _ is, less) refl

-- another byte of that line is skipped
pub byte_passed : (left : ℕ) (text : List ℕ) (i : ℕ) → (left ≡ 0 → ⊥) → i < length text → (get_or text i 0 ≡ 10 → ⊥) → behind_lines left (drop i text) ≡ behind_lines left (drop (i + 1) text)
byte_passed zero text i some here other = absurd (some refl)
byte_passed (suc left) text i some here other = at_drop_more (behind_lines (suc left)) text i 0 here ∙ rw (ne_eqb _ _ other) refl

-- nothing follows the end
pub none_behind : (left : ℕ) → behind_lines left [] ≡ []
none_behind zero = refl
none_behind (suc left) = refl

-- an empty text has nothing in common with any text
pub none_common : (text : List ℕ) → common text [] ≡ []
none_common [] = refl
none_common (a ∷ text) = refl

-- ---- the lines of a text are UTF-8

-- a text with a terminated line
record Ended (text : List ℕ) : Type 0 where
  front : List ℕ
  rest : List ℕ
  is : text ≡ front ++ 10 ∷ rest
  first : first_line text ≡ front ++ 10 ∷ []
  behind : (n : ℕ) → behind_lines (suc n) text ≡ behind_lines n rest

-- a text without a terminated line
record Unended (text : List ℕ) : Type 0 where
  first : first_line text ≡ text
  behind : (n : ℕ) → behind_lines (suc n) text ≡ []

ended_or : (text : List ℕ) → Ended text ⊎ Unended text
ended_or [] = inr (record { first = refl; behind = λ n. refl })
ended_or (b ∷ text) = by (b == 10) refl (ended_or text)
  where
    later : (b == 10) ≡ false → Ended text ⊎ Unended text → Ended (b ∷ text) ⊎ Unended (b ∷ text)
    later e (inl line) = inl (record { front = b ∷ line.front; rest = line.rest; is = ap (λ t. b ∷ t) line.is; first = rw e (ap (λ t. b ∷ t) line.first); behind = λ n. rw e (line.behind n) })
    later e (inr none) = inr (record { first = rw e (ap (λ t. b ∷ t) none.first); behind = λ n. rw e (none.behind n) })

    by : (c : Bool) → (b == 10) ≡ c → Ended text ⊎ Unended text → Ended (b ∷ text) ⊎ Unended (b ∷ text)
    by true e rest = inl (record { front = []; rest = text; is = ap (λ n. n ∷ text) (eqb-true b 10 e); first = rw e (ap (λ n. n ∷ []) (eqb-true b 10 e)); behind = λ n. rw e refl })
    by false e rest = later e rest

boundary : (front rest : List ℕ) → IsUtf8 (front ++ 10 ∷ rest) → IsCharBoundary (front ++ 10 ∷ rest) (length front + 1)
boundary front rest utf8 =
    IsCharBoundary-after_ascii (front ++ 10 ∷ rest) (length front) utf8 (omega (arith, length-append front (10 ∷ rest))) (omega (arith, get_or_at front 10 rest 0 (length front) refl))

front_text : (front rest : List ℕ) → IsUtf8 (front ++ 10 ∷ rest) → IsUtf8 (front ++ 10 ∷ [])
front_text front rest utf8 =
    let bs = front ++ 10 ∷ rest in
    let is : take (length front + 1) bs ≡ front ++ 10 ∷ [] =
    ap (take (length front + 1)) (sym (append_assoc front (10 ∷ []) rest)) ∙ take_at (front ++ 10 ∷ []) rest (length front + 1) (length-append front (10 ∷ [])) in
    subst IsUtf8 is (IsUtf8-take bs (length front + 1) utf8 (boundary front rest utf8))

rest_text : (front rest : List ℕ) → IsUtf8 (front ++ 10 ∷ rest) → IsUtf8 rest
rest_text front rest utf8 =
    let bs = front ++ 10 ∷ rest in
    let is : drop (length front + 1) bs ≡ rest =
    ap (drop (length front + 1)) (sym (append_assoc front (10 ∷ []) rest)) ∙ drop_at (front ++ 10 ∷ []) rest (length front + 1) (length-append front (10 ∷ [])) in
    subst IsUtf8 is (IsUtf8-drop bs (length front + 1) utf8 (boundary front rest utf8))

behind_text : (n : ℕ) (text : List ℕ) → IsUtf8 text → IsUtf8 (behind_lines n text)
behind_text zero text utf8 = utf8
behind_text (suc n) text utf8 = by (ended_or text) (behind_text n)
  where
    by : Ended text ⊎ Unended text → ((others : List ℕ) → IsUtf8 others → IsUtf8 (behind_lines n others)) → IsUtf8 (behind_lines (suc n) text)
    by (inl line) next = subst IsUtf8 (sym (line.behind n)) (next line.rest (rest_text line.front line.rest (subst IsUtf8 line.is utf8)))
    by (inr none) next = subst IsUtf8 (sym (none.behind n)) IsUtf8-nil

first_text : (text : List ℕ) → IsUtf8 text → IsUtf8 (first_line text)
first_text text utf8 = by (ended_or text)
  where
    by : Ended text ⊎ Unended text → IsUtf8 (first_line text)
    by (inl line) = subst IsUtf8 (sym line.first) (front_text line.front line.rest (subst IsUtf8 line.is utf8))
    by (inr none) = subst IsUtf8 (sym none.first) utf8

-- a line of a text is UTF-8
pub line_text : (n : ℕ) (text : List ℕ) → IsUtf8 text → IsUtf8 (first_line (behind_lines n text))
line_text n text utf8 = first_text (behind_lines n text) (behind_text n text utf8)
