-- What the parameters of a route match in a path, and the form of a path that matches a pattern.
use Rattle.std.proofs.Common.{◌≡◌, ◌∙◌, ◌-◌, ◌+◌, ◌<◌, ◌≤◌, ◌==◌, ◌&&◌, suc, ℕ, Bool, true, false, List, [], ◌∷◌}
use Rattle.std.proofs.Common.{◌++◌, Some, None, append_assoc, drop, inl, inr, leb, length, ltb, not, refl, sym, ap, arith}
use Rattle.std.specs.Prelude.{if◌then◌else◌, nat_le}
use Rattle.std.specs.Char.{is_ascii, is_ascii_digit}
use Rattle.std.specs.List.{list_all}
use Rattle.std.proofs.lemmas.Bool.{and_parts, le-leb, lt-ltb, ltb-true}
use Rattle.std.proofs.lemmas.Bool.Decides.{nat_tests}
use Rattle.std.proofs.lemmas.List.{length-append}
use Rattle.std.proofs.Math.Seq.{drop-append_seam, take-append_seam}
use Rattle.std.specs.Str.Parse.{digits_value}
use Rattle.matchit.specs.Params.{after_token, part_of, walk, wild_from, wild_stop}
use Rattle.matchit.specs.Rows.{param_token}
use Rattle.matchit.specs.Seek.{segment}
use Rattle.wire.proofs.RowLemmas.{BeginsByPart, Fits, HasNoSlash, segment-part}
use Rattle.wire.specs.Numbers.{is_number, most_digits, number_in}
use Rattle.wire.specs.Targets.{Taken}

-- ---- what a parameter matches

-- a position in a pattern, and a position in a path
abbrev place_at : ℕ → ℕ → ℕ × ℕ
place_at token at = (token, at)

same-place : (a b c d : ℕ) → a ≡ c → b ≡ d → place_at a b ≡ place_at c d
same-place a b c d one two = ap (λ x. place_at x b) one ∙ ap (λ y. place_at c y) two

-- a name and its value, prepended to others
abbrev pub with_taken : List ℕ → List ℕ → Taken → Taken
with_taken name part others = (name, part) ∷ others

-- the bytes of a route before its parameter are skipped
wild-word : (word t : List ℕ) (len token at : ℕ) → list_all (λ x. ltb x param_token) word ≡ true → at + length word ≤ len
    → wild_from (word ++ (param_token ∷ t)) len token at ≡ place_at (token + length word) (at + length word)
wild-word [] t len token at bytes fits = same-place token at (token + 0) (at + 0) (omega arith) (omega arith)
wild-word (x ∷ word) t len token at bytes fits =
    let parts = and_parts (ltb x param_token) (list_all (λ x. ltb x param_token) word) bytes in
    let there : ltb at len ≡ true = lt-ltb at len (omega arith) in
    rw (parts.0, there) (wild-word word t len (token + 1) (at + 1) parts.1 (omega arith) ∙ same-place (token + 1 + length word) (at + 1 + length word)
    (token + suc (length word)) (at + suc (length word)) (omega arith) (omega arith))

-- the bytes between two others
part-between : (path before part rest : List ℕ) → path ≡ before ++ (part ++ rest) → part_of path (length before) (length before + length part) ≡ part
part-between path before part rest is =
    let long : length path ≡ length before + (length part + length rest) = ap length is ∙ length-append before (part ++ rest) ∙ ap (λ n. length before + n) (length-append part rest) in
    let low : leb (length before) (length before + length part) ≡ true = le-leb (length before) (length before + length part) (omega arith) in
    let high : leb (length before + length part) (length path) ≡ true = le-leb (length before + length part) (length path) (omega (arith, long)) in
    let count : length before + length part - length before ≡ length part = omega arith in
    let there : drop (length before) path ≡ part ++ rest = ap (drop (length before)) is ∙ drop-append_seam before (part ++ rest) in
    rw (low, high, count, there) (take-append_seam part rest)

-- a parameter after literal bytes matches the text up to the next slash
pub walk-part : (pattern text path : List ℕ) (name : ℕ × ℕ) (names : List (ℕ × ℕ)) (word t before part rest : List ℕ) (token at : ℕ) → at ≡ length before
    → drop token pattern ≡ word ++ (param_token ∷ t) → list_all (λ x. ltb x param_token) word ≡ true → path ≡ before ++ (word ++ (part ++ (47 ∷ rest))) → HasNoSlash part
    → ((from : ℕ) → wild_stop pattern (token + length word) path from ≡ from + length (segment (drop from path)) - 1)
    → walk pattern text path (name ∷ names) token at ≡ with_taken (part_of text name.0 name.1) part
    (walk pattern text path names (after_token (token + length word)) (length (before ++ word) + length part))
walk-part pattern text path name names word t before part rest token at place_is pattern_is bytes is whole stops =
    let from = length (before ++ word) in
    let parts : path ≡ (before ++ word) ++ (part ++ (47 ∷ rest)) = is ∙ sym (append_assoc before word (part ++ (47 ∷ rest))) in
    let from_is : at + length word ≡ from = ap (λ n. n + length word) place_is ∙ sym (length-append before word) in
    let long : length path ≡ from + length (part ++ (47 ∷ rest)) = ap length parts ∙ length-append (before ++ word) (part ++ (47 ∷ rest)) in
    let wild : wild_from (drop token pattern) (length path) token at ≡ place_at (token + length word) from =
    ap (λ p. wild_from p (length path) token at) pattern_is ∙ wild-word word t (length path) token at bytes (omega arith) ∙ ap (place_at (token + length word)) from_is in
    let behind : drop from path ≡ part ++ (47 ∷ rest) = ap (drop from) parts ∙ drop-append_seam (before ++ word) (part ++ (47 ∷ rest)) in
    let segment_is : length (segment (drop from path)) ≡ length part + 1 = ap (λ p. length (segment p)) behind ∙ ap length (segment-part part rest whole) ∙ length-append part (47 ∷ []) in
    let stop : wild_stop pattern (token + length word) path from ≡ from + length part = stops from ∙ omega arith in
    ap (λ (w : ℕ × ℕ). with_taken (part_of text name.0 name.1) (part_of path w.1 (wild_stop pattern w.0 path w.1))
    (walk pattern text path names (after_token w.0) (wild_stop pattern w.0 path w.1))) wild
    ∙ ap (λ s. with_taken (part_of text name.0 name.1) (part_of path from s) (walk pattern text path names (after_token (token + length word)) s)) stop
    ∙ ap (λ p. with_taken (part_of text name.0 name.1) p (walk pattern text path names (after_token (token + length word)) (from + length part)))
    (part-between path (before ++ word) part (47 ∷ rest) parts)

-- the value that the only parameter of a route has
pub one-taken : (word rest text path part : List ℕ) (name : ℕ × ℕ) → list_all (λ x. ltb x param_token) word ≡ true → path ≡ word ++ (part ++ (47 ∷ rest)) → HasNoSlash part
    → ((from : ℕ) → wild_stop (word ++ (param_token ∷ (47 ∷ rest))) (length word) path from ≡ from + length (segment (drop from path)) - 1)
    → walk (word ++ (param_token ∷ (47 ∷ rest))) text path (name ∷ []) 0 0 ≡ with_taken (part_of text name.0 name.1) part []
one-taken word rest text path part name bytes is whole stops =
    let none : 0 + length word ≡ length word = omega arith in
    walk-part (word ++ (param_token ∷ (47 ∷ rest))) text path name [] word (47 ∷ rest) [] part rest 0 0 refl refl bytes is whole
    (λ from. ap (λ n. wild_stop (word ++ (param_token ∷ (47 ∷ rest))) n path from) none ∙ stops from)

-- ---- numbers contain no slash

digit-part : (part : List ℕ) → list_all is_ascii_digit part ≡ true → HasNoSlash part × (list_all is_ascii part ≡ true)
digit-part [] digits = (tt, refl)
digit-part (d ∷ ds) digits =
    let parts = and_parts (is_ascii_digit d) (list_all is_ascii_digit ds) digits in
    let own : is_ascii_digit d ≡ true = parts.0 in
    let not_slash : (d == 47) ≡ false = grind (arith, nat_tests) in
    let low : is_ascii d ≡ true = grind (arith, nat_tests) in
    let later = digit-part ds parts.1 in
    ((not_slash, later.0), rw low later.1)

-- a part of a path that denotes a number
pub record IsNumeric (part : List ℕ) : Type 0 where
  pub some : 0 < length part
  pub whole : HasNoSlash part
  pub low : list_all is_ascii part ≡ true
  pub below : (d : ℕ) (ds : List ℕ) → part ≡ d ∷ ds → d < 256

first-low : (part : List ℕ) → list_all is_ascii part ≡ true → (d : ℕ) (ds : List ℕ) → part ≡ d ∷ ds → d < 256
first-low [] low d ds is = let no : ⊥ = cc in absurd no
first-low (x ∷ part) low d ds is =
    let same : x ≡ d = cc in
    let own = (and_parts (is_ascii x) (list_all is_ascii part) low).0 in
    let few : x < 128 = ltb-true x 128 own in
    omega arith

pub chosen-true : (b : Bool) (n m : ℕ) → (if b then Some n else None) ≡ Some m → b ≡ true
chosen-true true n m is = refl
chosen-true false n m is = let no : ⊥ = cc in absurd no

pub numeric : (part : List ℕ) (n : ℕ) → number_in part ≡ Some n → IsNumeric part
numeric [] n is = let no : ⊥ = cc in absurd no
numeric (b ∷ bs) n is =
    let test = chosen-true (is_number (b ∷ bs)) (digits_value 10 (b ∷ bs)) n is in
    let all = and_parts (not (b == 48)) (nat_le (length (b ∷ bs)) most_digits && list_all is_ascii_digit (b ∷ bs)) test in
    let digits = (and_parts (nat_le (length (b ∷ bs)) most_digits) (list_all is_ascii_digit (b ∷ bs)) all.1).1 in
    let parts = digit-part (b ∷ bs) digits in
    record { some = omega arith; whole = parts.0; low = parts.1; below = first-low (b ∷ bs) parts.1 }

-- ---- the form of a path that matches a pattern

-- what follows the literal bytes of a pattern
behind-word : (word t path : List ℕ) → list_all (λ x. ltb x param_token) word ≡ true → Fits (word ++ t) path → (rest : List ℕ) × (path ≡ word ++ rest) × Fits t rest
behind-word [] t path bytes fits = (path, refl, fits)
behind-word (x ∷ word) t path bytes (inl begins) =
    let parts = and_parts (ltb x param_token) (list_all (λ x. ltb x param_token) word) bytes in
    let later = behind-word word t begins.rest parts.1 begins.goes_on in
    (later.0, begins.is ∙ ap (λ p. x ∷ p) later.1, later.2)
behind-word (x ∷ word) t path bytes (inr (inl (param, begins))) =
    let parts = and_parts (ltb x param_token) (list_all (λ x. ltb x param_token) word) bytes in
    let few : x < 256 = ltb-true x 256 parts.0 in
    absurd (omega arith)
behind-word (x ∷ word) t path bytes (inr (inr catch)) =
    let parts = and_parts (ltb x param_token) (list_all (λ x. ltb x param_token) word) bytes in
    let few : x < 256 = ltb-true x 256 parts.0 in
    absurd (omega arith)

-- what a parameter of a pattern matches; no byte of a path is a token, but a parameter may match a byte that would be one
behind-param : (t path : List ℕ) → Fits (param_token ∷ t) path → BeginsByPart path (Fits t)
behind-param t path (inl begins) = record { part = param_token ∷ []; rest = begins.rest; whole = (refl, tt); is = begins.is; goes_on = begins.goes_on }
behind-param t path (inr (inl (param, begins))) = begins
behind-param t path (inr (inr catch)) = absurd (omega arith)

-- what follows the whole pattern
behind-all : (word path : List ℕ) → list_all (λ x. ltb x param_token) word ≡ true → Fits word path → path ≡ word
behind-all [] path bytes fits = fits
behind-all (x ∷ word) path bytes (inl begins) =
    let parts = and_parts (ltb x param_token) (list_all (λ x. ltb x param_token) word) bytes in
    begins.is ∙ ap (λ p. x ∷ p) (behind-all word begins.rest parts.1 begins.goes_on)
behind-all (x ∷ word) path bytes (inr (inl (param, begins))) =
    let parts = and_parts (ltb x param_token) (list_all (λ x. ltb x param_token) word) bytes in
    let few : x < 256 = ltb-true x 256 parts.0 in
    absurd (omega arith)
behind-all (x ∷ word) path bytes (inr (inr catch)) =
    let parts = and_parts (ltb x param_token) (list_all (λ x. ltb x param_token) word) bytes in
    let few : x < 256 = ltb-true x 256 parts.0 in
    absurd (omega arith)

-- a path with one parameter
pub record HasOnePart (word end path : List ℕ) : Type 0 where
  pub part : List ℕ
  pub whole : HasNoSlash part
  pub is : path ≡ word ++ (part ++ end)

pub one-part : (word end path : List ℕ) → list_all (λ x. ltb x param_token) word ≡ true → list_all (λ x. ltb x param_token) end ≡ true → Fits (word ++ (param_token ∷ end)) path
    → HasOnePart word end path
one-part word end path bytes ends fits =
    let first_word = behind-word word (param_token ∷ end) path bytes fits in
    let param = behind-param end first_word.0 first_word.2 in
    let last = behind-all end param.rest ends param.goes_on in
    record { part = param.part; whole = param.whole; is = first_word.1 ∙ ap (λ r. word ++ r) (param.is ∙ ap (λ e. param.part ++ e) last) }

-- a path with two parameters
pub record HasTwoParts (word middle end path : List ℕ) : Type 0 where
  pub one : List ℕ
  pub two : List ℕ
  pub one_whole : HasNoSlash one
  pub two_whole : HasNoSlash two
  pub is : path ≡ word ++ (one ++ (middle ++ (two ++ end)))

pub two-parts : (word middle end path : List ℕ) → list_all (λ x. ltb x param_token) word ≡ true → list_all (λ x. ltb x param_token) middle ≡ true
    → list_all (λ x. ltb x param_token) end ≡ true → Fits (word ++ (param_token ∷ (middle ++ (param_token ∷ end)))) path → HasTwoParts word middle end path
two-parts word middle end path bytes middles ends fits =
    let first_word = behind-word word (param_token ∷ (middle ++ (param_token ∷ end))) path bytes fits in
    let param = behind-param (middle ++ (param_token ∷ end)) first_word.0 first_word.2 in
    let later = one-part middle end param.rest middles ends param.goes_on in
    record {
      one = param.part;
      two = later.part;
      one_whole = param.whole;
      two_whole = later.whole;
      is = first_word.1 ∙ ap (λ r. word ++ r) (param.is ∙ ap (λ r. param.part ++ r) later.is);
    }
