-- The steps of a script's lines.
use Rattle.std.proofs.Common.{◌≡◌, ◌∙◌, ◌<◌, ◌+◌, ℕ, length, get_or, map, take, drop, subst, Bool, true, false, List, [], ◌∷◌, ◌++◌, Result, Ok, Err, inl, inr, refl, sym, ap}
use Rattle.std.specs.Prelude.{◌==◌, IsUtf8, if◌then◌else◌, is_ok, is_err}
use Rattle.std.specs.List.{list_all, list_any}
use Rattle.std.proofs.lemmas.List.{map-append, take-append-drop, take_more}
use Rattle.std.proofs.lemmas.List.Folds.{list_all_at, list_all-append, list_all-map}
use Rattle.std.proofs.lemmas.Str.{IsUtf8-from_is_utf8, is_utf8-from_IsUtf8}
use Rattle.std.specs.Borrow.{Bor}
use Rattle.std.specs.Str.{is_utf8}
use Rattle.clap.specs.Words.{Kinds, Text}
use Rattle.desk.specs.Words.{status_of_kind}
use Rattle.desk.specs.Scripts.{AreTurns, IsFirstFlaw, IsFlawOf, IsStep, Typed}
use Rattle.desk.specs.declared.scripts.LineFlaw.{LineFlaw}
use Rattle.desk.specs.declared.scripts.ScriptFault.{ScriptFault}
use Rattle.desk.specs.declared.scripts.ScriptFault.TheVariants as script
use Rattle.desk.specs.declared.scripts.ScriptStep.{ScriptStep}
use Rattle.desk.specs.Lexing.{IsFaultOfLine, IsFaultOfLines}
use Rattle.desk.proofs.CourseLemmas.{next_left}

-- another line is a step
pub turns_more : (lines : List Typed) (turns : List ScriptStep) (line : Typed) (turn : ScriptStep) → AreTurns lines turns → IsStep line turn → AreTurns (lines ++ line ∷ []) (turns ++ turn ∷ [])
turns_more [] turns line turn none is = (turn, [], ap (λ ts. ts ++ turn ∷ []) none, is, refl)
turns_more (l ∷ ls) turns line turn are is = (are.0, are.1 ++ turn ∷ [], ap (λ ts. ts ++ turn ∷ []) are.2, are.3, turns_more ls are.1 line turn are.4 is)

-- what is wrong with a line that follows lines that are steps
pub flaw_behind : (lines : List Typed) (turns : List ScriptStep) (line : Typed) (left : List Typed) (number : ℕ) (flaw : LineFlaw) → AreTurns lines turns
    → line.number ≡ number → IsFlawOf line.words flaw
    → IsFirstFlaw (lines ++ line ∷ left) number flaw
flaw_behind [] turns line left number flaw none here is = inl (here, is)
flaw_behind (l ∷ ls) turns line left number flaw are here is = inr (are.0, are.3, flaw_behind ls are.1 line left number flaw are.4 here is)

-- ---- words that are UTF-8

module _ {X : Type 0} (f : X → List ℕ) where
  one_more : (xs : List X) (i : ℕ) (x : X) → i < length xs → x ≡ get_or xs i x → map f (take (i + 1) xs) ≡ map f (take i xs) ++ f x ∷ []
  one_more xs i x within is = ap (map f) (take_more xs i x within) ∙ (map-append f (take i xs) (get_or xs i x ∷ []) ∙ ap (λ y. map f (take i xs) ++ f y ∷ []) (sym is))

  -- another word is UTF-8
  pub words_more : (first : Text) (xs : List X) (i : ℕ) (x : X) (texts new : List (Bor Text)) (text : Bor Text) → i < length xs → x ≡ get_or xs i x → new ≡ texts ++ text ∷ [] → text.now ≡ f x
      → map (λ t. t.now) texts ≡ first ∷ map f (take i xs) → map (λ t. t.now) new ≡ first ∷ map f (take (i + 1) xs)
  words_more first xs i x texts new text within is more same so =
      ap (map (λ (t : Bor Text). t.now)) more ∙ (map-append (λ (t : Bor Text). t.now) texts (text ∷ []) ∙
      (ap (λ l. l ++ text.now ∷ []) so ∙ (ap (λ t. first ∷ (map f (take i xs) ++ t ∷ [])) same ∙ ap (λ l. first ∷ l) (sym (one_more xs i x within is)))))

  pub text_more : (xs : List X) (i : ℕ) (x : X) → i < length xs → x ≡ get_or xs i x → IsUtf8 (f x) → list_all is_utf8 (map f (take i xs)) ≡ true → list_all is_utf8 (map f (take (i + 1) xs)) ≡ true
  text_more xs i x within is text so =
      ap (list_all is_utf8) (one_more xs i x within is) ∙ (list_all-append is_utf8 (map f (take i xs)) (f x ∷ []) ∙ rw (so, is_utf8-from_IsUtf8 (f x) text) refl)

  -- a word isn't UTF-8
  pub not_text : (xs : List X) (i : ℕ) (x : X) → i < length xs → x ≡ get_or xs i x → ¬ (IsUtf8 (f x)) → list_all is_utf8 (map f xs) ≡ false
  not_text xs i x within is other = list_all-map is_utf8 f xs ∙ list_all_at (λ y. is_utf8 (f y)) xs i x within (ap (λ y. is_utf8 (f y)) (sym is) ∙ by (is_utf8 (f x)) refl)
    where
      by : (b : Bool) → is_utf8 (f x) ≡ b → is_utf8 (f x) ≡ false
      by false e = e
      by true e = absurd (other (IsUtf8-from_is_utf8 (f x) e))

-- ---- the lines read so far

module _ {X : Type 0} (f : X → Typed) where
  line_more : (xs : List X) (i : ℕ) (x : X) → i < length xs → x ≡ get_or xs i x → map f (take (i + 1) xs) ≡ map f (take i xs) ++ f x ∷ []
  line_more xs i x within is = ap (map f) (take_more xs i x within) ∙ (map-append f (take i xs) (get_or xs i x ∷ []) ∙ ap (λ y. map f (take i xs) ++ f y ∷ []) (sym is))

  -- another of the lines is a step
  pub turns_so : (xs : List X) (i : ℕ) (x : X) (turns new : List ScriptStep) (turn : ScriptStep) → i < length xs → x ≡ get_or xs i x → AreTurns (map f (take i xs)) turns → IsStep (f x) turn
      → new ≡ turns ++ turn ∷ []
      → AreTurns (map f (take (i + 1) xs)) new
  turns_so xs i x turns new turn within is so one more =
      rw more (subst (λ ls. AreTurns ls (turns ++ turn ∷ [])) (sym (line_more xs i x within is)) (turns_more (map f (take i xs)) turns (f x) turn so one))

  -- what is wrong with the line after those read so far
  pub fault_behind : (xs : List X) (i : ℕ) (x : X) (turns : List ScriptStep) (fault : ScriptFault) → i < length xs → x ≡ get_or xs i x → AreTurns (map f (take i xs)) turns
      → IsFaultOfLine (f x) fault → IsFaultOfLines (map f xs) fault
  fault_behind xs i x turns script.Memory within is so wrong = tt
  fault_behind xs i x turns (script.ScriptLine number flaw) within is so wrong =
      let left : map f xs ≡ map f (take i xs) ++ f x ∷ map f (drop (i + 1) xs) =
      ap (map f) (sym (take-append-drop i xs)) ∙ (map-append f (take i xs) (drop i xs) ∙ ap (λ ls. map f (take i xs) ++ map f ls) (next_left xs i x within is)) in
      subst (λ ls. IsFirstFlaw ls number flaw) (sym left) (flaw_behind (map f (take i xs)) turns (f x) (map f (drop (i + 1) xs)) number flaw so wrong.0 wrong.1)

-- ---- what `clap` reports about words

pub told_help : (kinds : Kinds) (status : ℕ) → status ≡ 0 → list_any (λ kind. status_of_kind kind == status) kinds ≡ true → list_any (λ kind. status_of_kind kind == 0) kinds ≡ true
told_help kinds status zero told = subst (λ n. list_any (λ kind. status_of_kind kind == n) kinds ≡ true) zero told

-- ---- a push that didn't fail

pub pushed : {X : Type 0} {R E : Type 0} (r : Result R E) (new all old : List X) → is_err r ≡ false → new ≡ (if is_ok r then all else old) → new ≡ all
pushed (Ok x) new all old fine is = is
pushed (Err e) new all old fine is = absurd (cc fine)
