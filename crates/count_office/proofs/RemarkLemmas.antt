-- What follows given words on a line of a text.
use Rattle.std.proofs.Common.{◌≡◌, ◌∙◌, ◌<◌, ◌+◌, ℕ, Bool, List, Option, Some, None, true, false, drop, get_or, length, ap, refl, sym}
use Rattle.std.specs.Prelude.{MatchOption, nat_eq}
use Rattle.std.specs.List.{starts_with}
use Rattle.std.specs.Str.Pattern.{FindsTextPrefix, StripsPrefix}
use Rattle.std.proofs.lemmas.Bool.Decides.{Decides-eqb}
use Rattle.std.proofs.lemmas.List.{at_drop_more}
use Rattle.std.proofs.lemmas.Slice.Eq.{starts_is}
use Rattle.desk.specs.Verdicts.{behind}
use Rattle.count_office.specs.Remarks.{after_words_in, or_else}

-- the text after a prefix is what the library returns when it strips the prefix
pub stripped_is_behind : (front t : List ℕ) (r : Option (List ℕ)) → MatchOption r (FindsTextPrefix front t None) (StripsPrefix (FindsTextPrefix front) t) → r ≡ behind front t
stripped_is_behind front t None lacks = by (starts_with nat_eq t front) refl
  where
    by : (b : Bool) → starts_with nat_eq t front ≡ b → None ≡ behind front t
    by false e = rw e refl
    by true e = absurd (lacks (drop (length front) t) ((starts_is Decides-eqb t front _ refl).0 e))
stripped_is_behind front t (Some rest) strips =
    let begins : starts_with nat_eq t front ≡ true = (starts_is Decides-eqb t front _ refl).1 (drop strips.0 t) strips.1.1 in
    rw begins (ap Some (strips.2 ∙ ap (λ n. drop n t) strips.1.0))

-- the next line decides, unless it doesn't begin with the words
pub next_line : (words : List ℕ) (all : List (List ℕ)) (n : ℕ) (line : List ℕ) → (n < length all) × (line ≡ get_or all n line)
    → after_words_in words (drop n all) ≡ or_else (behind words line) (after_words_in words (drop (n + 1) all))
next_line words all n line turn =
    at_drop_more (after_words_in words) all n line turn.0 ∙ ap (λ l. or_else (behind words l) (after_words_in words (drop (n + 1) all))) (sym turn.1)

pub this_line : (words : List ℕ) (all : List (List ℕ)) (n : ℕ) (line rest : List ℕ) → (n < length all) × (line ≡ get_or all n line)
    → behind words line ≡ Some rest → after_words_in words (drop n all) ≡ Some rest
this_line words all n line rest turn begins =
    next_line words all n line turn ∙ ap (λ o. or_else o (after_words_in words (drop (n + 1) all))) begins

pub later_line : (words : List ℕ) (all : List (List ℕ)) (n : ℕ) (line : List ℕ) → (n < length all) × (line ≡ get_or all n line)
    → behind words line ≡ None → after_words_in words (drop n all) ≡ after_words_in words (drop (n + 1) all)
later_line words all n line turn lacks =
    next_line words all n line turn ∙ ap (λ o. or_else o (after_words_in words (drop (n + 1) all))) lacks
