-- The text after a prefix is what the library returns when it strips the prefix.
use Rattle.std.proofs.Common.{◌≡◌, ◌∙◌, ℕ, Bool, List, Option, Some, None, true, false, drop, length, ap, refl}
use Rattle.std.specs.Prelude.{MatchOption, nat_eq}
use Rattle.std.specs.List.{starts_with}
use Rattle.std.specs.Str.Pattern.{FindsTextPrefix, StripsPrefix}
use Rattle.std.proofs.lemmas.Bool.Decides.{Decides-eqb}
use Rattle.std.proofs.lemmas.Slice.Eq.{starts_is}
use Rattle.desk.specs.Verdicts.{behind}

pub stripped_is_behind : (front t : List ℕ) (r : Option (List ℕ)) → MatchOption r (FindsTextPrefix front t None) (StripsPrefix (FindsTextPrefix front) t) → r ≡ behind front t
stripped_is_behind front t None lacks = by (starts_with nat_eq t front) refl
  where
    by : (b : Bool) → starts_with nat_eq t front ≡ b → None ≡ behind front t
    by false e = rw e refl
    by true e = absurd (lacks (drop (length front) t) ((starts_is Decides-eqb t front _ refl).0 e))
stripped_is_behind front t (Some rest) strips =
    let begins : starts_with nat_eq t front ≡ true = (starts_is Decides-eqb t front _ refl).1 (drop strips.0 t) strips.1.1 in
    rw begins (ap Some (strips.2 ∙ ap (λ n. drop n t) strips.1.0))
