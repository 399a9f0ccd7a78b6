-- What a first field names.
use Rattle.std.proofs.Common.{◌≡◌, ◌∙◌, ℕ, Bool, true, false, List, Option, refl, sym, ap}
use Rattle.std.specs.Prelude.{bytes_eq, codes, not}
use Rattle.std.specs.List.{after_first, before_first}
use Rattle.keyfile.specs.Headers.{is_space, named_in, numbers_in}

passes : (b : Bool) → false ≡ not b → b ≡ true
passes true is = refl
passes false is = cc

-- a field whose first word is `paper` names the batch and the clerk in the text after that word
pub names_numbers : (field word rest : List ℕ) (named : Option (ℕ × ℕ)) → word ≡ before_first is_space field → rest ≡ after_first is_space field
    → false ≡ not (bytes_eq word (codes "paper")) → named ≡ numbers_in rest → named ≡ named_in field
names_numbers field word rest named front back is numbers =
    let paper : bytes_eq (before_first is_space field) (codes "paper") ≡ true = ap (λ w. bytes_eq w (codes "paper")) (sym front) ∙ passes (bytes_eq word (codes "paper")) is in
    rw paper (numbers ∙ ap numbers_in back)
