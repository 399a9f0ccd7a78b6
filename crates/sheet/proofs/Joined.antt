-- The texts of the elements of a list, in order.
use Rattle.std.proofs.Common.{◌≡◌, ℕ, ◌+◌, ◌-◌, ◌<◌, List, [], ◌∷◌, ◌++◌, length, take, drop, get_or, map, refl, sym, ◌∙◌, ap, codes, replicate, arith}
use Rattle.std.specs.List.{flat_map}
use Rattle.std.proofs.lemmas.Grind.{flat_map-append}
use Rattle.std.proofs.lemmas.List.{append-nil, take_more, take-append-drop}
use Rattle.std.proofs.lemmas.List.Folds.{flat_map-map}
use Rattle.sheet.specs.Lines.{joined, line, right_in}

-- joined pieces are their texts in order
pub joined-map : {X : Type 0} (f : X → List ℕ) (xs : List X) → joined (map f xs) ≡ flat_map f xs
unfolding joined
joined-map f xs = flat_map-map (λ part. part) f xs

-- a line is its parts, followed by a newline
pub line_joined : (parts : List (List ℕ)) → line parts ≡ joined parts ++ codes "\n"
unfolding line joined
line_joined parts = refl

-- the texts with another element
pub flat_map-take_more : {X : Type 0} (f : X → List ℕ) (xs : List X) (i : ℕ) (d : X) → i < length xs →
    flat_map f (take (i + 1) xs) ≡ flat_map f (take i xs) ++ f (get_or xs i d)
flat_map-take_more f xs i d within =
    ap (flat_map f) (take_more xs i d within) ∙ flat_map-append f (take i xs) (get_or xs i d ∷ []) ∙ ap (λ text. flat_map f (take i xs) ++ text) (append-nil (f (get_or xs i d)))

-- the texts of the first elements and those of the rest make up all texts
pub flat_map-parted : {X : Type 0} (f : X → List ℕ) (xs : List X) (i : ℕ) → flat_map f (take i xs) ++ flat_map f (drop i xs) ≡ flat_map f xs
flat_map-parted f xs i = sym (flat_map-append f (take i xs) (drop i xs)) ∙ ap (flat_map f) (take-append-drop i xs)

-- right-aligned in 0 columns, a text is unchanged
pub right_in_none : (text : List ℕ) → right_in 0 text ≡ text
right_in_none text = let none : 0 - length text ≡ 0 = omega arith in ap (λ (n : ℕ). replicate n 32 ++ text) none
