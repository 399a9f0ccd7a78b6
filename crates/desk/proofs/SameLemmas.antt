-- Comparing the texts of two lists.
use Rattle.std.proofs.Common.{◌≡◌, ◌∙◌, ◌<◌, ◌+◌, ◌++◌, ◌∷◌, [], ℕ, Bool, true, false, not, List, get_or, length, map, take, refl, sym, ap, ap₂, arith, zero, suc}
use Rattle.std.specs.Str.{bytes_eq}
use Rattle.std.proofs.lemmas.List.{length-map, map-append, take_more}
use Rattle.std.proofs.lemmas.Slice.Eq.{bytes_eq-Decides}

-- one more element looks the same
pub texts_more : {X Y : Type 0} (f : X → Y) (xs ys : List X) (i : ℕ) (x y : X) → i < length xs → i < length ys → x ≡ get_or xs i x → y ≡ get_or ys i y → f x ≡ f y
    → map f (take i xs) ≡ map f (take i ys) → map f (take (i + 1) xs) ≡ map f (take (i + 1) ys)
texts_more {X} {Y} f xs ys i x y within also is is_too same before =
    ap (map f) (take_more xs i x within ∙ ap (λ (z : X). take i xs ++ z ∷ []) (sym is)) ∙ map-append f (take i xs) (x ∷ [])
    ∙ ap₂ (λ (zs : List Y) (z : Y). zs ++ z ∷ []) before same
    ∙ sym (ap (map f) (take_more ys i y also ∙ ap (λ (z : X). take i ys ++ z ∷ []) (sym is_too)) ∙ map-append f (take i ys) (y ∷ []))

-- texts that don't differ are the same
pub not_other : (text other : List ℕ) → false ≡ not (bytes_eq text other) → text ≡ other
not_other text other is = (bytes_eq-Decides text other).0 (by (bytes_eq text other) refl)
  where
    by : (b : Bool) → bytes_eq text other ≡ b → bytes_eq text other ≡ true
    by true e = e
    by false e = absurd (let bad : false ≡ true = rw e at is in cc bad)

-- lists that look the same have elements that look the same
pub same_at : {X Y : Type 0} (f : X → Y) (xs ys : List X) (i : ℕ) (x y : X) → i < length xs → i < length ys → x ≡ get_or xs i x → y ≡ get_or ys i y → map f xs ≡ map f ys → f x ≡ f y
same_at f [] ys i x y within also is is_too same = absurd (omega (arith, within))
same_at f (a ∷ xs) [] i x y within also is is_too same = absurd (omega (arith, also))
same_at f (a ∷ xs) (b ∷ ys) zero x y within also is is_too same = let first : f a ≡ f b = cc same in ap f is ∙ first ∙ sym (ap f is_too)
same_at f (a ∷ xs) (b ∷ ys) (suc n) x y within also is is_too same = same_at f xs ys n x y (omega (arith, within)) (omega (arith, also)) is is_too (cc same)

-- and as many of them
pub same_count : {X Y : Type 0} (f : X → Y) (xs ys : List X) → map f xs ≡ map f ys → length xs ≡ length ys
same_count f xs ys same = sym (length-map xs f) ∙ (ap length same ∙ length-map ys f)

-- texts that differ aren't the same
pub is_other : (text other : List ℕ) → true ≡ not (bytes_eq text other) → text ≡ other → ⊥
is_other text other is same = let bad : true ≡ false = rw ((bytes_eq-Decides text other).1 same) at is in absurd (cc bad)
