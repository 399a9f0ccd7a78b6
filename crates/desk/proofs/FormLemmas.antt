-- Adds one more entry to a form.
use Rattle.std.proofs.Common.{◌≡◌, ℕ, ◌+◌, ◌<◌, List, [], ◌∷◌, ◌++◌, map, length, get_or, drop, suc, sym, ap, ◌∙◌, append_assoc, add-one, drop-cons}
use Rattle.std.proofs.lemmas.List.{map-append}

-- if the entries so far, followed by those of the remaining items, are all entries, then this still holds with the next entry
pub entry_more : {A B C V : Type 0} (shown : B → C) (of : V → C) (view : A → V) (xs : List A) (k : ℕ) (x : A) (before after : List B) (next : B) (all : List C) → k < length xs
    → x ≡ get_or xs k x → after ≡ before ++ next ∷ [] → shown next ≡ of (view x) → map shown before ++ map of (map view (drop k xs)) ≡ all
    → map shown after ++ map of (map view (drop (k + 1) xs)) ≡ all
entry_more {A = A} {B = B} {C = C} shown of view xs k x before after next all within is put same so_far =
    let rest : List C = map of (map view (drop (k + 1) xs)) in
    let left : drop k xs ≡ x ∷ drop (k + 1) xs = rw add-one (drop-cons xs k x within ∙ ap (λ (y : A). y ∷ drop (suc k) xs) (sym is)) in
    ap (λ (bs : List B). map shown bs ++ rest) put
    ∙ ap (λ (cs : List C). cs ++ rest) (map-append shown before (next ∷ []) ∙ ap (λ (c : C). map shown before ++ c ∷ []) same)
    ∙ append_assoc (map shown before) (of (view x) ∷ []) rest
    ∙ ap (λ (ys : List A). map shown before ++ map of (map view ys)) (sym left)
    ∙ so_far
