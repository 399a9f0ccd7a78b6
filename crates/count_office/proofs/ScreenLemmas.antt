-- Bytes as they are shown on a terminal: byte by byte, and their prefixes.
use Rattle.std.proofs.Common.{arith, subst, ◌≡◌, ◌∙◌, ◌<◌, ◌≤◌, ◌+◌, ℕ, zero, suc, List, [], ◌∷◌, ◌++◌, length, take, drop, set, get_or, ap, sym, refl}
use Rattle.std.proofs.Math.Seq.{drop-cons}
use Rattle.std.proofs.lemmas.List.{append_assoc, take_more_set}
use Rattle.count_office.specs.Screens.{last_two, masked, shown_byte}

-- the remaining bytes begin with the byte at the given index
left : (bytes : List ℕ) (i : ℕ) → i < length bytes → drop i bytes ≡ get_or bytes i 0 ∷ drop (i + 1) bytes
left bytes i here =
    let next : suc i ≡ i + 1 = omega arith in
    subst (λ n. drop i bytes ≡ get_or bytes i 0 ∷ drop n bytes) next (drop-cons bytes i 0 here)

-- all bytes, masked, are those in the array so far followed by the remaining ones, masked; this still holds with another byte in the array
pub shown_more : (all room bytes : List ℕ) (i first second s : ℕ) → i < length bytes → i < length room → s ≡ shown_byte first second (get_or bytes i 0)
    → all ≡ take i room ++ masked first second (drop i bytes)
    → all ≡ take (i + 1) (set room i s) ++ masked second (get_or bytes i 0) (drop (i + 1) bytes)
unfolding masked
shown_more all room bytes i first second s here place is so_far =
    let b = get_or bytes i 0 in
    let rest = masked second b (drop (i + 1) bytes) in
    so_far ∙ ap (λ xs. take i room ++ masked first second xs) (left bytes i here)
    ∙ ap (λ t. take i room ++ t ∷ rest) (sym is)
    ∙ sym (append_assoc (take i room) (s ∷ []) rest)
    ∙ ap (λ xs. xs ++ rest) (sym (take_more_set room i s place))

-- the last two bytes after another byte
pub last_more : (all : ℕ × ℕ) (bytes : List ℕ) (i first second : ℕ) → i < length bytes
    → all ≡ last_two first second (drop i bytes) → all ≡ last_two second (get_or bytes i 0) (drop (i + 1) bytes)
unfolding last_two
last_more all bytes i first second here so_far = so_far ∙ ap (last_two first second) (left bytes i here)

-- a prefix of the masked bytes is the mask of a prefix
pub take_masked : (n first second : ℕ) (bytes : List ℕ) → take n (masked first second bytes) ≡ masked first second (take n bytes)
unfolding masked
take_masked zero first second bytes = refl
take_masked (suc n) first second [] = refl
take_masked (suc n) first second (b ∷ bytes) = ap (λ xs. shown_byte first second b ∷ xs) (take_masked n second b bytes)

-- an empty list of bytes is shown as such, and leaves the last two unchanged
pub masked_none : (first second : ℕ) → masked first second [] ≡ []
unfolding masked
masked_none first second = refl

pub last_none : (first second : ℕ) → last_two first second [] ≡ (first, second)
unfolding last_two
last_none first second = refl

-- a prefix of a longer prefix
pub take_within : (n m : ℕ) (bytes : List ℕ) → n ≤ m → take n (take m bytes) ≡ take n bytes
take_within zero m bytes within = refl
take_within (suc n) zero bytes within = absurd (omega (arith, within))
take_within (suc n) (suc m) [] within = refl
take_within (suc n) (suc m) (b ∷ bytes) within = ap (λ bs. b ∷ bs) (take_within n m bytes (omega (arith, within)))
