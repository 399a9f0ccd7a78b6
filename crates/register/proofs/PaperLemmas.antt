-- Comparing keyings.
use Rattle.std.proofs.Common.{◌≡◌, ◌≢◌, ◌&&◌, ℕ, Bool, true, false, suc, length, List, [], ◌∷◌, refl, ap}
use Rattle.std.specs.Str.{bytes_eq}
use Rattle.register.specs.Offices.{KeyedEntry}
use Rattle.register.specs.Agreement.{same_marks}
use Rattle.register.specs.Repeats.{has_texts}

-- two keyings of different lengths don't have the same marks
pub other_lengths : (js ks : List KeyedEntry) → length js ≢ length ks → same_marks js ks ≡ false
unfolding same_marks
other_lengths [] [] other = absurd (other refl)
other_lengths [] (k ∷ ks) other = refl
other_lengths (j ∷ js) [] other = refl
other_lengths (j ∷ js) (k ∷ ks) other = rw (other_lengths js ks (λ same. other (ap suc same))) (none (bytes_eq j.marks k.marks))
  where
    none : (b : Bool) → (b && false) ≡ false
    none true = refl
    none false = refl

-- a keying doesn't match a list of texts of a different length
pub other_counts : (ks : List KeyedEntry) (texts : List (List ℕ)) → length ks ≢ length texts → has_texts ks texts ≡ false
unfolding has_texts
other_counts [] [] other = absurd (other refl)
other_counts [] (text ∷ texts) other = refl
other_counts (k ∷ ks) [] other = refl
other_counts (k ∷ ks) (text ∷ texts) other = rw (other_counts ks texts (λ same. other (ap suc same))) (none (bytes_eq k.marks text))
  where
    none : (b : Bool) → (b && false) ≡ false
    none true = refl
    none false = refl
