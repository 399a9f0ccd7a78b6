-- Bisecting rows in key order finds exactly the rows with the given key.
use Rattle.std.proofs.Common.{◌≡◌, ℕ, ◌+◌, ◌<◌, ◌≤◌, Bool, true, false, List, [], ◌∷◌, length, get_or, take, drop, filter, suc, refl, sym, ap, ◌∙◌, arith, append-nil}
use Rattle.std.specs.List.Sorted.{IsNonDecreasingBy, IsPartitionedBy, IsPartitionPoint}
use Rattle.std.specs.declared.cmp.Ordering.{Ordering}
use Rattle.std.specs.declared.cmp.Ordering.TheVariants.{Less, Equal, Greater}
use Rattle.std.specs.Ordering.{ordering_index, is_lt, is_le, is_eq}
use Rattle.std.proofs.lemmas.List.{get_or-take, get_or-drop, take-append-drop, length-take-le, length-drop}
use Rattle.std.proofs.lemmas.List.Elements.{filter-append}

-- ---- the positions of the rows that pass a test

pub lower_passes : {X : Type 0} (o : X → Ordering) (xs : List X) → IsNonDecreasingBy (λ x. ordering_index (o x)) xs → IsPartitionedBy (λ x. is_lt (o x)) xs
lower_passes {X} o xs rises i j d low high passes = go (o (get_or xs i d)) (o (get_or xs j d)) (rises i j d low high) passes
  where
    go : (m n : Ordering) → ordering_index m ≤ ordering_index n → is_lt n ≡ true → is_lt m ≡ true
    go Less n below is = refl
    go m Equal below is = absurd (cc)
    go m Greater below is = absurd (cc)
    go Equal Less below is = absurd (omega arith)
    go Greater Less below is = absurd (omega arith)

pub upper_passes : {X : Type 0} (o : X → Ordering) (xs : List X) → IsNonDecreasingBy (λ x. ordering_index (o x)) xs → IsPartitionedBy (λ x. is_le (o x)) xs
upper_passes {X} o xs rises i j d low high passes = go (o (get_or xs i d)) (o (get_or xs j d)) (rises i j d low high) passes
  where
    go : (m n : Ordering) → ordering_index m ≤ ordering_index n → is_le n ≡ true → is_le m ≡ true
    go Less n below is = refl
    go Equal n below is = refl
    go m Greater below is = absurd (cc)
    go Greater Equal below is = absurd (omega arith)
    go Greater Less below is = absurd (omega arith)

-- filtering a list in which no element passes, and a list in which every element does
none_pass : {X : Type 0} (p : X → Bool) (xs : List X) → ((k : ℕ) (d : X) → k < length xs → p (get_or xs k d) ≡ false) → filter p xs ≡ []
none_pass p [] none = refl
none_pass {X} p (x ∷ xs) none =
    let first : p x ≡ false = none 0 x (omega arith) in
    rw first (none_pass p xs (λ k d below. none (suc k) d (omega (arith, below))))

each_passes : {X : Type 0} (p : X → Bool) (xs : List X) → ((k : ℕ) (d : X) → k < length xs → p (get_or xs k d) ≡ true) → filter p xs ≡ xs
each_passes p [] all = refl
each_passes {X} p (x ∷ xs) all =
    let first : p x ≡ true = all 0 x (omega arith) in
    rw first (ap (λ ys. x ∷ ys) (each_passes p xs (λ k d below. all (suc k) d (omega (arith, below)))))

not_less : (m : Ordering) → is_lt m ≡ true → is_eq m ≡ false
not_less Less is = refl
not_less Equal is = absurd (cc)
not_less Greater is = refl

not_above : (m : Ordering) → is_le m ≡ false → is_eq m ≡ false
not_above Less is = refl
not_above Equal is = absurd (cc)
not_above Greater is = refl

among : (m : Ordering) → is_lt m ≡ false → is_le m ≡ true → is_eq m ≡ true
among Less least most = absurd (cc)
among Equal least most = refl
among Greater least most = absurd (cc)

module _ {X : Type 0} (o : X → Ordering) where
  -- if no row of the remaining part sorts before the key, the rows with the key come first
  run_in : (left : List X) (run : ℕ) → run ≤ length left → ((k : ℕ) (d : X) → k < length left → is_lt (o (get_or left k d)) ≡ false)
      → IsPartitionPoint (λ x. is_le (o x) ≡ true) (λ x. is_le (o x) ≡ false) left run
      → filter (λ x. is_eq (o x)) left ≡ take run left
  run_in left run within least upper =
      ap (filter (λ x. is_eq (o x))) (sym (take-append-drop run left)) ∙ (filter-append (λ x. is_eq (o x)) (take run left) (drop run left) ∙ rw (middle, behind) (append-nil _))
    where
      middle : filter (λ x. is_eq (o x)) (take run left) ≡ take run left
      middle = each_passes (λ x. is_eq (o x)) (take run left) (λ k d below.
          let small : k < run = omega (arith, below, length-take-le run left within) in
          let same : get_or (take run left) k d ≡ get_or left k d = get_or-take run left k d small in
          among _ (ap (λ x. is_lt (o x)) same ∙ least k d (omega (arith, small, within))) (ap (λ x. is_le (o x)) same ∙ upper.0 k d (omega arith) small))

      behind : filter (λ x. is_eq (o x)) (drop run left) ≡ []
      behind = none_pass (λ x. is_eq (o x)) (drop run left) (λ k d below.
          let there : get_or (drop run left) k d ≡ get_or left (run + k) d = get_or-drop run left k d in
          not_above _ (ap (λ x. is_le (o x)) there ∙ upper.1 (run + k) d (omega arith) (omega (arith, length-drop run left, within, below))))

  -- two bisections: the first skips the rows before the key, and the second splits the rows with the key from
  -- the rest
  pub run_is : (xs : List X) (before run : ℕ) (left : List X) → before ≤ length xs → run ≤ length left → left ≡ drop before xs
      → IsPartitionPoint (λ x. is_lt (o x) ≡ true) (λ x. is_lt (o x) ≡ false) xs before → IsPartitionPoint (λ x. is_le (o x) ≡ true) (λ x. is_le (o x) ≡ false) left run
      → take run left ≡ filter (λ x. is_eq (o x)) xs
  run_is xs before run left in_front within rest lower upper =
      sym (
      ap (filter (λ x. is_eq (o x))) (sym (take-append-drop before xs))
      ∙ (filter-append (λ x. is_eq (o x)) (take before xs) (drop before xs) ∙ rw (front, sym rest) (run_in left run within least upper))
      )
    where
      least : (k : ℕ) (d : X) → k < length left → is_lt (o (get_or left k d)) ≡ false
      least k d below =
          let there : get_or left k d ≡ get_or xs (before + k) d = ap (λ (ys : List X). get_or ys k d) rest ∙ get_or-drop before xs k d in
          let long : length left ≡ length (drop before xs) = ap length rest in
          ap (λ x. is_lt (o x)) there ∙ lower.1 (before + k) d (omega arith) (omega (arith, long, length-drop before xs, in_front, below))

      front : filter (λ x. is_eq (o x)) (take before xs) ≡ []
      front = none_pass (λ x. is_eq (o x)) (take before xs) (λ k d below.
          let small : k < before = omega (arith, below, length-take-le before xs in_front) in
          not_less _ (ap (λ x. is_lt (o x)) (get_or-take before xs k d small) ∙ lower.0 k d (omega arith) small))
