-- Papers that are added to bundles: the order in which they are added makes no difference.
use Rattle.std.proofs.Common.{◌≡◌, ◌∙◌, ℕ, ◌+◌, ◌≤◌, List, [], ◌∷◌, ◌++◌, length, replicate, refl, sym, ap, subst, append_assoc, length-append, arith}
use Rattle.std.specs.Prelude.{Option, Some, None, option_map, slice_get, slice_set, zero, suc}
use Rattle.std.specs.List.{AllByRecursion}
use Rattle.std.specs.List.Sorted.{IsPermutation}
use Rattle.std.proofs.Math.ListN.{set}
use Rattle.std.proofs.lemmas.List.{length-replicate, replicate-append-replicate}
use Rattle.std.proofs.lemmas.List.Sorted.{IsPermutation-sym, IsPermutation-trans, IsPermutation-append_left, IsPermutation-append_right, IsPermutation-append_comm}
use Rattle.count.specs.Bundles.{Bundle, papers_of, with_papers, IsBundle, AreBundles}
use Rattle.count.proofs.BundleLemmas.{bundles-with_papers, length-with_papers, papers-with_papers}
use Rattle.count.proofs.BundleLaws.{same-bundles}
use Rattle.checker.specs.Tallies.{settled}

-- papers in the middle can be moved to the front
to_front : (xs ys zs : List (List ℕ)) → IsPermutation (xs ++ (ys ++ zs)) (ys ++ (xs ++ zs))
to_front xs ys zs =
    subst (λ l. IsPermutation l (ys ++ (xs ++ zs))) (append_assoc xs ys zs)
    (subst (λ l. IsPermutation ((xs ++ ys) ++ zs) l) (append_assoc ys xs zs)
    (IsPermutation-append_left zs (xs ++ ys) (ys ++ xs) (IsPermutation-append_comm xs ys)))

-- the papers after two lists were added
papers_of_two : (a b : Bundle) (bs : List Bundle) →
    IsPermutation (replicate b.1 b.0 ++ (replicate a.1 a.0 ++ papers_of bs)) (papers_of (with_papers (with_papers bs a.0 a.1) b.0 b.1))
papers_of_two a b bs =
    IsPermutation-trans (replicate b.1 b.0 ++ (replicate a.1 a.0 ++ papers_of bs)) (replicate b.1 b.0 ++ papers_of (with_papers bs a.0 a.1))
    (papers_of (with_papers (with_papers bs a.0 a.1) b.0 b.1))
    (IsPermutation-append_right (replicate b.1 b.0) (replicate a.1 a.0 ++ papers_of bs) (papers_of (with_papers bs a.0 a.1)) (papers-with_papers a.0 a.1 bs))
    (papers-with_papers b.0 b.1 (with_papers bs a.0 a.1))

-- two lists can be added in either order
two_added : (a b : Bundle) (bs : List Bundle) → IsBundle a → IsBundle b → AreBundles bs →
    with_papers (with_papers bs a.0 a.1) b.0 b.1 ≡ with_papers (with_papers bs b.0 b.1) a.0 a.1
two_added a b bs first second all =
    let one = with_papers (with_papers bs a.0 a.1) b.0 b.1 in
    let other = with_papers (with_papers bs b.0 b.1) a.0 a.1 in
    same-bundles one other
    (bundles-with_papers b.0 b.1 (with_papers bs a.0 a.1) second (bundles-with_papers a.0 a.1 bs first all))
    (bundles-with_papers a.0 a.1 (with_papers bs b.0 b.1) first (bundles-with_papers b.0 b.1 bs second all))
    (IsPermutation-trans (papers_of one) (replicate b.1 b.0 ++ (replicate a.1 a.0 ++ papers_of bs)) (papers_of other)
    (IsPermutation-sym (replicate b.1 b.0 ++ (replicate a.1 a.0 ++ papers_of bs)) (papers_of one) (papers_of_two a b bs))
    (IsPermutation-trans (replicate b.1 b.0 ++ (replicate a.1 a.0 ++ papers_of bs)) (replicate a.1 a.0 ++ (replicate b.1 b.0 ++ papers_of bs)) (papers_of other)
    (to_front (replicate b.1 b.0) (replicate a.1 a.0) (papers_of bs)) (papers_of_two b a bs)))

-- papers of one list can be added at once
one_added : (list : List ℕ) (m n : ℕ) (bs : List Bundle) → 1 ≤ m → IsBundle (list, n) → AreBundles bs →
    with_papers bs list (m + n) ≡ with_papers (with_papers bs list m) list n
one_added list m n bs some is all =
    let once = with_papers bs list (m + n) in
    let twice = with_papers (with_papers bs list m) list n in
    let joined : replicate n list ++ (replicate m list ++ papers_of bs) ≡ replicate (m + n) list ++ papers_of bs =
    sym (append_assoc (replicate n list) (replicate m list) (papers_of bs))
    ∙ ap (λ l. l ++ papers_of bs) (replicate-append-replicate n m list ∙ ap (λ k. replicate k list) (omega arith)) in
    same-bundles once twice
    (bundles-with_papers list (m + n) bs (omega (arith, some), is.1, is.2) all)
    (bundles-with_papers list n (with_papers bs list m) is (bundles-with_papers list m bs (some, is.1, is.2) all))
    (IsPermutation-trans (papers_of once) (replicate (m + n) list ++ papers_of bs) (papers_of twice)
    (IsPermutation-sym (replicate (m + n) list ++ papers_of bs) (papers_of once) (papers-with_papers list (m + n) bs))
    (subst (λ l. IsPermutation l (papers_of twice)) joined (papers_of_two (list, m) (list, n) bs)))

-- what is added to bundles leaves bundles
pub bundles-settled : (bs es : List Bundle) → AreBundles bs → AllByRecursion IsBundle es → AreBundles (settled bs es)
bundles-settled bs [] all each = all
bundles-settled bs (e ∷ es) all each = bundles-settled (with_papers bs e.0 e.1) es (bundles-with_papers e.0 e.1 bs each.0 all) each.1

-- a list that is added first might as well be added last
settled-swap : (bs es : List Bundle) (b : Bundle) → AreBundles bs → AllByRecursion IsBundle es → IsBundle b →
    settled (with_papers bs b.0 b.1) es ≡ with_papers (settled bs es) b.0 b.1
settled-swap bs [] b all each is = refl
settled-swap bs (e ∷ es) b all each is =
    ap (λ l. settled l es) (two_added b e bs is each.0 all)
    ∙ settled-swap (with_papers bs e.0 e.1) es b (bundles-with_papers e.0 e.1 bs each.0 all) each.1 is

-- another list at the end
pub settled-push : (bs es : List Bundle) (b : Bundle) → settled bs (es ++ b ∷ []) ≡ with_papers (settled bs es) b.0 b.1
settled-push bs [] b = refl
settled-push bs (e ∷ es) b = settled-push (with_papers bs e.0 e.1) es b

pub each-push : (es : List Bundle) (b : Bundle) → AllByRecursion IsBundle es → IsBundle b → AllByRecursion IsBundle (es ++ b ∷ [])
each-push [] b each is = (is, tt)
each-push (e ∷ es) b each is = (each.0, each-push es b each.1 is)

-- the number of papers after lists were added
pub length-settled : (bs es : List Bundle) → length (papers_of (settled bs es)) ≡ length (papers_of bs) + length (papers_of es)
length-settled bs [] = omega arith
length-settled bs (e ∷ es) =
    omega (arith, length-settled (with_papers bs e.0 e.1) es, length-with_papers e.0 e.1 bs, length-append (replicate e.1 e.0) (papers_of es), length-replicate e.1 e.0)

-- the papers of the next list fit if those of all lists fit
pub fits-settled : (bs es : List Bundle) (e : Bundle) → length (papers_of bs) + e.1 ≤ length (papers_of (settled bs (e ∷ es)))
fits-settled bs es e = omega (arith, length-settled (with_papers bs e.0 e.1) es, length-with_papers e.0 e.1 bs)

-- a list that a test finds has a number of papers
pub number-found : (o : Option Bundle) (list : List ℕ) → option_map (λ (b : Bundle). b.0) o ≡ Some list → (n : ℕ) × (o ≡ Some (list, n))
number-found None list is = absurd (cc is)
number-found (Some b) list is = let same : b.0 ≡ list = cc is in (b.1, ap (λ (l : List ℕ). Some (l, b.1)) same)

-- a list has at most all papers
pub number-at : (es : List Bundle) (i : ℕ) (b : Bundle) → slice_get es i ≡ Some b → b.1 ≤ length (papers_of es)
number-at [] i b is = absurd (cc is)
number-at (e ∷ es) zero b is =
    let same : e ≡ b = cc is in
    omega (arith, ap (λ (x : Bundle). x.1) same, length-append (replicate e.1 e.0) (papers_of es), length-replicate e.1 e.0)
number-at (e ∷ es) (suc i) b is = omega (arith, number-at es i b is, length-append (replicate e.1 e.0) (papers_of es))

-- more papers for a list that is there
pub settled-more : (bs es : List Bundle) (i : ℕ) (list : List ℕ) (m n : ℕ) → slice_get es i ≡ Some (list, m) → 1 ≤ n → AreBundles bs → AllByRecursion IsBundle es →
    settled bs (slice_set es i (list, m + n)) ≡ with_papers (settled bs es) list n
settled-more bs [] i list m n is some all each = absurd (cc is)
settled-more bs (e ∷ es) zero list m n is some all each =
    let same : e ≡ (list, m) = cc is in
    let own : IsBundle (list, m) = subst IsBundle same each.0 in
    ap (λ l. settled l es) (one_added list m n bs own.0 (some, own.1, own.2) all)
    ∙ settled-swap (with_papers bs list m) es (list, n) (bundles-with_papers list m bs own all) each.1 (some, own.1, own.2)
    ∙ ap (λ (b : Bundle). with_papers (settled (with_papers bs b.0 b.1) es) list n) (sym same)
settled-more bs (e ∷ es) (suc i) list m n is some all each =
    settled-more (with_papers bs e.0 e.1) es i list m n is some (bundles-with_papers e.0 e.1 bs each.0 all) each.1

pub each-more : (es : List Bundle) (i : ℕ) (list : List ℕ) (m n : ℕ) → slice_get es i ≡ Some (list, m) → AllByRecursion IsBundle es →
    AllByRecursion IsBundle (slice_set es i (list, m + n))
each-more [] i list m n is each = absurd (cc is)
each-more (e ∷ es) zero list m n is each =
    let same : e ≡ (list, m) = cc is in
    let own : IsBundle (list, m) = subst IsBundle same each.0 in
    ((omega (arith, own.0), own.1, own.2), each.1)
each-more (e ∷ es) (suc i) list m n is each = (each.0, each-more es i list m n is each.1)
