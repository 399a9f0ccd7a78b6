-- The groups of papers that pass on with a surplus: how many papers they have, their values, and their order.
use Rattle.std.proofs.Common.{◌≡◌, ℕ, zero, suc, ◌+◌, ◌*◌, ◌<◌, ◌≤◌, ◌==◌, ◌&&◌, Bool, true, false, cond, nat_lt, List, [], ◌∷◌, length, fold, slice_get, slice_set, insert, Option}
use Rattle.std.proofs.Common.{Some, None, refl, sym, ap, subst, ◌∙◌, arith}
use Rattle.std.specs.List.{AllByRecursion, sum_by}
use Rattle.std.specs.Prelude.{AllPairs, ⊤}
use Rattle.std.proofs.lemmas.Bool.{eqb-true, eqb-false, ltb-true, ltb-false}
use Rattle.std.proofs.lemmas.List.Elements.{All-from_recursion}
use Rattle.std.proofs.lemmas.List.Kept.{AllPairs-cons}
use Rattle.std.proofs.lemmas.List.Sums.{length-filter, sum_by-cons}
use Rattle.count.specs.Bundles.{Bundle, IsBundle, papers_of}
use Rattle.count.specs.Law.Contest.{Contest, History}
use Rattle.count.specs.Law.Places.{Place, place}
use Rattle.count.proofs.BundleFigureLemmas.{sum-papers}
use Rattle.count.proofs.SumLemmas.{sum_by-same}
use Rattle.sheet.specs.Surpluses.{all_held, count_above, papers_in, passed_on, with_held, with_papers, with_papers_at}
use Rattle.sheet.specs.declared.surpluses.PassedOn.{PassedOn}
use Rattle.sheet_laws.specs.SurplusLaw.{HaveAllPapers, HaveTransferValues, IsHigher, IsOfSurplus, papers_held, papers_held_at, papers_received_at}

-- ---- more papers, group by group

-- a group with more papers
abbrev pub grown : PassedOn → PassedOn → PassedOn
grown g more = record g { papers = g.papers + more.papers }

-- more papers after a first group: they are among the later ones, or in it, or before it
abbrev pub placed_with : PassedOn → List PassedOn → PassedOn → Bool → Bool → List PassedOn
placed_with g gs more true same = g ∷ with_papers gs more
placed_with g gs more false true = grown g more ∷ gs
placed_with g gs more false false = more ∷ g ∷ gs

later_at : (g : PassedOn) (gs : List PassedOn) (more : PassedOn) (n : ℕ) (o : Option PassedOn) → with_papers_at (g ∷ gs) more (suc n) o ≡ g ∷ with_papers_at gs more n o
later_at g gs more n None = refl
later_at g gs more n (Some h) = by (h.received == more.received)
  where
    by : (b : Bool) → cond b (slice_set (g ∷ gs) (suc n) (grown h more)) (insert (g ∷ gs) (suc n) more) ≡ g ∷ cond b (slice_set gs n (grown h more)) (insert gs n more)
    by true = refl
    by false = refl

here_at : (g : PassedOn) (gs : List PassedOn) (more : PassedOn) (same : Bool) →
    cond same (slice_set (g ∷ gs) zero (grown g more)) (insert (g ∷ gs) zero more) ≡ placed_with g gs more false same
here_at g gs more true = refl
here_at g gs more false = refl

first_at : (g : PassedOn) (gs : List PassedOn) (more : PassedOn) (above : Bool) → let n = cond above (1 + count_above gs more.received) 0 in
    with_papers_at (g ∷ gs) more n (slice_get (g ∷ gs) n) ≡ placed_with g gs more above (g.received == more.received)
first_at g gs more true =
    let n = count_above gs more.received in
    let next : 1 + n ≡ suc n = omega arith in
    ap (λ k. with_papers_at (g ∷ gs) more k (slice_get (g ∷ gs) k)) next ∙ later_at g gs more n (slice_get gs n)
first_at g gs more false = here_at g gs more (g.received == more.received)

-- more papers after a first group
pub with_first : (g : PassedOn) (gs : List PassedOn) (more : PassedOn) →
    with_papers (g ∷ gs) more ≡ placed_with g gs more (nat_lt more.received g.received) (g.received == more.received)
with_first g gs more = first_at g gs more (nat_lt more.received g.received)

-- ---- sums over groups

-- a number for each value when received, times the number of papers received at that value
abbrev pub weighed : (ℕ → ℕ) → PassedOn → ℕ
weighed f g = g.papers * f g.received

more_weight : (a b x : ℕ) → (a + b) * x ≡ a * x + b * x
more_weight a b x = grind arith

pub weight_more : (f : ℕ → ℕ) (groups : List PassedOn) (more : PassedOn) → sum_by (weighed f) (with_papers groups more) ≡ sum_by (weighed f) groups + weighed f more
weight_more f [] more = refl
weight_more f (g ∷ gs) more = ap (sum_by (weighed f)) (with_first g gs more) ∙ by (nat_lt more.received g.received) (g.received == more.received) refl (weight_more f gs more)
  where
    by : (above same : Bool) → (g.received == more.received) ≡ same → sum_by (weighed f) (with_papers gs more) ≡ sum_by (weighed f) gs + weighed f more →
        sum_by (weighed f) (placed_with g gs more above same) ≡ sum_by (weighed f) (g ∷ gs) + weighed f more
    by true same is later = omega (arith, sum_by-cons (weighed f) g (with_papers gs more), sum_by-cons (weighed f) g gs, later)
    by false true is later =
        let alike = ap (λ v. more.papers * f v) (eqb-true g.received more.received is) in
        omega (arith, sum_by-cons (weighed f) (grown g more) gs, sum_by-cons (weighed f) g gs, more_weight g.papers more.papers (f g.received), alike)
    by false false is later = omega (arith, sum_by-cons (weighed f) more (g ∷ gs))

-- a number for each paper that c holds, by its value
abbrev pub weight_held : (ℕ → ℕ) → ℕ → Place → ℕ
weight_held f c at = cond (at.holder == c) (f at.value) 0

weight_bundle : (f : ℕ → ℕ) (contest : Contest) (before : History) (c n : ℕ) (groups : List PassedOn) (at : Place) →
    sum_by (weighed f) (with_held contest before c n groups at) ≡ sum_by (weighed f) groups + n * weight_held f c at
weight_bundle f contest before c n groups at = by (at.holder == c)
  where
    by : (b : Bool) → sum_by (weighed f) (cond b (with_papers groups (passed_on contest before c n at.value)) groups) ≡ sum_by (weighed f) groups + n * cond b (f at.value) 0
    by true = weight_more f groups (passed_on contest before c n at.value)
    by false = omega arith

weight_bundles : (f : ℕ → ℕ) (contest : Contest) (before : History) (c : ℕ) (groups : List PassedOn) (bundles : List Bundle) →
    sum_by (weighed f) (fold (λ (gs : List PassedOn) (b : Bundle). with_held contest before c b.1 gs (place contest before b.0)) groups bundles)
    ≡ sum_by (weighed f) groups + sum_by (λ paper. weight_held f c (place contest before paper)) (papers_of bundles)
weight_bundles f contest before c groups [] = omega arith
weight_bundles f contest before c groups (b ∷ bundles) =
    let next = with_held contest before c b.1 groups (place contest before b.0) in
    omega (
      arith,
      weight_bundles f contest before c next bundles,
      weight_bundle f contest before c b.1 groups (place contest before b.0),
      sum-papers (λ paper. weight_held f c (place contest before paper)) b bundles,
    )

-- a sum over the groups, by value, is the sum over the papers that c holds
pub weight_all : (f : ℕ → ℕ) (contest : Contest) (before : History) (c : ℕ) (bundles : List Bundle) → contest.papers ≡ papers_of bundles →
    sum_by (weighed f) (all_held contest before bundles c) ≡ sum_by (λ paper. weight_held f c (place contest before paper)) contest.papers
weight_all f contest before c bundles are =
    omega (arith, weight_bundles f contest before c [] bundles, ap (sum_by (λ paper. weight_held f c (place contest before paper))) are)

-- ---- how many papers

papers_once : (contest : Contest) (before : History) (c : ℕ) (bundles : List Bundle) → contest.papers ≡ papers_of bundles →
    papers_in (all_held contest before bundles c) ≡ length (papers_held contest before c)
papers_once contest before c bundles are =
    sum_by-same (λ (g : PassedOn). g.papers) (weighed (λ v. 1)) (all_held contest before bundles c) (λ g. omega arith)
    ∙ weight_all (λ v. 1) contest before c bundles are
    ∙ sym (length-filter (λ paper. (place contest before paper).holder == c) contest.papers)

papers_once_at : (contest : Contest) (before : History) (c value : ℕ) (bundles : List Bundle) → contest.papers ≡ papers_of bundles →
    papers_received_at value (all_held contest before bundles c) ≡ length (papers_held_at contest before c value)
papers_once_at contest before c value bundles are =
    sum_by-same (λ (g : PassedOn). cond (g.received == value) g.papers 0) (weighed (λ v. cond (v == value) 1 0)) (all_held contest before bundles c) (λ g. times (g.received == value) g.papers)
    ∙ weight_all (λ v. cond (v == value) 1 0) contest before c bundles are
    ∙ sum_by-same _ (λ paper. let at = place contest before paper in cond (at.holder == c && at.value == value) 1 0) contest.papers
    (λ paper. let at = place contest before paper in both (at.holder == c) (at.value == value))
    ∙ sym (length-filter (λ paper. (place contest before paper).holder == c && (place contest before paper).value == value) contest.papers)
  where
    times : (b : Bool) (n : ℕ) → cond b n 0 ≡ n * cond b 1 0
    times true n = omega arith
    times false n = omega arith

    both : (a b : Bool) → let one : ℕ = 1 in cond a (cond b one 0) 0 ≡ cond (a && b) one 0
    both true b = refl
    both false b = refl

-- no paper is left out or named twice
pub all_papers : HaveAllPapers
all_papers contest before bundles c of = (papers_once contest before c bundles of.papers_are, λ value. papers_once_at contest before c value bundles of.papers_are)

-- ---- at which values

-- what holds of each group, and of more papers, holds of each group with these
pub each_with : (P : PassedOn → Type 0) (groups : List PassedOn) (more : PassedOn) → ((g : PassedOn) → P g → P more → P (grown g more)) → AllByRecursion P groups → P more →
    AllByRecursion P (with_papers groups more)
each_with P [] more join each new = (new, tt)
each_with P (g ∷ gs) more join each new =
    subst (AllByRecursion P) (sym (with_first g gs more)) (by (nat_lt more.received g.received) (g.received == more.received) (each_with P gs more join each.1 new))
  where
    by : (above same : Bool) → AllByRecursion P (with_papers gs more) → AllByRecursion P (placed_with g gs more above same)
    by true same later = (each.0, later)
    by false true later = (join g each.0 new, each.1)
    by false false later = (new, each)

-- the groups have descending values
abbrev pub Descend : List PassedOn → Type 0
Descend [] = ⊤
Descend (g ∷ gs) = AllByRecursion (λ h. h.received < g.received) gs × Descend gs

pub each_below : (v w : ℕ) (gs : List PassedOn) → v ≤ w → AllByRecursion (λ h. h.received < v) gs → AllByRecursion (λ h. h.received < w) gs
each_below v w [] less each = tt
each_below v w (g ∷ gs) less each = (omega (arith, each.0, less), each_below v w gs less each.1)

pub descend_with : (groups : List PassedOn) (more : PassedOn) → Descend groups → Descend (with_papers groups more)
descend_with [] more down = (tt, tt)
descend_with (g ∷ gs) more down =
    subst Descend (sym (with_first g gs more)) (by (nat_lt more.received g.received) (g.received == more.received) refl refl (descend_with gs more down.1))
  where
    by : (above same : Bool) → nat_lt more.received g.received ≡ above → (g.received == more.received) ≡ same → Descend (with_papers gs more) →
        Descend (placed_with g gs more above same)
    by true same less is later = (each_with (λ h. h.received < g.received) gs more (λ h old new. old) down.0 (ltb-true more.received g.received less), later)
    by false true less is later = down
    by false false less is later =
        let apart : g.received ≡ more.received → ⊥ = eqb-false g.received more.received is in
        let below : g.received < more.received = omega (arith, apart, ltb-false more.received g.received less) in
        ((below, each_below g.received more.received gs (omega (arith, below)) down.0), down)

-- more papers of the same surplus
joined : (contest : Contest) (before : History) (c : ℕ) (g more : PassedOn) → IsOfSurplus contest before c g → IsOfSurplus contest before c more →
    IsOfSurplus contest before c (grown g more)
joined contest before c g more of new = record {
  stage_is = of.stage_is;
  candidate_is = of.candidate_is;
  surplus_is = of.surplus_is;
  votes_are = of.votes_are;
  some_papers = omega (arith, of.some_papers);
  passed_is = of.passed_is;
}

-- the groups so far are of the surplus, and descend
abbrev pub AreInOrder : Contest → History → ℕ → List PassedOn → Type 0
AreInOrder contest before c groups = AllByRecursion (IsOfSurplus contest before c) groups × Descend groups

order_bundle : (contest : Contest) (before : History) (c n : ℕ) (groups : List PassedOn) (at : Place) → 1 ≤ n → AreInOrder contest before c groups →
    AreInOrder contest before c (with_held contest before c n groups at)
order_bundle contest before c n groups at some order = by (at.holder == c)
  where
    more : PassedOn
    more = passed_on contest before c n at.value

    by : (b : Bool) → AreInOrder contest before c (cond b (with_papers groups more) groups)
    by true =
        let new : IsOfSurplus contest before c more =
        record { stage_is = refl; candidate_is = refl; surplus_is = refl; votes_are = refl; some_papers = some; passed_is = refl } in
        (each_with (IsOfSurplus contest before c) groups more (λ g. joined contest before c g more) order.0 new, descend_with groups more order.1)
    by false = order

order_bundles : (contest : Contest) (before : History) (c : ℕ) (groups : List PassedOn) (bundles : List Bundle) → AllByRecursion IsBundle bundles → AreInOrder contest before c groups →
    AreInOrder contest before c (fold (λ (gs : List PassedOn) (b : Bundle). with_held contest before c b.1 gs (place contest before b.0)) groups bundles)
order_bundles contest before c groups [] each order = order
order_bundles contest before c groups (b ∷ bundles) each order =
    order_bundles contest before c (with_held contest before c b.1 groups (place contest before b.0)) bundles each.1
    (order_bundle contest before c b.1 groups (place contest before b.0) each.0.0 order)

descend_pairs : (groups : List PassedOn) → Descend groups → AllPairs IsHigher groups
descend_pairs [] down = λ i j d up within. absurd (omega (arith, within))
descend_pairs (g ∷ gs) down = AllPairs-cons IsHigher g gs (All-from_recursion (λ h. h.received < g.received) gs down.0) (descend_pairs gs down.1)

-- each group is of the surplus, and their values descend
pub transfer_values : HaveTransferValues
transfer_values contest before bundles c of =
    let order = order_bundles contest before c [] bundles of.bundles_are.each (tt, tt) in
    (order.0, descend_pairs (all_held contest before bundles c) order.1)
