-- The effect of each action on the values of all papers.
use Rattle.std.proofs.Common.{◌≡◌, ℕ, ◌+◌, ◌-◌, ◌*◌, ◌<◌, ◌≤◌, Bool, true, false, cond, eqb, List, [], ◌∷◌, length, refl, sym, ap, ◌∙◌, ◌/◌, arith, subst}
use Rattle.std.specs.List.{sum_by}
use Rattle.votes.specs.Units.{one_vote, cut}
use Rattle.count.specs.Law.Contest.{Contest, History, newest_votes}
use Rattle.count.specs.Law.Places.{Place, place, moved, surplus_of}
use Rattle.count.specs.Law.Figures.{value_with, value_passed_on, lost_after, lost_by}
use Rattle.count.specs.declared.stages.Stage.{Stage}
use Rattle.count.specs.declared.stages.Action.{Action}
use Rattle.count.specs.declared.stages.Action.TheVariants.{First, Surplus, Exclude, ExcludeLast}
use Rattle.count.proofs.SumLemmas.{sum_by-same, sum_by-add, sum_by-constant, at_other}
use Rattle.std.proofs.lemmas.Bool.{eqb-true, eqb-false}
use Rattle.std.proofs.lemmas.List.Sums.{sum_by-le-sum_by}
use Rattle.count.proofs.Law.CutLemmas.{cuts_le}
use Rattle.std.proofs.Math.Nat.{mul-zero, zero-div}

-- the total value of all papers, whatever their holders
abbrev pub all_values : Contest → History → ℕ
all_values contest stages = sum_by (λ paper. (place contest stages paper).value) contest.papers

-- the total value of the papers that one candidate holds
abbrev pub held : Contest → History → ℕ → ℕ
held contest stages c = sum_by (λ paper. value_with c (place contest stages paper)) contest.papers

value_choice : (b : Bool) (x y : Place) → (cond b x y).value ≡ cond b x.value y.value
value_choice true x y = refl
value_choice false x y = refl

-- the effect of a surplus on the values of all papers: those transferred lose their old value and get the new one
pub surplus-values : (contest : Contest) (s : Stage) (before : History) (c : ℕ) → s.action ≡ Surplus c →
    all_values contest (s ∷ before) + held contest before c ≡ all_values contest before + value_passed_on contest s before c
surplus-values contest s before c is =
    sym (sum_by-add (λ p. (place contest (s ∷ before) p).value) (λ p. value_with c (place contest before p)) contest.papers)
    ∙ sum_by-same _ _ contest.papers (λ p. one p)
    ∙ sum_by-add (λ p. (place contest before p).value) (λ p. cond (eqb (place contest before p).holder c) (place contest (s ∷ before) p).value 0) contest.papers
  where
    choice : (b : Bool) (h w : ℕ) (at : Place) → let m : Place = record { holder = h; value = w } in
        (cond b m at).value + cond b at.value 0 ≡ at.value + cond b (cond b m at).value 0
    choice true h w at = omega arith
    choice false h w at = refl

    one : (p : List ℕ) → (place contest (s ∷ before) p).value + value_with c (place contest before p)
        ≡ (place contest before p).value + cond (eqb (place contest before p).holder c) (place contest (s ∷ before) p).value 0
    one p =
        let at = place contest before p in
        let claim : Action → Type 0 = λ a. (moved contest before a p at).value + value_with c at ≡ at.value + cond (eqb at.holder c) (moved contest before a p at).value 0 in
        subst claim (sym is) (choice (eqb at.holder c) _ _ at)

-- the papers that a surplus transfers have the values that it multiplies
pub taken-cuts : (contest : Contest) (s : Stage) (before : History) (c : ℕ) → s.action ≡ Surplus c →
    value_passed_on contest s before c ≡ sum_by (λ p. cut (surplus_of contest before c) (value_with c (place contest before p)) (newest_votes before c)) contest.papers
taken-cuts contest s before c is = sum_by-same _ _ contest.papers (λ p. one p)
  where
    choice : (b : Bool) (h t r : ℕ) (at : Place) → let m : Place = record { holder = h; value = cut r at.value t } in
        cond b (cond b m at).value 0 ≡ cut r (cond b at.value 0) t
    choice true h t r at = refl
    choice false h t r at = sym (ap (λ n. n / t) (mul-zero r) ∙ zero-div t)

    one : (p : List ℕ) → cond (eqb (place contest before p).holder c) (place contest (s ∷ before) p).value 0
        ≡ cut (surplus_of contest before c) (value_with c (place contest before p)) (newest_votes before c)
    one p =
        let at = place contest before p in
        let claim : Action → Type 0 = λ a. cond (eqb at.holder c) (moved contest before a p at).value 0 ≡ cut (surplus_of contest before c) (value_with c at) (newest_votes before c) in
        subst claim (sym is) (choice (eqb at.holder c) _ _ _ at)

-- A surplus conserves the total: the values of all papers, the quota that remains and the loss add up to the total before it.
pub surplus-conserves : (contest : Contest) (s : Stage) (before : History) (c : ℕ) → s.action ≡ Surplus c →
    0 < newest_votes before c → contest.quota ≤ newest_votes before c → held contest before c ≡ newest_votes before c →
    all_values contest (s ∷ before) + contest.quota + lost_after contest (s ∷ before) ≡ all_values contest before + lost_after contest before
surplus-conserves contest s before c is some reached own =
    let values = surplus-values contest s before c is in
    let cuts = taken-cuts contest s before c is in
    let within = cuts_le (surplus_of contest before c) (newest_votes before c) (λ p. value_with c (place contest before p)) contest.papers some own in
    let gone : lost_by contest s before s.action ≡ surplus_of contest before c - value_passed_on contest s before c = ap (lost_by contest s before) is in
    omega (arith, values, cuts, within, gone, own, reached)

-- an exclusion changes no value
pub exclude-values : (contest : Contest) (s : Stage) (before : History) (c : ℕ) → s.action ≡ Exclude c → all_values contest (s ∷ before) ≡ all_values contest before
exclude-values contest s before c is = sum_by-same _ _ contest.papers (λ p.
    ap (λ a. (moved contest before a p (place contest before p)).value) is ∙ same (eqb (place contest before p).holder c) _ (place contest before p))
  where
    same : (b : Bool) (h : ℕ) (at : Place) → (let moved_place : Place = record { holder = h; value = at.value } in cond b moved_place at).value ≡ at.value
    same true h at = refl
    same false h at = refl

-- the first stage makes each paper one vote
pub first-values : (contest : Contest) (s : Stage) → s.action ≡ First → all_values contest (s ∷ []) ≡ one_vote * length contest.papers
first-values contest s is = sum_by-same _ (λ p. one_vote) contest.papers (λ p. ap (λ a. (moved contest [] a p (place contest [] p)).value) is) ∙ sum_by-constant one_vote contest.papers

-- the candidate from whom an action takes papers
abbrev pub takes : Action → ℕ → Bool
takes First c = true
takes (Surplus d) c = eqb d c
takes (Exclude d) c = eqb d c
takes (ExcludeLast d) c = false

kept_choice : (b : Bool) (c d : ℕ) (m at : Place) → eqb at.holder d ≡ b → eqb d c ≡ false → value_with c at ≤ value_with c (cond b m at)
kept_choice true c d m at here differ =
    let other : at.holder ≡ c → ⊥ = λ e. eqb-false d c differ (sym (eqb-true at.holder d here) ∙ e) in
    omega (arith, at_other at.holder c at.value 0 other)
kept_choice false c d m at here differ = omega arith

-- a candidate from whom nothing is taken keeps at least what was held before
pub kept_at : (contest : Contest) (before : History) (a : Action) (c : ℕ) (p : List ℕ) (at : Place) → takes a c ≡ false → value_with c at ≤ value_with c (moved contest before a p at)
kept_at contest before First c p at h = cc
kept_at contest before (Surplus d) c p at h = kept_choice (eqb at.holder d) c d _ at refl h
kept_at contest before (Exclude d) c p at h = kept_choice (eqb at.holder d) c d _ at refl h
kept_at contest before (ExcludeLast d) c p at h = omega arith

sum_by-le : {X : Type 0} (f g : X → ℕ) (xs : List X) → ((x : X) → f x ≤ g x) → sum_by f xs ≤ sum_by g xs
sum_by-le f g xs h = sum_by-le-sum_by f g xs h

pub held-kept : (contest : Contest) (s : Stage) (before : History) (c : ℕ) → takes s.action c ≡ false → held contest before c ≤ held contest (s ∷ before) c
held-kept contest s before c h = sum_by-le _ _ contest.papers (λ p. kept_at contest before s.action c p (place contest before p) h)
