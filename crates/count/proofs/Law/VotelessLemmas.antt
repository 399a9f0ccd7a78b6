-- Numbers that aren't candidates have no votes: they hold no paper, and no surplus of theirs is transferred.
use Rattle.std.proofs.Common.{◌≡◌, ℕ, ◌≤◌, ◌||◌, ◌⊎◌, inl, inr, Bool, true, false, cond, nat_eq, List, [], ◌∷◌, Option, refl, sym, ap, ◌∙◌, arith}
use Rattle.std.specs.List.{list_any}
use Rattle.std.proofs.lemmas.Bool.{eqb-true}
use Rattle.count.specs.Law.Contest.{Contest, History, IsContest, In}
use Rattle.count.specs.Law.Elected.{is_transferred, transfers}
use Rattle.count.specs.Law.Figures.{value_with}
use Rattle.count.specs.Law.Laws.{OnlyCandidatesHaveVotes}
use Rattle.count.specs.Law.Places.{Place, place}
use Rattle.count.specs.Law.Right.{IsRightBy}
use Rattle.count.specs.declared.stages.Stage.{Stage}
use Rattle.count.specs.declared.stages.Action.{Action}
use Rattle.count.specs.declared.stages.Action.TheVariants.{Exclude, ExcludeLast}
use Rattle.count.proofs.SumLemmas.{at_other, sum_by-none}
use Rattle.count.proofs.Law.ValueLemmas.{held}
use Rattle.count.proofs.Law.ConservedLemmas.{IsHolder, holder-known, sum-of}
use Rattle.count.proofs.Law.StepLemmas.{IsSurplus, IsExclusion, step-is, step-first, told-votes, votes-held}

-- a paper is worth nothing to a number that can't be its holder
worth_other : (candidates : List ℕ) (c : ℕ) (at : Place) → 1 ≤ c → list_any (nat_eq c) candidates ≡ false → IsHolder candidates at.holder → value_with c at ≡ 0
worth_other candidates c at some other (inl none) =
    at_other at.holder c at.value 0 (λ same. let bad : ⊥ = omega (arith, some, none, same) in bad)
worth_other candidates c at some other (inr known) =
    at_other at.holder c at.value 0 (λ same. let found : list_any (nat_eq c) candidates ≡ true = ap (λ h. list_any (nat_eq h) candidates) (sym same) ∙ known in cc)

held_none : (contest : Contest) (stages : History) (c : ℕ) → IsContest contest → 1 ≤ c → list_any (nat_eq c) contest.candidates ≡ false → held contest stages c ≡ 0
held_none contest stages c fair some other =
    sum-of contest.candidates contest.papers fair.for_candidates (λ p. value_with c (place contest stages p)) (λ p. 0)
    (λ p of. worth_other contest.candidates c (place contest stages p) some other (holder-known contest stages p of))
    ∙ sum_by-none (λ p. 0) contest.papers (λ p. refl)

-- only a candidate's surplus is transferred
transfers_known : (contest : Contest) (stages : History) (action : Action) (c : ℕ) → IsSurplus contest stages action ⊎ IsExclusion contest stages action → transfers action c ≡ true →
    In c contest.candidates
transfers_known contest stages action c (inl on) h =
    ap (λ d. list_any (nat_eq d) contest.candidates) (sym (eqb-true on.c c (ap (λ a. transfers a c) (sym on.is) ∙ h))) ∙ on.is_candidate
transfers_known contest stages action c (inr on) h = absurd (never _ (ap (λ a. transfers a c) (sym on.is) ∙ h))
  where
    never : (b : Bool) → transfers (cond b (ExcludeLast on.c) (Exclude on.c)) c ≡ true → ⊥
    never true k = cc
    never false k = cc

known_choice : (contest : Contest) (s s' : Stage) (before : History) (c : ℕ) (b : Bool) → transfers s.action c ≡ b →
    IsSurplus contest (s' ∷ before) s.action ⊎ IsExclusion contest (s' ∷ before) s.action →
    (is_transferred (s' ∷ before) c ≡ true → In c contest.candidates) → (b || is_transferred (s' ∷ before) c) ≡ true → In c contest.candidates
known_choice contest s s' before c true e step old h = transfers_known contest (s' ∷ before) s.action c step e
known_choice contest s s' before c false e step old h = old h

transferred_known : (contest : Contest) (handed : History → Stage → Option ℕ) (stages : History) (c : ℕ) → IsRightBy contest handed stages → is_transferred stages c ≡ true → In c contest.candidates
transferred_known contest handed [] c right h = cc
transferred_known contest handed (s ∷ []) c right h =
    let none : false ≡ true = ap (λ a. transfers a c || false) (sym (step-first contest (handed [] s) s.action right.1.was_due)) ∙ h in cc
transferred_known contest handed (s ∷ s' ∷ before) c right h =
    known_choice contest s s' before c _ refl (step-is contest s' before (handed (s' ∷ before) s) s.action right.1.was_due) (transferred_known contest handed (s' ∷ before) c right.0) h

untransferred : (contest : Contest) (handed : History → Stage → Option ℕ) (stages : History) (c : ℕ) (b : Bool) → is_transferred stages c ≡ b → IsRightBy contest handed stages →
    list_any (nat_eq c) contest.candidates ≡ false → b ≡ false
untransferred contest handed stages c true gone right other = let found : In c contest.candidates = transferred_known contest handed stages c right gone in cc
untransferred contest handed stages c false gone right other = refl

pub others-voteless : (contest : Contest) (handed : History → Stage → Option ℕ) (stages : History) → IsContest contest → IsRightBy contest handed stages → OnlyCandidatesHaveVotes contest stages
others-voteless contest handed [] fair right = tt
others-voteless contest handed (s ∷ before) fair right = (
  λ c column other.
      told-votes contest s before c right.1.tells column
      ∙ votes-held contest (s ∷ before) c (untransferred contest handed (s ∷ before) c _ refl right other)
      ∙ held_none contest (s ∷ before) c fair column.0 other,
  others-voteless contest handed before fair right.0,
)
