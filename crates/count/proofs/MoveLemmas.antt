-- What can be assumed about an action that is due.
use Rattle.std.proofs.Common.{◌≡◌, ℕ, ◌<◌, ◌≤◌, ◌⊎◌, inl, inr, Bool, true, false, cond, nat_eq, List, [], ◌∷◌, sym, ap, ◌∙◌, arith, subst}
use Rattle.std.specs.List.{list_any}
use Rattle.paper.specs.Columns.{IsColumn}
use Rattle.votes.specs.Units.{max_units}
use Rattle.count.specs.Law.Contest.{Contest, History, IsContest, In, newest_votes}
use Rattle.count.specs.Law.Right.{IsRightByItself, candidate_of}
use Rattle.count.specs.Advance.{IsDue}
use Rattle.count.specs.Books.{AreRankings}
use Rattle.count.specs.Inside.BookInvariants.{HoldPapers, IsBook}
use Rattle.count.specs.declared.parcel.Holding.{Holding}
use Rattle.count.specs.declared.stages.Action.{Action}
use Rattle.count.specs.declared.stages.Action.TheVariants.{First, Surplus, Exclude, ExcludeLast}
use Rattle.count.proofs.Law.ActionLemmas.{column-in}
use Rattle.count.proofs.Law.StepLemmas.{IsSurplus, IsExclusion, step-is, step-first, surplus-held}
use Rattle.count.proofs.Law.QuotaLemmas.{values-conserved}
use Rattle.count.proofs.Law.CandidateSums.{one-within}

-- the papers are in holdings, and are rankings
pub record IsUnderWay (contest : Contest) (stages : History) (holdings : List Holding) : Type 0 where
  pub hold : HoldPapers contest stages holdings
  pub rankings : AreRankings contest.papers

-- what can be assumed about a surplus that is due
pub record IsLawful (contest : Contest) (stages : History) (c : ℕ) : Type 0 where
  pub column : IsColumn c
  pub above : contest.quota < newest_votes stages c
  pub some : 0 < contest.quota
  pub few : newest_votes stages c ≤ max_units

number : Action → ℕ
number First = 0
number (Surplus d) = d
number (Exclude d) = d
number (ExcludeLast d) = d

-- an action is of at most one kind
surplus_of_one : (contest : Contest) (stages : History) (c : ℕ) → IsSurplus contest stages (Surplus c) ⊎ IsExclusion contest stages (Surplus c) →
    (In c contest.candidates) × (contest.quota < newest_votes stages c)
unfolding number
surplus_of_one contest stages c (inl on) =
    let same : on.c ≡ c = sym (ap number on.is) in
    (ap (λ d. list_any (nat_eq d) contest.candidates) (sym same) ∙ on.is_candidate, subst (λ d. contest.quota < newest_votes stages d) same on.above)
surplus_of_one contest stages c (inr on) = never _ on.is
  where
    never : (b : Bool) → Surplus c ≡ cond b (ExcludeLast on.c) (Exclude on.c) → (In c contest.candidates) × (contest.quota < newest_votes stages c)
    never true h = cc
    never false h = cc

quota_some : (contest : Contest) → IsContest contest → 0 < contest.quota
quota_some contest fair = omega (arith, fair.quota_is)

pub surplus-lawful : (contest : Contest) (stages : History) (c : ℕ) → IsContest contest → IsRightByItself contest stages → IsDue contest stages (Surplus c) → IsLawful contest stages c
surplus-lawful contest [] c fair right due = let e = step-first contest due.lot (Surplus c) due.is in cc
surplus-lawful contest (s ∷ before) c fair right due =
    let on = surplus_of_one contest (s ∷ before) c (step-is contest s before due.lot (Surplus c) due.is) in
    let column = column-in c contest.candidates fair.candidate_set on.0 in
    let own = surplus-held contest s before c right.1.tells column on.1 in
    let within = one-within contest (s ∷ before) c in
    let all = values-conserved contest (λ h t. candidate_of t.action) s before fair right in
    record { column = column; above = on.1; some = quota_some contest fair; few = omega (arith, own, within, all, fair.few_papers) }

-- only the first stage has no stage before it
pub under-way : (contest : Contest) (stages : History) (holdings : List Holding) (action : Action) → IsBook contest stages holdings → IsDue contest stages action → (action ≡ First → ⊥) →
    IsUnderWay contest stages holdings
under-way contest [] holdings action book due other = absurd (other (step-first contest due.lot action due.is))
under-way contest (s ∷ before) holdings action book due other = record { hold = book.held.0; rankings = book.held.1 }

not_first : (contest : Contest) (stages : History) → IsSurplus contest stages First ⊎ IsExclusion contest stages First → ⊥
not_first contest stages (inl on) = let e = on.is in cc
not_first contest stages (inr on) = never _ on.is
  where
    never : (b : Bool) → First ≡ cond b (ExcludeLast on.c) (Exclude on.c) → ⊥
    never true h = cc
    never false h = cc

-- the first stage has no stage before it, and there are no holdings then
pub first-alone : (contest : Contest) (stages : History) (holdings : List Holding) → IsBook contest stages holdings → IsDue contest stages First → holdings ≡ []
first-alone contest [] holdings book due = book.held
first-alone contest (s ∷ before) holdings book due = absurd (not_first contest (s ∷ before) (step-is contest s before due.lot First due.is))
