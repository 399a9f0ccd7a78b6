-- How the papers of a book match the places that the law assigns to them, and what is added to its stages.
use Rattle.std.specs.Prelude.{◌≡◌, ℕ, ◌+◌, ◌==◌, not, List, [], ◌∷◌, map}
use Rattle.std.specs.List.{filter, sum_by}
use Rattle.count.specs.Law.Contest.{Contest, History, IsContest, numbers}
use Rattle.paper.specs.Standing.{from_first}
use Rattle.count.specs.Law.Places.{Place, place}
use Rattle.count.specs.Law.Right.{IsRightByItself}
use Rattle.count.specs.Law.Elected.{is_elected, elected_after}
use Rattle.count.specs.Inside.Holdings.{total, kept_by, votes_with, worth_to, newest_non_transferable, lost_with}
use Rattle.count.specs.declared.parcel.Holding.{Holding}
use Rattle.count.specs.declared.stages.Action.{Action}
use Rattle.count.specs.declared.stages.Stage.{Stage}
use Rattle.count.specs.Books.{contest_of, AreRankings}
use Rattle.count.specs.declared.terms.Terms.{Terms}

-- the preferences of a paper, starting with the one for its holder
abbrev pub rest_at : List ℕ → Place → List ℕ
rest_at paper at = from_first (λ d. d == at.holder) paper

-- a function of holder, preferences and value, applied to a paper at its place
abbrev pub at_place : (ℕ → List ℕ → ℕ → ℕ) → List ℕ → Place → ℕ
at_place f paper at = f at.holder (rest_at paper at) at.value

-- the holdings match the law: any sum over the papers of a contest at their places equals the sum over the holdings
abbrev pub HoldPapers : Contest → History → List Holding → Type 0
HoldPapers contest stages holdings =
    (f : ℕ → List ℕ → ℕ → ℕ) → sum_by (λ paper. at_place f paper (place contest stages paper)) contest.papers ≡ total f holdings

-- the holdings match the law after an action: the papers are those that it moved and those that it left in place
abbrev pub IsMovedBy : Contest → History → Action → List Holding → List Holding → Type 0
IsMovedBy contest before action holdings moved =
    (f : ℕ → List ℕ → ℕ → ℕ) (s : Stage) → s.action ≡ action →
    sum_by (λ paper. at_place f paper (place contest (s ∷ before) paper)) contest.papers ≡ total f moved + total (kept_by f action) holdings

-- a stage with its newly elected candidates
abbrev pub with_newly_elected : Stage → List ℕ → Stage
with_newly_elected s newly = record { action = s.action; votes = s.votes; elected = newly; non_transferable = s.non_transferable; lost = s.lost }

-- a history with another stage, whose newly elected candidates are filled in
pub record IsAdded (terms : Terms) (old : History) (bare : Stage) (new : History) : Type 0 where
  pub newly : List ℕ
  pub one_more : new ≡ with_newly_elected bare newly ∷ old
  pub newly_is : newly ≡ filter (λ c. not (is_elected (contest_of terms []) old c)) (elected_after (contest_of terms []) (with_newly_elected bare newly ∷ old))

-- a history with another stage, computed from the papers that an action moved
pub record Records (terms : Terms) (old : History) (action : Action) (moved : List Holding) (new : History) : Type 0 where
  pub stage : Stage
  pub one_more : new ≡ stage ∷ old
  pub of_action : stage.action ≡ action
  pub votes_are : stage.votes ≡ map (votes_with terms.quota old action moved) numbers
  pub elected_are : stage.elected ≡ filter (λ c. not (is_elected (contest_of terms []) old c)) (elected_after (contest_of terms []) (stage ∷ old))
  pub non_transferable_is : stage.non_transferable ≡ newest_non_transferable old + worth_to 0 moved
  pub lost_is : stage.lost ≡ lost_with terms.quota old action moved

-- how the holdings of a book match its contest; before the first stage there are none
abbrev pub AreHeld : Contest → History → List Holding → Type 0
AreHeld contest [] holdings = holdings ≡ []
AreHeld contest (s ∷ before) holdings = HoldPapers contest (s ∷ before) holdings × AreRankings contest.papers

-- the invariant of a book and its holdings
pub record IsBook (contest : Contest) (history : History) (holdings : List Holding) : Type 0 where
  pub fair : IsContest contest
  pub right : IsRightByItself contest history
  pub held : AreHeld contest history holdings
