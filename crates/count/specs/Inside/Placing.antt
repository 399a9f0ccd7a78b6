-- The holders of bundles of equal papers, their worth, and their transfer.
use Rattle.std.specs.Prelude.{◌≡◌, ℕ, ◌+◌, ◌-◌, ◌*◌, ◌≤◌, ◌==◌, ◌||◌, Bool, if◌then◌else◌, List, [], ◌∷◌, map, slice_index}
use Rattle.votes.specs.Units.{one_vote}
use Rattle.paper.specs.Columns.{max_candidates}
use Rattle.paper.specs.Standing.{from_first}
use Rattle.count.specs.Advance.{IsDue}
use Rattle.count.specs.Bundles.{Bundle, papers_of, AreBundles}
use Rattle.count.specs.Books.{contest_of}
use Rattle.count.specs.StoredCounts.{places_after}
use Rattle.count.specs.Law.Contest.{Contest, History, IsContest, numbers}
use Rattle.count.specs.Law.Count.{begun}
use Rattle.count.specs.Law.Elected.{transfers, is_transferred}
use Rattle.count.specs.Law.Figures.{votes_after, non_transferable_after, lost_after}
use Rattle.count.specs.Law.Places.{first_of}
use Rattle.count.specs.Law.Right.{IsRightByItself}
use Rattle.count.specs.Inside.Holdings.{passed_to, new_value, newest_lost}
use Rattle.count.specs.declared.parcel.TransferRule.{TransferRule}
use Rattle.count.specs.declared.placed.Placed.{Placed}
use Rattle.count.specs.declared.stages.Action.{Action}
use Rattle.count.specs.declared.stages.Action.TheVariants.{First, Surplus, Exclude, ExcludeLast}
use Rattle.count.specs.declared.stages.Stage.{Stage}
use Rattle.count.specs.declared.terms.Terms.{Terms}

-- the contest with the given terms and the papers that the bundles represent
abbrev pub contest_on : Terms → List Bundle → Contest
contest_on terms bundles = contest_of terms (papers_of bundles)

-- the invariant of a bundle book: each bundle is at the place that the law assigns to its papers
pub record IsBundled (contest : Contest) (history : History) (bundles : List Bundle) (places : List Placed) : Type 0 where
  pub fair : IsContest contest
  pub right : IsRightByItself contest history
  pub bundles_are : AreBundles bundles
  pub papers_are : contest.papers ≡ papers_of bundles
  pub places_are : places ≡ places_after contest history bundles

-- an action that is due in a bundle book
pub record IsDueInBook (contest : Contest) (history : History) (bundles : List Bundle) (places : List Placed) (action : Action) : Type 0 where
  pub book : IsBundled contest history bundles places
  pub due : IsDue contest history action

-- the holder is a possible candidate number or 0, and the value is at most one vote
abbrev pub IsSound : Placed → Type 0
IsSound at = (at.holder ≤ max_candidates) × (at.value ≤ one_vote)

-- the worth of a paper, and its worth to a holder
abbrev pub value_of : Placed → ℕ
value_of at = at.value

abbrev pub value_to : ℕ → Placed → ℕ
value_to h at = if at.holder == h then at.value else 0

-- the sum of a function of places over bundles: for each bundle the value for one paper, times the number of its papers
abbrev pub worth_placed : (Placed → ℕ) → List Placed → List Bundle → ℕ
worth_placed f [] bundles = 0
worth_placed f (at ∷ places) [] = 0
worth_placed f (at ∷ places) (b ∷ bundles) = b.1 * f at + worth_placed f places bundles

-- the place of a paper before the first stage
abbrev pub nowhere : Placed
nowhere = record { holder = 0; value = 0 }

-- the place of a paper credited to its first preference, as one vote
abbrev pub first_place : List ℕ → Placed
first_place paper = record { holder = first_of paper; value = one_vote }

-- the places of bundles when each is credited to its first preference
abbrev pub first_places : List Bundle → List Placed
first_places bundles = map (λ (b : Bundle). first_place b.0) bundles

-- the place of a paper after c's papers are passed on: if c holds it, its next available preference, at the value that the rule computes from its current value; otherwise
-- unchanged
abbrev pub passed_at : (ℕ → Bool) → TransferRule → ℕ → List ℕ → Placed → Placed
passed_at continues rule c paper at =
    if at.holder == c then record { holder = first_of (passed_to continues (from_first (λ d. d == c) paper)); value = new_value rule at.value } else at

-- the places of bundles after c's papers are passed on; those that c doesn't hold stay
abbrev pub passed_places : (ℕ → Bool) → TransferRule → ℕ → List Placed → List Bundle → List Placed
passed_places continues rule c [] bundles = []
passed_places continues rule c (at ∷ places) [] = []
passed_places continues rule c (at ∷ places) (b ∷ bundles) = passed_at continues rule c b.0 at ∷ passed_places continues rule c places bundles

-- the votes of c, given the worth of each holder's papers: exactly the quota once the surplus is transferred
abbrev pub votes_from : ℕ → History → Action → List ℕ → ℕ → ℕ
votes_from quota stages action sums c = if transfers action c || is_transferred stages c then quota else slice_index sums c

-- the loss by fractions: on a surplus, the earlier worth of all papers, minus their present worth and the quota that stays
abbrev pub lost_from : ℕ → History → Action → ℕ → ℕ → ℕ
lost_from quota stages First old new = newest_lost stages
lost_from quota stages (Surplus c) old new = newest_lost stages + (old - new - quota)
lost_from quota stages (Exclude c) old new = newest_lost stages
lost_from quota stages (ExcludeLast c) old new = newest_lost stages

-- the stage of an action with its figures
pub record IsFigured (contest : Contest) (before : History) (action : Action) (s : Stage) : Type 0 where
  pub of_action : s.action ≡ action
  pub votes_are : s.votes ≡ map (votes_after contest (begun action [] ∷ before)) numbers
  pub non_transferable_is : s.non_transferable ≡ non_transferable_after contest (begun action [] ∷ before)
  pub lost_is : s.lost ≡ lost_after contest (begun action [] ∷ before)
