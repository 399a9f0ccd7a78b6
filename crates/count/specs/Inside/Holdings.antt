-- Papers in parcels, their worth, and the effect of passing them on.
use Rattle.std.specs.Prelude.{◌≡◌, ℕ, ◌+◌, ◌-◌, ◌<◌, ◌≤◌, ◌||◌, ◌==◌, Bool, true, false, if◌then◌else◌, List, [], ◌∷◌, drop, ⊤}
use Rattle.std.specs.Borrow.{Bor}
use Rattle.std.specs.List.{sum_by}
use Rattle.votes.specs.Units.{max_units, cut}
use Rattle.count.specs.Law.Contest.{History, newest_votes}
use Rattle.count.specs.Law.Elected.{transfers, is_transferred}
use Rattle.paper.specs.Columns.{max_candidates, IsColumn}
use Rattle.paper.specs.Standing.{from_first}
use Rattle.count.specs.Law.Places.{first_of}
use Rattle.count.specs.declared.parcel.Parcel.{Parcel}
use Rattle.count.specs.declared.parcel.Holding.{Holding}
use Rattle.count.specs.declared.parcel.TransferRule.{TransferRule}
use Rattle.count.specs.declared.parcel.TransferRule.TheVariants.{AsReceived, Share}
use Rattle.count.specs.declared.stages.Action.{Action}
use Rattle.count.specs.declared.stages.Action.TheVariants.{First, Surplus, Exclude, ExcludeLast}

-- the sum of a function of preferences and value over the given papers, all of one value
abbrev pub total_at : (List ℕ → ℕ → ℕ) → ℕ → List (Bor (List ℕ)) → ℕ
total_at f v papers = sum_by (λ rest. f rest.now v) papers

-- the sum of a function of preferences and value over the papers of the given parcels
abbrev pub total_of : (List ℕ → ℕ → ℕ) → List Parcel → ℕ
total_of f parcels = sum_by (λ parcel. total_at f parcel.value parcel.papers.items) parcels

-- the sum of a function of holder, preferences and value over the papers of the given holdings
abbrev pub total : (ℕ → List ℕ → ℕ → ℕ) → List Holding → ℕ
total f holdings = sum_by (λ holding. total_of (f holding.holder) holding.parcels.items) holdings

-- the number of holders: each possible candidate number, and 0 for no one
abbrev pub holder_count : ℕ
holder_count = max_candidates + 1

-- the holders of the holdings are n, n + 1, and so on
abbrev pub AreNumbered : ℕ → List Holding → Type 0
AreNumbered n [] = ⊤
AreNumbered n (holding ∷ holdings) = (holding.holder ≡ n) × AreNumbered (n + 1) holdings

-- the preferences that remain when a paper with the given preferences is passed on: those starting with the next continuing candidate after the first
abbrev pub passed_to : (ℕ → Bool) → List ℕ → List ℕ
passed_to continues rest = from_first continues (drop 1 rest)

-- only candidate numbers continue
abbrev pub OnlyColumns : (ℕ → Bool) → Type 0
OnlyColumns continues = (c : ℕ) → continues c ≡ true → IsColumn c

-- a surplus is part of the votes credited, which are at most one vote for each of the maximum number of papers
abbrev pub IsTransferRule : TransferRule → Type 0
IsTransferRule AsReceived = Unit {0}
IsTransferRule (Share surplus credited) = (0 < surplus) × (surplus < credited) × (credited ≤ max_units)

-- Transfer values: the value that a rule computes from the one at which a paper was received
abbrev pub new_value : TransferRule → ℕ → ℕ
new_value AsReceived v = v
new_value (Share surplus credited) v = cut surplus v credited

-- a function applied to a paper after it is passed on
abbrev pub at_passed : (ℕ → List ℕ → ℕ → ℕ) → (ℕ → Bool) → TransferRule → List ℕ → ℕ → ℕ
at_passed f continues rule rest v = f (first_of (passed_to continues rest)) (passed_to continues rest) (new_value rule v)

-- the sum of a function over the papers of c after they are passed on
abbrev pub total_passed : (ℕ → List ℕ → ℕ → ℕ) → ℕ → (ℕ → Bool) → TransferRule → List Holding → ℕ
total_passed f c continues rule holdings = total (λ h rest v. if h == c then at_passed f continues rule rest v else 0) holdings

-- whether an action passes on the papers of c
abbrev pub passes_on : Action → ℕ → Bool
passes_on First c = false
passes_on (Surplus d) c = d == c
passes_on (Exclude d) c = d == c
passes_on (ExcludeLast d) c = false

-- a function restricted to the papers that an action doesn't move
abbrev pub kept_by : (ℕ → List ℕ → ℕ → ℕ) → Action → ℕ → List ℕ → ℕ → ℕ
kept_by f action h rest v = if passes_on action h then 0 else f h rest v

-- the worth of the papers that one holder has in the given holdings
abbrev pub worth_to : ℕ → List Holding → ℕ
worth_to holder holdings = total (λ h rest v. if h == holder then v else 0) holdings

-- the total worth of the papers of the given holdings
abbrev pub worth : List Holding → ℕ
worth holdings = total (λ h rest v. v) holdings

-- the votes of c after an action has moved the given papers to new holders
abbrev pub votes_with : ℕ → History → Action → List Holding → ℕ → ℕ
votes_with quota stages action moved c =
    if transfers action c || is_transferred stages c
    then quota
    else worth_to c moved + (if passes_on action c then 0 else newest_votes stages c)

-- the non-transferable votes at the newest stage; none before the first
abbrev pub newest_non_transferable : History → ℕ
newest_non_transferable [] = 0
newest_non_transferable (s ∷ before) = s.non_transferable

-- the loss at the newest stage; nothing before the first
abbrev pub newest_lost : History → ℕ
newest_lost [] = 0
newest_lost (s ∷ before) = s.lost

-- the loss by fractions after an action has moved the given papers to new holders
abbrev pub lost_with : ℕ → History → Action → List Holding → ℕ
lost_with quota stages First moved = newest_lost stages
lost_with quota stages (Surplus c) moved = newest_lost stages + (newest_votes stages c - quota - worth moved)
lost_with quota stages (Exclude c) moved = newest_lost stages
lost_with quota stages (ExcludeLast c) moved = newest_lost stages

-- no figure exceeds one vote for each of the maximum number of papers
pub record AreSmall (stages : History) (moved : List Holding) : Type 0 where
  pub votes_small : (c : ℕ) → 1 ≤ c → c ≤ max_candidates → newest_votes stages c ≤ max_units
  pub non_transferable_small : newest_non_transferable stages ≤ max_units
  pub lost_small : newest_lost stages ≤ max_units
  pub moved_small : worth moved ≤ max_units
