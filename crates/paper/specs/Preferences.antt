-- The preferences of a ballot paper, and the reason for its rejection.
use Rattle.std.specs.Prelude.{◌≡◌, ℕ, suc, zero, ◌+◌, ◌≤◌, List, [], ◌∷◌, length, take, Option, Some, None, ⊤}
use Rattle.paper.specs.Columns.{max_candidates}
use Rattle.paper.specs.Marking.{Marking, marked_with}
use Rattle.paper.specs.declared.validity.Rejection.{Rejection}
use Rattle.paper.specs.declared.validity.Rejection.TheVariants.{NoFirstPreference, SeveralFirstPreferences}

-- counting up from the given number, each candidate in a list is the only one with the next number
abbrev pub StandAlone : ℕ → Marking → List ℕ → Type 0
StandAlone n marking [] = ⊤
StandAlone n marking (c ∷ cs) = (marked_with n marking ≡ c ∷ []) × StandAlone (n + 1) marking cs

-- the preferences of a paper: the longest list such that each of the numbers 1, 2, 3, .. up to its length appears next to
-- exactly one candidate
pub record IsPreferences (marking : Marking) (prefs : List ℕ) : Type 0 where
  pub alone : StandAlone 1 marking prefs
  pub longest : (others : List ℕ) → StandAlone 1 marking others → length others ≤ length prefs

-- if exactly one candidate has a number: that candidate, followed by the later preferences
abbrev pub if_alone : List ℕ → List ℕ → List ℕ
if_alone [] behind = []
if_alone (c ∷ []) behind = c ∷ behind
if_alone (c ∷ d ∷ cs) behind = []

-- the preferences, counting up from the given number, up to the given maximum
unfoldable pub preferences_from : ℕ → ℕ → Marking → List ℕ
preferences_from zero n marking = []
preferences_from (suc more) n marking = if_alone (marked_with n marking) (preferences_from more (n + 1) marking)

-- the preferences, as computed
abbrev pub preferences : Marking → List ℕ
preferences marking = preferences_from max_candidates 1 marking

-- the reason for rejecting a paper, given the candidates who have the number 1
abbrev pub rejection_by : List ℕ → Option Rejection
rejection_by [] = Some NoFirstPreference
rejection_by (c ∷ []) = None
rejection_by (c ∷ d ∷ cs) = Some SeveralFirstPreferences

-- the reason, if any, for rejecting a paper because of its marks
abbrev pub rejection_of : Marking → Option Rejection
rejection_of marking = rejection_by (marked_with 1 marking)

-- a lower mark never depends on a higher one: two papers that agree on the numbers up to n have the same preferences up
-- to n
abbrev pub LowerMarksDecide : Marking → Type 0
LowerMarksDecide marking =
    (others : Marking) (n : ℕ) → ((k : ℕ) → 1 ≤ k → k ≤ n → marked_with k others ≡ marked_with k marking) → take n (preferences others) ≡ take n (preferences marking)
