-- Correct lists of stages, and the whole count.
use Rattle.std.specs.Prelude.{◌≡◌, ℕ, ◌+◌, ◌-◌, ◌≤◌, ◌⊎◌, not, List, [], ◌∷◌, map, drop, length, Option, Some, None, ⊤}
use Rattle.std.specs.List.{filter}
use Rattle.std.specs.List.Sorted.{IsPermutation}
use Rattle.count.specs.Law.Contest.{Contest, History, numbers}
use Rattle.count.specs.Law.Elected.{elected_after, is_elected}
use Rattle.count.specs.Law.Figures.{votes_after, non_transferable_after, lost_after}
use Rattle.count.specs.Law.Due.{drawn, due_after, lot_for, next_action}
use Rattle.count.specs.declared.stages.Stage.{Stage}
use Rattle.count.specs.declared.stages.Action.{Action}
use Rattle.count.specs.declared.stages.Action.TheVariants.{First, Surplus, Exclude, ExcludeLast}

-- a stage that follows others records each candidate's votes, the newly elected candidates, and the two running totals
pub record Tells (contest : Contest) (before : History) (s : Stage) : Type 0 where
  pub votes_told : s.votes ≡ map (votes_after contest (s ∷ before)) numbers
  pub elected_told : s.elected ≡ filter (λ c. not (is_elected contest before c)) (elected_after contest (s ∷ before))
  pub non_transferable_told : s.non_transferable ≡ non_transferable_after contest (s ∷ before)
  pub lost_told : s.lost ≡ lost_after contest (s ∷ before)

-- a stage is next, for the given lot, if its action was due and it records what it should
pub record IsNext (contest : Contest) (before : History) (lot : Option ℕ) (s : Stage) : Type 0 where
  pub was_due : drawn contest before lot (due_after contest before) ≡ Some s.action
  pub tells : Tells contest before s

-- a history is correct if each stage was next after the earlier ones, for the given lots
abbrev pub IsRightBy : Contest → (History → Stage → Option ℕ) → History → Type 0
IsRightBy contest handed [] = ⊤
IsRightBy contest handed (s ∷ before) = IsRightBy contest handed before × IsNext contest before (handed before s) s

-- a history is correct for the recorded lots, which are pairs of a stage and a candidate
abbrev pub IsRight : Contest → List (ℕ × ℕ) → History → Type 0
IsRight contest lots stages = IsRightBy contest (λ before s. lot_for lots (length before + 1)) stages

-- a history is correct for some recorded lots
pub record IsRightForSome (contest : Contest) (stages : History) : Type 0 where
  pub lots : List (ℕ × ℕ)
  pub right : IsRight contest lots stages

-- the candidate of an action, as a lot would name one
abbrev pub candidate_of : Action → Option ℕ
candidate_of First = None
candidate_of (Surplus c) = Some c
candidate_of (Exclude c) = Some c
candidate_of (ExcludeLast c) = Some c

-- a history is correct for the lots that its own actions name
abbrev pub IsRightByItself : Contest → History → Type 0
IsRightByItself contest stages = IsRightBy contest (λ before s. candidate_of s.action) stages

-- a history is the count if it is correct and no action is next: the count is finished or is waiting for a lot
abbrev pub IsCount : Contest → List (ℕ × ℕ) → History → Type 0
IsCount contest lots stages = IsRight contest lots stages × (next_action contest lots stages ≡ None)

-- the same contest with its papers in another order
abbrev pub reordered : Contest → List (List ℕ) → Contest
reordered contest papers = record { candidates = contest.candidates; seats = contest.seats; quota = contest.quota; papers = papers }

-- the stages of one history are the first stages of another
pub record IsBeginning (stages whole : History) : Type 0 where
  pub within : length stages ≤ length whole
  pub is : drop (length whole - length stages) whole ≡ stages

-- each history that is correct for the given lots and the same papers, in any order, is a prefix of this one
abbrev pub BeginsEachRight : Contest → List (ℕ × ℕ) → History → Type 0
BeginsEachRight contest lots whole =
    (papers : List (List ℕ)) (stages : History) → IsPermutation contest.papers papers → IsRight (reordered contest papers) lots stages → IsBeginning stages whole

-- each count for the given lots and the same papers, in any order, equals this one
abbrev pub EqualsEachCount : Contest → List (ℕ × ℕ) → History → Type 0
EqualsEachCount contest lots whole =
    (papers : List (List ℕ)) (stages : History) → IsPermutation contest.papers papers → IsCount (reordered contest papers) lots stages → stages ≡ whole

-- the whole count for the recorded lots: it is complete, every correct history is a prefix of it, and it is the only count
pub record IsWholeCount (contest : Contest) (lots : List (ℕ × ℕ)) (whole : History) : Type 0 where
  pub ended : IsCount contest lots whole
  pub begins_each : BeginsEachRight contest lots whole
  pub equals_each : EqualsEachCount contest lots whole

-- of two histories that are correct for the given lots and the same papers, in any order, one is a prefix of the other
abbrev pub OneBeginsOther : Contest → List (ℕ × ℕ) → Type 0
OneBeginsOther contest lots =
    (papers : List (List ℕ)) (one other : History) → IsPermutation contest.papers papers → IsRight contest lots one → IsRight (reordered contest papers) lots other →
    IsBeginning one other ⊎ IsBeginning other one
