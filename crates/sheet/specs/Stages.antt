-- The lines of a stage.
use Rattle.std.specs.Prelude.{ℕ, Bool, if◌then◌else◌, nat_eq, List, [], ◌∷◌, ◌++◌, codes, decimal}
use Rattle.std.specs.List.{list_any}
use Rattle.count.specs.Actions.{action_text}
use Rattle.count.specs.Law.Contest.{votes_at}
use Rattle.count.specs.Law.Elected.{excludes}
use Rattle.count.specs.declared.stages.Stage.{Stage}
use Rattle.count.specs.declared.stages.Action.{Action}
use Rattle.sheet.specs.Lines.{line, number_column, value_column}
use Rattle.sheet.specs.declared.stage.Fate.{Fate}
use Rattle.sheet.specs.declared.stage.Fate.TheVariants.{NewlyElected, Elected, NewlyExcluded, Excluded, Continuing}

-- `Stage 1: first preferences`, `Stage 2: surplus of 1`, `Stage 3: exclusion of 2, last vacancies`
abbrev pub heading : ℕ → Action → List ℕ
heading k action = line (codes "Stage " ∷ decimal k ∷ codes ": " ∷ action_text action ∷ [])

-- whether a candidate is newly elected at one of the given stages
abbrev pub is_elected_at : List Stage → ℕ → Bool
is_elected_at stages c = list_any (λ s. list_any (nat_eq c) s.elected) stages

-- whether a candidate is excluded at one of the given stages
abbrev pub is_excluded_at : List Stage → ℕ → Bool
is_excluded_at stages c = list_any (λ s. excludes s.action c) stages

-- the standing of a candidate at a stage, given the stages before it
abbrev pub fate_at : List Stage → Stage → ℕ → Fate
fate_at earlier stage c =
    if is_elected_at (stage ∷ []) c then NewlyElected else (
    if is_elected_at earlier c then Elected else (
    if is_excluded_at (stage ∷ []) c then NewlyExcluded else (
    if is_excluded_at earlier c then Excluded else Continuing)))

-- a candidate's letter: E elected at this stage, e elected at an earlier stage, x excluded at this or an earlier stage, - otherwise
abbrev pub letter : Fate → List ℕ
letter NewlyElected = codes "E"
letter Elected = codes "e"
letter NewlyExcluded = codes "x"
letter Excluded = codes "x"
letter Continuing = codes "-"

-- ` 1       4.00000 e Ann`
abbrev pub candidate_line : List Stage → Stage → ℕ → List ℕ → List ℕ
candidate_line earlier stage c name =
    line (number_column c ∷ codes " " ∷ value_column (votes_at stage c) ∷ codes " " ∷ letter (fate_at earlier stage c) ∷ codes " " ∷ name ∷ [])

-- `         0.00002 lost by fractions`: a running total, with its label
abbrev pub sum_line : ℕ → List ℕ → List ℕ
sum_line units what = line (codes "   " ∷ value_column units ∷ codes " " ∷ what ∷ [])

-- the running totals of a stage
abbrev pub sum_lines : Stage → List ℕ
sum_lines stage = sum_line stage.non_transferable (codes "non-transferable") ++ sum_line stage.lost (codes "lost by fractions")
