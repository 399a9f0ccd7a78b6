-- The cells of a stage in a table on a page.
use Rattle.std.specs.Prelude.{ℕ, ◌+◌, ◌-◌, ◌==◌, nat_lt, if◌then◌else◌, List, [], ◌∷◌, ◌++◌, length, take, drop, slice_get, codes, decimal, Option, Some, None}
use Rattle.votes.specs.Text.{votes_text}
use Rattle.count.specs.Law.Contest.{votes_at}
use Rattle.count.specs.declared.stages.Stage.{Stage}
use Rattle.count.specs.declared.stages.Action.{Action}
use Rattle.count.specs.declared.stages.Action.TheVariants.{First, Surplus, Exclude, ExcludeLast}
use Rattle.sheet.specs.Names.{name_at, name_or_withdrawn}
use Rattle.sheet.specs.Entries.{shown}
use Rattle.sheet.specs.Lines.{line, action_named}
use Rattle.sheet.specs.Stages.{fate_at}
use Rattle.sheet.specs.declared.stage.Fate.{Fate}
use Rattle.sheet.specs.declared.stage.Fate.TheVariants.{NewlyElected, Elected, NewlyExcluded, Excluded, Continuing}
use Rattle.sheet.specs.declared.cells.Cell.{Cell}
use Rattle.sheet.specs.declared.cells.Cell.TheVariants.{Head, Candidate, NonTransferable, Lost}

-- the name of the candidate that an action concerns; empty for the first stage
abbrev pub name_in : List (ℕ × List ℕ) → Action → List ℕ
name_in candidates First = []
name_in candidates (Surplus c) = name_or_withdrawn (name_at candidates c)
name_in candidates (Exclude c) = name_or_withdrawn (name_at candidates c)
name_in candidates (ExcludeLast c) = name_or_withdrawn (name_at candidates c)

-- the head of a column: the stage and its action, with the candidate that the action concerns
abbrev pub column_head : List (ℕ × List ℕ) → ℕ → Action → List ℕ
column_head candidates k action =
    line (codes "<th scope=\"col\">Stage " ∷ decimal k ∷ codes "<br>" ∷ action_named action (name_in candidates action) ∷ codes "</th>" ∷ [])

-- the head of a stage, given the stages before it
abbrev pub head_cell : List (ℕ × List ℕ) → List Stage → Stage → List ℕ
head_cell candidates earlier stage = column_head candidates (length earlier + 1) stage.action

-- a candidate's votes at a stage, or other votes if there is no stage
abbrev pub votes_or : ℕ → Option Stage → ℕ → ℕ
votes_or others None c = others
votes_or others (Some stage) c = votes_at stage c

-- a candidate's votes before a stage; for the first stage, before which nothing has moved, the votes at that stage
abbrev pub votes_before : List Stage → Stage → ℕ → ℕ
votes_before earlier stage c = votes_or (votes_at stage c) (slice_get earlier (length earlier - 1)) c

-- the standing of a candidate at a stage: in bold if it is new at this stage, in small print if it is unchanged
abbrev pub standing : Fate → List ℕ
standing NewlyElected = codes " <b>elected</b>"
standing Elected = codes " <small>elected</small>"
standing NewlyExcluded = codes " <b>excluded</b>"
standing Excluded = codes " <small>excluded</small>"
standing Continuing = []

-- the sign of a change
abbrev pub sign : ℕ → ℕ → List ℕ
sign before now = if nat_lt before now then codes " <i>+" else codes " <i>&minus;"

-- the absolute difference between two values
abbrev pub apart : ℕ → ℕ → ℕ
apart before now = if nat_lt before now then now - before else before - now

-- a candidate's votes, the change if there is one, and the standing
abbrev pub votes_cell : ℕ → ℕ → List ℕ → List ℕ
votes_cell before now stands =
    if now == before then line (codes "<td>" ∷ votes_text now ∷ stands ∷ codes "</td>" ∷ [])
    else line (codes "<td>" ∷ votes_text now ∷ sign before now ∷ votes_text (apart before now) ∷ codes "</i>" ∷ stands ∷ codes "</td>" ∷ [])

-- a running total
abbrev pub sum_cell : ℕ → List ℕ
sum_cell units = line (codes "<td>" ∷ votes_text units ∷ codes "</td>" ∷ [])

-- the content of a cell for a stage, given the stages before it
abbrev pub cell_text : Cell → List Stage → Stage → List ℕ
cell_text (Head ward) earlier stage = head_cell (shown ward.now).candidates earlier stage
cell_text (Candidate c) earlier stage = votes_cell (votes_before earlier stage c) (votes_at stage c) (standing (fate_at earlier stage c))
cell_text NonTransferable earlier stage = sum_cell stage.non_transferable
cell_text Lost earlier stage = sum_cell stage.lost

-- a function applied to each of the given stages and those before it, in order
abbrev pub each_after : {X : Type 0} → (List Stage → Stage → List X) → List Stage → List Stage → List X
each_after text earlier [] = []
each_after text earlier (stage ∷ later) = text earlier stage ++ each_after text (earlier ++ stage ∷ []) later

-- the texts of the stages, starting at a position
abbrev pub from_place : (List Stage → Stage → List ℕ) → ℕ → List Stage → List ℕ
from_place text place stages = each_after text (take place stages) (drop place stages)

-- a row: its beginning, one cell per stage starting at a position, and its end
abbrev pub row : List (List ℕ) → (List Stage → Stage → List ℕ) → List ℕ → ℕ → List Stage → List ℕ
row opening cell end place stages = line opening ++ from_place cell place stages ++ line (end ∷ [])
