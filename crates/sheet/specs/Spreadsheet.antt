-- The stages of a ward as a table for a spreadsheet (CSV): one row per candidate, and four columns per stage.
use Rattle.std.specs.Prelude.{ℕ, ◌+◌, ◌-◌, Bool, ◌||◌, ◌==◌, if◌then◌else◌, List, [], ◌∷◌, ◌++◌, length, map, slice_get, codes, decimal, Option, Some, None}
use Rattle.std.specs.List.{flat_map}
use Rattle.csv.specs.Writing.{default_writer, row_text}
use Rattle.csv.specs.declared.writer.QuoteStyle.TheVariants as style
use Rattle.csv.specs.declared.writer.WriterBuilder.{WriterBuilder}
use Rattle.votes.specs.Text.{votes_text}
use Rattle.count.specs.Actions.{action_text}
use Rattle.count.specs.Law.Contest.{votes_at}
use Rattle.count.specs.declared.stages.Stage.{Stage}
use Rattle.sheet.specs.declared.spreadsheet.Line.{Line}
use Rattle.sheet.specs.declared.spreadsheet.Line.TheVariants.{Candidate, NonTransferable, Lost}
use Rattle.sheet.specs.Cells.{each_after}
use Rattle.sheet.specs.Entries.{SheetEntry}
use Rattle.sheet.specs.Stages.{fate_at}
use Rattle.sheet.specs.declared.stage.Fate.{Fate}
use Rattle.sheet.specs.declared.stage.Fate.TheVariants.{NewlyElected, Elected, NewlyExcluded, Excluded, Continuing}

-- every cell is quoted, so that it remains one cell whatever character a spreadsheet treats as a separator
abbrev pub writer : WriterBuilder
writer = record default_writer { style = style.Always }

-- the first bytes of a cell that a spreadsheet reads as a formula: `=`, `+`, `-`, `@`, and the first byte of their full-width forms
abbrev pub begins_formula : ℕ → Bool
begins_formula byte = (byte == 61) || ((byte == 43) || ((byte == 45) || ((byte == 64) || (byte == 239))))

-- a name as a cell that isn't read as a formula: if necessary, an apostrophe precedes it
abbrev pub name_cell : List ℕ → List ℕ
name_cell [] = []
name_cell (byte ∷ rest) = if begins_formula byte then codes "'" ++ byte ∷ rest else byte ∷ rest

-- the column heads of the stage with the given number: `Stage 2: surplus of 1`, `Stage 2 gained`, `Stage 2 lost`, `Stage 2 standing`
abbrev pub heads_at : ℕ → Stage → List (List ℕ)
heads_at k stage =
    (codes "Stage " ++ (decimal k ++ (codes ": " ++ action_text stage.action))) ∷
    (codes "Stage " ++ (decimal k ++ codes " gained")) ∷
    (codes "Stage " ++ (decimal k ++ codes " lost")) ∷
    (codes "Stage " ++ (decimal k ++ codes " standing")) ∷ []

-- the column heads of a stage, given the stages before it
abbrev pub stage_heads : List Stage → Stage → List (List ℕ)
stage_heads earlier stage = heads_at (length earlier + 1) stage

-- the value of a line at a stage, in units
abbrev pub value_in : Line → Stage → ℕ
value_in (Candidate c) stage = votes_at stage c
value_in NonTransferable stage = stage.non_transferable
value_in Lost stage = stage.lost

-- the value of a line at the last of the given stages, or 0 before the first; the gains minus the losses of all stages up to a given one add up to the value at that stage
abbrev pub value_after : Line → Option Stage → ℕ
value_after line None = 0
value_after line (Some stage) = value_in line stage

abbrev pub value_before : Line → List Stage → ℕ
value_before line earlier = value_after line (slice_get earlier (length earlier - 1))

-- the standing of a candidate after a stage, in one word
abbrev pub standing_word : Fate → List ℕ
standing_word NewlyElected = codes "elected"
standing_word Elected = codes "elected"
standing_word NewlyExcluded = codes "excluded"
standing_word Excluded = codes "excluded"
standing_word Continuing = codes "continuing"

-- the standing in a line; empty for a running total
abbrev pub standing : Line → List Stage → Stage → List ℕ
standing (Candidate c) earlier stage = standing_word (fate_at earlier stage c)
standing NonTransferable earlier stage = []
standing Lost earlier stage = []

-- the cells of a line at a stage: its value, its gain, its loss, and its standing
abbrev pub stage_cells : Line → List Stage → Stage → List (List ℕ)
stage_cells line earlier stage =
    votes_text (value_in line stage) ∷
    votes_text (value_in line stage - value_before line earlier) ∷
    votes_text (value_before line earlier - value_in line stage) ∷
    standing line earlier stage ∷ []

-- the row with the column heads
abbrev pub head_row : List Stage → List (List ℕ)
head_row stages = codes "candidate" ∷ codes "name" ∷ each_after stage_heads [] stages

-- a row with a candidate's number, name, and cells
abbrev pub candidate_row : List Stage → (ℕ × List ℕ) → List (List ℕ)
candidate_row stages candidate = decimal candidate.0 ∷ name_cell candidate.1 ∷ each_after (stage_cells (Candidate candidate.0)) [] stages

-- the row of a running total
abbrev pub sum_row : List Stage → Line → List ℕ → List (List ℕ)
sum_row stages line what = [] ∷ what ∷ each_after (stage_cells line) [] stages

-- all rows, in order
abbrev pub rows : SheetEntry → List Stage → List (List (List ℕ))
rows ward stages =
    head_row stages ∷ map (candidate_row stages) ward.candidates ++
    sum_row stages NonTransferable (codes "non-transferable") ∷ sum_row stages Lost (codes "lost by fractions") ∷ []

-- the table
abbrev pub spreadsheet : SheetEntry → List Stage → List ℕ
spreadsheet ward stages = flat_map (row_text writer) (rows ward stages)
