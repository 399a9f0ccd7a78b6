-- The tables of the stages, eight stages per table.
use Rattle.std.specs.Prelude.{ℕ, ◌+◌, ◌%◌, ◌==◌, if◌then◌else◌, List, [], ◌∷◌, ◌++◌, length, take, codes}
use Rattle.std.specs.List.{flat_map, range_with_len}
use Rattle.count.specs.declared.stages.Stage.{Stage}
use Rattle.sheet.specs.Lines.{span, named}
use Rattle.sheet.specs.Cells.{cell_text, head_cell, row}
use Rattle.sheet.specs.Entries.{SheetEntry}
use Rattle.sheet.specs.declared.cells.Cell.TheVariants.{Candidate, NonTransferable, Lost}

-- the column heads of a table, with its caption, in a region that can be focused and scrolled with the keyboard
abbrev pub head_row : SheetEntry → ℕ → List Stage → List ℕ
head_row ward place stages = row (
    codes "<div class=\"wide\" role=\"region\" tabindex=\"0\" aria-label=\"" ∷ span (place + 1) (length stages) ∷
    codes "\">\n<table class=\"stages\">\n<caption>" ∷ span (place + 1) (length stages) ∷
    codes "</caption>\n<thead>\n<tr><th scope=\"col\">Candidate</th>" ∷ []) (head_cell ward.candidates) (codes "</tr>\n</thead>\n<tbody>") place stages

-- a candidate's row
abbrev pub candidate_row : ℕ → List Stage → ℕ → List ℕ → List ℕ
candidate_row place stages c name =
    row (codes "<tr><th scope=\"row\">" ∷ named c name ∷ codes "</th>" ∷ []) (cell_text (Candidate c)) (codes "</tr>") place stages

-- the rows of all candidates
abbrev pub candidate_rows : SheetEntry → ℕ → List Stage → List ℕ
candidate_rows ward place stages = flat_map (λ candidate. candidate_row place stages candidate.0 candidate.1) ward.candidates

-- the rows of the running totals, and the end of the table
abbrev pub sum_rows : ℕ → List Stage → List ℕ
sum_rows place stages =
    row (codes "<tr class=\"sum\"><th scope=\"row\">non-transferable</th>" ∷ []) (cell_text NonTransferable) (codes "</tr>") place stages
    ++ row (codes "<tr class=\"sum\"><th scope=\"row\">lost by fractions</th>" ∷ []) (cell_text Lost) (codes "</tr>\n</tbody>\n</table>\n</div>") place stages

-- the table of the stages, starting at the given position
abbrev pub table : SheetEntry → ℕ → List Stage → List ℕ
table ward place stages = head_row ward place stages ++ candidate_rows ward place stages ++ sum_rows place stages

-- at each multiple of eight, the table of the next eight stages, or of those that remain
abbrev pub table_at : SheetEntry → List Stage → ℕ → List ℕ
table_at ward stages place = if place % 8 == 0 then table ward place (take (place + 8) stages) else []

-- the tables of all stages
abbrev pub tables : SheetEntry → List Stage → List ℕ
tables ward stages = flat_map (table_at ward stages) (range_with_len 0 (length stages))
