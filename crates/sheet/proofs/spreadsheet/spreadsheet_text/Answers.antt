-- Proof that `spreadsheet_text` meets its contract.
use Rattle.std.specs.Prelude.{codes, map}
use Rattle.sheet.specs.declared.spreadsheet.Line.TheVariants.{NonTransferable, Lost}
use Rattle.sheet.specs.Entries.{shown}
use Rattle.sheet.specs.Spreadsheet.{head_row, candidate_row, sum_row}
use Rattle.sheet.proofs.Rows.{rows_whole}
use Rattle.sheet.proofs.spreadsheet.spreadsheet_text.Goals as goal

pub returns : goal.returns
returns c =
    let stages = c.args.stages.now in
    rows_whole (head_row stages) (sum_row stages NonTransferable (codes "non-transferable")) (sum_row stages Lost (codes "lost by fractions"))
    (map (candidate_row stages) (shown c.args.ward.now).candidates) _ _ _ _ _
    c.new-text.ensures.bytes (rw (c.deref.ensures.value, c.in_ok-head_row.ensures) at c.in_ok-push_row.ensures) c.in_ok-push_candidate_rows.ensures
    (rw (c.deref-2.ensures.value, c.in_ok-non_transferable.ensures) at c.in_ok-push_row-2.ensures) (rw (c.deref-3.ensures.value, c.in_ok-lost.ensures) at c.in_ok-push_row-3.ensures)
