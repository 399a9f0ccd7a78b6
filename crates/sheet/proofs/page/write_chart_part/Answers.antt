-- Proof that `write_chart_part` meets its contract.
use Rattle.std.proofs.Common.{◌≡◌, ◌==◌, true, false, length, sym, ◌∙◌}
use Rattle.sheet.proofs.Writing.{Writes-none}
use Rattle.sheet.proofs.page.write_chart_part.Goals as goal

pub returns-then-is_empty : goal.returns-then-is_empty
returns-then-is_empty g c =
    let e : (length c.args.stages.now == 0) ≡ true = sym c.is_empty.ensures ∙ c.if-is_empty.true in
    rw e (Writes-none _ _)

pub returns : goal.returns
returns g c =
    let e : (length c.args.stages.now == 0) ≡ false = sym c.is_empty.ensures ∙ c.if-is_empty.false in
    rw e (rw c.scale_of.ensures at c.write_chart.ensures)
