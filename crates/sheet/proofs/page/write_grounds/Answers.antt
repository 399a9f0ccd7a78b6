-- Proof that `write_grounds` meets its contract.
use Rattle.sheet.proofs.Writing.{Writes-then, Writes-failed, Writes-front}
use Rattle.sheet.proofs.page.write_grounds.Goals as goal

pub returns-in_err-write_chart_part : goal.returns-in_err-write_chart_part
returns-in_err-write_chart_part g c =
    let r = c.from_residual.result in
    let failure = c.from_residual.ensures.0 in
    rw c.in-Some.is (Writes-front _ r failure (Writes-front _ r failure (Writes-front _ r failure (Writes-front _ r failure (Writes-front _ r failure
    (Writes-failed r failure c.in_err-write_chart_part.ensures))))))

pub returns-in_err-write_papers_table : goal.returns-in_err-write_papers_table
returns-in_err-write_papers_table g c =
    let r = c.from_residual-in_err-write_papers_table.result in
    let failure = c.from_residual-in_err-write_papers_table.ensures.0 in
    rw c.in-Some.is (Writes-front _ r failure (Writes-front _ r failure (Writes-front _ r failure (Writes-front _ r failure (Writes-failed r failure
    (Writes-then _ c.in_ok-write_chart_part.ensures c.in_err-write_papers_table.ensures))))))

pub returns-in_err-write_ties : goal.returns-in_err-write_ties
returns-in_err-write_ties g c =
    let r = c.from_residual-in_err-write_ties.result in
    let failure = c.from_residual-in_err-write_ties.ensures.0 in
    rw c.in-Some.is (Writes-front _ r failure (Writes-front _ r failure (Writes-front _ r failure (Writes-failed r failure
    (Writes-then _ (Writes-then _ c.in_ok-write_chart_part.ensures c.in_ok-write_papers_table.ensures) c.in_err-write_ties.ensures)))))

pub returns-in_err-write_lots : goal.returns-in_err-write_lots
returns-in_err-write_lots g c =
    let r = c.from_residual-in_err-write_lots.result in
    let failure = c.from_residual-in_err-write_lots.ensures.0 in
    rw c.in-Some.is (Writes-front _ r failure (Writes-front _ r failure (Writes-failed r failure (Writes-then _ (Writes-then _
    (Writes-then _ c.in_ok-write_chart_part.ensures c.in_ok-write_papers_table.ensures) c.in_ok-write_ties.ensures) c.in_err-write_lots.ensures))))

pub returns-in_err-write_surpluses : goal.returns-in_err-write_surpluses
returns-in_err-write_surpluses g c =
    let r = c.from_residual-in_err-write_surpluses.result in
    let failure = c.from_residual-in_err-write_surpluses.ensures.0 in
    rw c.in-Some.is (Writes-front _ r failure (Writes-failed r failure (Writes-then _ (Writes-then _ (Writes-then _ (Writes-then _ c.in_ok-write_chart_part.ensures
    c.in_ok-write_papers_table.ensures) c.in_ok-write_ties.ensures) c.in_ok-write_lots.ensures) c.in_err-write_surpluses.ensures)))

pub returns : goal.returns
returns g c =
    rw c.in-Some.is (Writes-then _ (Writes-then _ (Writes-then _ (Writes-then _ (Writes-then _ c.in_ok-write_chart_part.ensures c.in_ok-write_papers_table.ensures)
    c.in_ok-write_ties.ensures) c.in_ok-write_lots.ensures) c.in_ok-write_surpluses.ensures) c.write_stages_part.ensures)
