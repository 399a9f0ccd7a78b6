-- Proof that `write_ballots` meets its contract.
use Rattle.sheet.proofs.Writing.{Writes-then, Writes-failed, Writes-front}
use Rattle.sheet.proofs.ballots.write_ballots.Goals as goal

pub returns-in_err-write_papers : goal.returns-in_err-write_papers
returns-in_err-write_papers g c =
    let r = c.from_residual.result in
    let failure = c.from_residual.ensures.0 in
    Writes-front _ r failure (Writes-front _ r failure (Writes-failed r failure c.in_err-write_papers.ensures))

pub returns-in_err-write_name_lines : goal.returns-in_err-write_name_lines
returns-in_err-write_name_lines g c =
    let r = c.from_residual-in_err-write_name_lines.result in
    let failure = c.from_residual-in_err-write_name_lines.ensures.0 in
    Writes-front _ r failure (Writes-failed r failure (Writes-then _ c.in_ok-write_papers.ensures c.in_err-write_name_lines.ensures))

pub returns : goal.returns
returns g c = Writes-then _ (Writes-then _ c.in_ok-write_papers.ensures c.in_ok-write_name_lines.ensures) c.write_comments.ensures
