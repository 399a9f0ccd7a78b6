-- Proof that `write_papers` meets its contract.
use Rattle.sheet.proofs.Writing.{Writes-then, Writes-failed, Writes-front}
use Rattle.sheet.proofs.ballots.write_papers.Goals as goal

pub returns-in_err-write_size_line : goal.returns-in_err-write_size_line
returns-in_err-write_size_line g c =
    let r = c.from_residual.result in
    let failure = c.from_residual.ensures.0 in
    Writes-front _ r failure (Writes-front _ r failure (Writes-front _ r failure (Writes-failed r failure c.in_err-write_size_line.ensures)))

pub returns-in_err-write_withdrawn_line : goal.returns-in_err-write_withdrawn_line
returns-in_err-write_withdrawn_line g c =
    let r = c.from_residual-in_err-write_withdrawn_line.result in
    let failure = c.from_residual-in_err-write_withdrawn_line.ensures.0 in
    Writes-front _ r failure (Writes-front _ r failure (Writes-failed r failure (Writes-then _ c.in_ok-write_size_line.ensures c.in_err-write_withdrawn_line.ensures)))

pub returns-in_err-write_bundle_lines : goal.returns-in_err-write_bundle_lines
returns-in_err-write_bundle_lines g c =
    let r = c.from_residual-in_err-write_bundle_lines.result in
    let failure = c.from_residual-in_err-write_bundle_lines.ensures.0 in
    Writes-front _ r failure (Writes-failed r failure (Writes-then _ (Writes-then _ c.in_ok-write_size_line.ensures c.in_ok-write_withdrawn_line.ensures) c.in_err-write_bundle_lines.ensures))

pub returns : goal.returns
returns g c = Writes-then _ (Writes-then _ (Writes-then _ c.in_ok-write_size_line.ensures c.in_ok-write_withdrawn_line.ensures) c.in_ok-write_bundle_lines.ensures) c.write_line.ensures
