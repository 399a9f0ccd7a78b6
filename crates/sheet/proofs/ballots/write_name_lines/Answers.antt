-- Proof that `write_name_lines` meets its contract.
use Rattle.sheet.proofs.Writing.{Writes-then, Writes-failed, Writes-front}
use Rattle.sheet.proofs.ballots.write_name_lines.Goals as goal

pub returns-in_err-write_candidate_names : goal.returns-in_err-write_candidate_names
returns-in_err-write_candidate_names g c = Writes-front _ c.from_residual.result c.from_residual.ensures.0
    (Writes-failed c.from_residual.result c.from_residual.ensures.0 c.in_err-write_candidate_names.ensures)

pub returns : goal.returns
returns g c = Writes-then _ c.in_ok-write_candidate_names.ensures c.write_line.ensures
