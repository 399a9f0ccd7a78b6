-- Proof that `put_codes_fault` meets its contract.
use Rattle.std.specs.Prelude.{◌∷◌, ◌++◌, [], codes}
use Rattle.codes.specs.Faults.{fault_line, fault_text as codes_text}
use Rattle.desk.specs.Pages.{codes_place, joined}
use Rattle.desk.proofs.PageLemmas.{put_behind, put_failed}
use Rattle.desk.proofs.codes_lines.put_codes_fault.Goals as goal

pub returns-in_err-put_pieces : goal.returns-in_err-put_pieces
returns-in_err-put_pieces g c =
    put_failed (codes_place (fault_line c.args.fault) ++ joined (codes ": " ∷ codes_text c.args.fault ∷ codes "\n" ∷ [])) c.from_residual.result c.from_residual.ensures.0
    (rw (c.format.ensures.text, c.number.ensures) at c.in_err-put_pieces.ensures)

pub returns : goal.returns
returns g c = put_behind c.put_codes_text.result (rw (c.format.ensures.text, c.number.ensures) at c.in_ok-put_pieces.ensures) c.put_codes_text.ensures
