-- Proof that `put_codes_text` meets its contract.
use Rattle.std.specs.Prelude.{◌∷◌, [], codes}
use Rattle.codes.specs.Faults.{fault_text as codes_text}
use Rattle.desk.specs.Pages.{joined}
use Rattle.desk.proofs.PageLemmas.{put_behind, put_failed}
use Rattle.desk.proofs.codes_lines.put_codes_text.Goals as goal

pub returns-in_err-put_place : goal.returns-in_err-put_place
returns-in_err-put_place g c =
    put_failed (joined (codes ": " ∷ codes_text c.args.fault ∷ codes "\n" ∷ [])) c.from_residual.result c.from_residual.ensures.0 c.in_err-put_place.ensures

pub returns : goal.returns
returns g c = put_behind c.put_pieces.result c.in_ok-put_place.ensures (rw c.text.ensures at c.put_pieces.ensures)
