-- Proof that `answer_ward` meets its contract.
use Rattle.std.proofs.Common.{◌==◌, ◌∙◌, Err, ap, map, subst, sym}
use Rattle.std.specs.Prelude.{find}
use Rattle.store.specs.Overviews.{WardView, ward_view}
use Rattle.wire.specs.OfficeReads.{ward_read_view}
use Rattle.wire.specs.Serving.{IsReadTold, found_response, ward_response}
use Rattle.wire.specs.Told.{IsTold}
use Rattle.wire.proofs.read_responses.ward.answer_ward.Goals as goal

pub returns-in-Ok : goal.returns-in-Ok
returns-in-Ok c =
    let there = c.ward_in.ensures ∙ ap (λ wards. find (λ (w : WardView). w.ward.number == c.args.ward) (map ward_view wards)) c.deref.ensures.value in
    subst (λ told. IsReadTold (ward_response c.args.ward) ward_read_view told c.answer_found.result) (sym c.in-Ok.is)
    (subst (λ ward. IsTold (found_response (ward_read_view c.in-Ok.found) ward) c.answer_found.result) there c.answer_found.ensures)

pub returns-in-Err-Refused : goal.returns-in-Err-Refused
returns-in-Err-Refused c =
    subst (λ told. IsReadTold (ward_response c.args.ward) ward_read_view told c.refused.result) (sym (c.in-Err-Refused.is ∙ ap Err c.in-Err-Refused.field-0-is)) c.refused.ensures
