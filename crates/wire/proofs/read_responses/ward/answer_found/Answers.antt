-- Proof that `answer_found` meets its contract.
use Rattle.std.proofs.Common.{Option, ap, map, subst, sym}
use Rattle.std.specs.Prelude.{option_map}
use Rattle.register.specs.NextSteps.{step_entry}
use Rattle.store.specs.Overviews.{ward_view}
use Rattle.wire.specs.OfficeReads.{ward_papers_view, ward_read_view}
use Rattle.wire.specs.OfficeReplies.{ward_read_data}
use Rattle.wire.specs.Serving.{found_response}
use Rattle.wire.specs.Told.{IsTold}
use Rattle.wire.proofs.OfficeReplyLemmas.{ward-read-float}
use Rattle.wire.proofs.read_responses.ward.answer_found.Goals as goal

pub returns-in-Some : goal.returns-in-Some
returns-in-Some c =
    let found = c.args.found.now in
    let ward = ward_view c.in-Some.ward.now in
    let next = step_entry found.progress.next in
    let papers = ward_papers_view found.papers in
    subst (λ its. IsTold (found_response (ward_read_view found) (option_map (λ w. ward_view w.now) its)) c.valued.result) (sym c.in-Some.is)
    (c.valued.ensures (ward_read_data ward next papers) (ward-read-float ward next papers) c.read_value.ensures)
