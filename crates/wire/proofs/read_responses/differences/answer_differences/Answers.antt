-- Proof that `answer_differences` meets its contract.
use Rattle.std.proofs.Common.{subst, sym}
use Rattle.store.specs.Overviews.{DifferencesView, differences_view}
use Rattle.wire.specs.OfficeReplies.{differences_data}
use Rattle.wire.specs.Serving.{IsReadTold, data_response}
use Rattle.wire.proofs.OfficeReplyLemmas.{differences-float}
use Rattle.wire.proofs.read_responses.differences.answer_differences.Goals as goal

pub returns-in-Ok : goal.returns-in-Ok
returns-in-Ok c =
    subst (λ told. IsReadTold (λ (differences : DifferencesView). data_response (differences_data c.args.batch differences)) differences_view told c.valued.result) (sym c.in-Ok.is)
    (c.valued.ensures (differences_data c.args.batch (differences_view c.in-Ok.found)) (differences-float c.args.batch (differences_view c.in-Ok.found)) c.differences_value.ensures)
