-- Proof that `answer_batches` meets its contract.
use Rattle.std.proofs.Common.{subst, sym}
use Rattle.std.proofs.Common.{List, map}
use Rattle.store.specs.Overviews.{BatchView, batch_view}
use Rattle.wire.specs.OfficeReplies.{batches_data}
use Rattle.wire.specs.Serving.{IsReadTold, data_response}
use Rattle.wire.proofs.OfficeReplyLemmas.{batches-float}
use Rattle.wire.proofs.read_responses.batches.answer_batches.Goals as goal

pub returns-in-Ok : goal.returns-in-Ok
returns-in-Ok c =
    subst (λ told. IsReadTold (λ (batches : List BatchView). data_response (batches_data c.args.ward batches)) (λ batches. map batch_view batches.items) told c.valued.result) (sym c.in-Ok.is)
    (c.valued.ensures (batches_data c.args.ward (map batch_view c.in-Ok.batches.items))
    (batches-float c.args.ward (map batch_view c.in-Ok.batches.items)) (rw c.deref.ensures.value at c.batches_value.ensures))
