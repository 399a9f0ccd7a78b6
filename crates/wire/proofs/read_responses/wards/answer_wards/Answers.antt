-- Proof that `answer_wards` meets its contract.
use Rattle.std.proofs.Common.{subst, sym}
use Rattle.wire.specs.OfficeReads.{WardsReadView, wards_read_view}
use Rattle.wire.specs.OfficeReplies.{wards_data}
use Rattle.wire.specs.Serving.{IsReadTold, data_response}
use Rattle.wire.proofs.OfficeReplyLemmas.{wards-float}
use Rattle.wire.proofs.read_responses.wards.answer_wards.Goals as goal

pub returns-in-Ok : goal.returns-in-Ok
returns-in-Ok c =
    subst (λ told. IsReadTold (λ (wards : WardsReadView). data_response (wards_data wards)) wards_read_view told c.valued.result) (sym c.in-Ok.is)
    (c.valued.ensures (wards_data (wards_read_view c.in-Ok.found)) (wards-float (wards_read_view c.in-Ok.found)) c.wards_value.ensures)
