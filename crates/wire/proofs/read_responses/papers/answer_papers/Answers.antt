-- Proof that `answer_papers` meets its contract.
use Rattle.std.proofs.Common.{subst, sym}
use Rattle.store.specs.Overviews.{PapersView, papers_view}
use Rattle.wire.specs.OfficeReplies.{papers_data}
use Rattle.wire.specs.Serving.{IsReadTold, data_response}
use Rattle.wire.proofs.OfficeReplyLemmas.{papers-float}
use Rattle.wire.proofs.read_responses.papers.answer_papers.Goals as goal

pub returns-in-Ok : goal.returns-in-Ok
returns-in-Ok c =
    subst (λ told. IsReadTold (λ (papers : PapersView). data_response (papers_data c.args.batch papers)) papers_view told c.valued.result) (sym c.in-Ok.is)
    (c.valued.ensures (papers_data c.args.batch (papers_view c.in-Ok.found)) (papers-float c.args.batch (papers_view c.in-Ok.found)) c.papers_value.ensures)
