-- Proof that `answer_doubtful` meets its contract.
use Rattle.std.proofs.Common.{subst, sym}
use Rattle.store.specs.Overviews.{DoubtfulPapersView, doubtful_papers_view}
use Rattle.wire.specs.OfficeReplies.{doubtful_papers_data}
use Rattle.wire.specs.Serving.{IsReadTold, data_response}
use Rattle.wire.proofs.OfficeReplyLemmas.{doubtful-papers-float}
use Rattle.wire.proofs.read_responses.doubtful.answer_doubtful.Goals as goal

pub returns-in-Ok : goal.returns-in-Ok
returns-in-Ok c =
    subst (λ told. IsReadTold (λ (papers : DoubtfulPapersView). data_response (doubtful_papers_data c.args.ward papers)) doubtful_papers_view told c.valued.result) (sym c.in-Ok.is)
    (c.valued.ensures (doubtful_papers_data c.args.ward (doubtful_papers_view c.in-Ok.found)) (doubtful-papers-float c.args.ward (doubtful_papers_view c.in-Ok.found)) c.papers_value.ensures)
