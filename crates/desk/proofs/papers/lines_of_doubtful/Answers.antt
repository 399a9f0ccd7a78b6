-- Proof that `lines_of_doubtful` meets its contract.
use Rattle.store.specs.Overviews.{doubtful_view}
use Rattle.desk.specs.CandidateNames.{names_told}
use Rattle.desk.specs.Overviews.{doubtful_line}
use Rattle.desk.proofs.PaperLemmas.{line_more}
use Rattle.desk.proofs.papers.lines_of_doubtful.Goals as goal

pub loop-paper-preserved : goal.loop-paper-preserved
loop-paper-preserved c =
    line_more (doubtful_line (names_told c.args.names.now)) doubtful_view c.args.papers.now c.loop-paper.paper-index c.paper-item.result _ _ _
    c.loop-paper-test.true c.paper-item.is c.in_ok-put_doubtful.ensures c.loop-paper.invariant
