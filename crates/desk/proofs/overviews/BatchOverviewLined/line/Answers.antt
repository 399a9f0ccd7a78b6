-- Proof that the line of a batch meets its contract.
use Rattle.desk.specs.Overviews.{batch_line}
use Rattle.desk.proofs.overviews.BatchOverviewLined.line.Goals as goal

pub returns : goal.returns
unfolding batch_line
returns c =
    rw (← c.in_ok-size.ensures, ← (rw c.deref.ensures.value at c.in_ok-clerks.ensures), ← c.standing_word-standing.ensures, ← c.in_ok-twin.ensures) c.format.ensures.ok
