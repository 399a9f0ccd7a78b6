-- Proof that `papers_told_are_counted` meets its contract.
use Rattle.store.proofs.OverviewLemmas.{told_counted}
use Rattle.store.proofs.overviews.papers.papers_told_are_counted.Goals as goal

pub returns : goal.returns
returns c s ward = told_counted s ward s.batches
