-- Proof that `untaken_words` meets its contract.
use Rattle.desk.specs.Overviews.{untaken_words}
use Rattle.desk.proofs.overviews.untaken_words.Goals as goal

pub returns : goal.returns
unfolding untaken_words
returns c = rw (← c.saturating_sub-untaken.ensures) c.format.ensures.ok
