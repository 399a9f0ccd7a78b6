-- Parts of the proof of `fmt` that are done by hand.
use Rattle.votes.proofs.Texts.{votes_text-printed}
use Rattle.votes.proofs.units.VotesDisplay.fmt.Goals as goal

pub returns-clause-writes : goal.returns-clause-writes
returns-clause-writes g c = λ plain ok. rw (← c.self.view_is, ← votes_text-printed c.self.inside.0) (c.write.ensures.writes plain ok)
