use Rattle.register.specs.StateConditions.{is_third}
use Rattle.rowcheck.proofs.ranges.ThirdClerkRanged.is_in_range.Goals as goal

pub returns : goal.returns
unfolding is_third
returns c = rw (c.is_batch_number-batch.ensures, c.is_clerk.ensures)
