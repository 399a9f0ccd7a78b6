use Rattle.register.specs.StateConditions.{is_batch}
use Rattle.rowcheck.proofs.ranges.BatchRanged.is_in_range.Goals as goal

pub returns : goal.returns
unfolding is_batch
returns c =
    rw (c.is_batch_number-number.ensures, c.is_ward_number-ward.ensures, c.is_paper_number-size.ensures, c.is_clerk-first.ensures, c.is_clerk-second.ensures, c.is_round.ensures)
