use Rattle.register.specs.StateConditions.{is_candidate}
use Rattle.rowcheck.proofs.ranges.CandidateRanged.is_in_range.Goals as goal

pub returns : goal.returns
unfolding is_candidate
returns c = rw (c.is_ward_number-ward.ensures, c.is_candidate_number-number.ensures, c.is_name.ensures, c.as_str.ensures.value)
