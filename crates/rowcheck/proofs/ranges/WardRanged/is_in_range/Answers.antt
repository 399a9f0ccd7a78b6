use Rattle.register.specs.StateConditions.{is_ward}
use Rattle.rowcheck.proofs.ranges.WardRanged.is_in_range.Goals as goal

pub returns : goal.returns
unfolding is_ward
returns c = rw (c.is_ward_number-number.ensures, c.is_seat_number-seats.ensures, c.is_name.ensures, c.as_str.ensures.value)
