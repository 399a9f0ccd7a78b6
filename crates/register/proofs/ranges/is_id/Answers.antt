use Rattle.register.specs.Ranges.{is_id}
use Rattle.register.proofs.ranges.is_id.Goals as goal

pub returns : goal.returns
unfolding is_id
returns c = rw (c.is_length-fits.ensures, c.are_id_bytes.ensures, c.as_bytes-bytes.ensures.value)
