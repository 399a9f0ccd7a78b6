-- Proof that `write_bundle_line` meets its contract.
use Rattle.sheet.proofs.ballots.write_bundle_line.Goals as goal

pub returns : goal.returns
returns g c = rw (c.from.ensures, c.as_slice.ensures.is) at c.write_line.ensures
