-- Parts of the proof of `transfer_value` that are done by hand.
use Rattle.std.proofs.Common.{arith}
use Rattle.votes.proofs.Cuts.{cuts_within}
use Rattle.votes.proofs.units.transfer_value.Goals as goal

pub returns-clause-within : goal.returns-clause-within
returns-clause-within c = cuts_within c.args.surplus c.args.credited (omega arith)
