-- Parts of the proof of `inserted` that are done by hand.
use Rattle.std.proofs.Common.{arith}
use Rattle.paper.proofs.PaddedLists.{padded-inserted}
use Rattle.paper.proofs.columns.inserted.Goals as goal

pub returns : goal.returns
returns c =
    rw (c.padded_numbers-numbers.ensures) (padded-inserted c.args.below.now c.args.c c.args.above.now _ _ c.requires c.copy_from_slice.ensures.after (omega arith))
