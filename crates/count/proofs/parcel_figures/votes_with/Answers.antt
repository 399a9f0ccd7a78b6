-- Parts of the proof of `votes_with` that are done by hand.
use Rattle.std.proofs.Common.{arith}
use Rattle.count.proofs.WorthLemmas.{worth_to-within}
use Rattle.count.proofs.parcel_figures.votes_with.Goals as goal

pub overflow_add-given : goal.overflow_add-given
overflow_add-given c =
    omega (
      arith,
      c.worth_to-given.ensures,
      worth_to-within c.args.c c.args.moved.now,
      c.requires.small.moved_small,
      c.units.ensures,
      c.newest_votes.ensures,
      c.requires.small.votes_small c.args.c c.requires.some c.requires.few,
    )
