-- The invariant of the loop in `make_file`: none of the texts drawn so far is a codes file.
use Rattle.std.proofs.Common.{◌≡◌}
use Rattle.codes.proofs.DrawingLemmas.{HasDrawn}
use Rattle.codes.proofs.making.make_file.Given as goal

abbrev pub invariant-loop-left : goal.invariant-loop-left
invariant-loop-left g l = record {
  drawn : HasDrawn l.clerks l.office (g.D.RandomSource.drawn l.fn.draws) (g.D.RandomSource.drawn l.draws) l.left;
  failed : g.D.RandomSource.failed l.draws ≡ g.D.RandomSource.failed l.fn.draws;
}

abbrev pub decreases-loop-left : goal.decreases-loop-left
decreases-loop-left g l = l.left
