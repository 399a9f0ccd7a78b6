-- The invariant of the loop in `write_withdrawn_line`.
use Rattle.std.proofs.Common.{◌≡◌, Ok}
use Rattle.streams.specs.declared.streams.Broken.{Broken}
use Rattle.sheet.specs.Entries.{shown}
use Rattle.sheet.specs.Writing.{Writes}
use Rattle.sheet.proofs.Withdrawn.{joined, is_none_yet, so_far}
use Rattle.sheet.proofs.ballots.write_withdrawn_line.Given as goal

abbrev pub invariant-loop-below : goal.invariant-loop-below
invariant-loop-below g l = record {
  text : Writes {E = Broken} g.W.Sink.taken g.W.Sink.failed l.fn.sink l.sink (joined (so_far (shown l.ward) l.below)) (Ok (tt {0}));
  first : l.is_first ≡ is_none_yet (so_far (shown l.ward) l.below);
}
