-- The invariant of the loop in `write_bundle_lines`.
use Rattle.std.proofs.Common.{Ok}
use Rattle.streams.specs.declared.streams.Broken.{Broken}
use Rattle.sheet.proofs.Bundles.{AreWritten}
use Rattle.sheet.proofs.ballots.write_bundle_lines.Given as goal

abbrev pub invariant-loop-list : goal.invariant-loop-list
invariant-loop-list g l = AreWritten {E = Broken} g.W.Sink.taken g.W.Sink.failed l.fn.sink l.sink l.bundles l.list-iterator (Ok (tt {0}))
