-- The invariant of the loop in `write_candidate_names`.
use Rattle.std.proofs.Common.{take, Ok}
use Rattle.std.specs.List.{flat_map}
use Rattle.streams.specs.declared.streams.Broken.{Broken}
use Rattle.sheet.specs.Ballots.{name_line, numbers_of}
use Rattle.sheet.specs.Entries.{shown}
use Rattle.sheet.specs.Writing.{Writes}
use Rattle.sheet.proofs.ballots.write_candidate_names.Given as goal

abbrev pub invariant-loop-below : goal.invariant-loop-below
invariant-loop-below g l = Writes {E = Broken} g.W.Sink.taken g.W.Sink.failed l.fn.sink l.sink (flat_map (name_line (shown l.ward).candidates) (take l.below (numbers_of (shown l.ward)))) (Ok (tt {0}))
