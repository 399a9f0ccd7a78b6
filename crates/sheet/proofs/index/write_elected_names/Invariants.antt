-- The invariant of the loop in `write_elected_names`.
use Rattle.std.proofs.Common.{take, Ok}
use Rattle.std.specs.List.{flat_map}
use Rattle.streams.specs.declared.streams.Broken.{Broken}
use Rattle.sheet.specs.Index.{elected_name, elected_shown}
use Rattle.sheet.specs.Writing.{Writes}
use Rattle.sheet.proofs.index.write_elected_names.Given as goal

abbrev pub invariant-loop-candidate : goal.invariant-loop-candidate
invariant-loop-candidate g l = Writes {E = Broken} g.W.Sink.taken g.W.Sink.failed l.fn.sink l.sink
    (flat_map (λ candidate. elected_name (elected_shown candidate)) (take l.candidate-index l.elected)) (Ok (tt {0}))
