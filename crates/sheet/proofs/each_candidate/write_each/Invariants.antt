-- The invariant of the loop in `write_each`.
use Rattle.std.proofs.Common.{take, Ok, string_bytes}
use Rattle.std.specs.List.{flat_map}
use Rattle.streams.specs.declared.streams.Broken.{Broken}
use Rattle.sheet.specs.Writing.{Writes}
use Rattle.sheet.proofs.each_candidate.write_each.Given as goal

abbrev pub invariant-loop-candidate : goal.invariant-loop-candidate
invariant-loop-candidate g l =
    Writes {E = Broken} g.W.Sink.taken g.W.Sink.failed l.fn.sink l.sink (flat_map (λ candidate. g.T.OfCandidate.text l.told candidate.0 (string_bytes candidate.1))
    (take l.candidate-index l.candidate-items)) (Ok (tt {0}))
