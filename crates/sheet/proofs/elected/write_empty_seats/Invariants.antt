-- The invariant of the loop in `write_empty_seats`.
use Rattle.std.proofs.Common.{take, Ok}
use Rattle.std.specs.List.{flat_map, range_with_len}
use Rattle.streams.specs.declared.streams.Broken.{Broken}
use Rattle.sheet.specs.Page.{empty_seat}
use Rattle.sheet.specs.Writing.{Writes}
use Rattle.sheet.proofs.elected.write_empty_seats.Given as goal

abbrev pub invariant-loop : goal.invariant-loop
invariant-loop g l = Writes {E = Broken} g.W.Sink.taken g.W.Sink.failed l.fn.sink l.sink (flat_map (λ k. empty_seat) (take l.counter (range_with_len 0 l.left))) (Ok (tt {0}))
