-- The invariant of the loop in `put_pieces`: the pieces so far have been written.
use Rattle.std.proofs.Common.{take, Ok}
use Rattle.std.specs.List.{flat_map}
use Rattle.streams.specs.declared.streams.Broken.{Broken}
use Rattle.desk.specs.Pages.{IsPut}
use Rattle.desk.proofs.lines.put_pieces.Given as goal

abbrev pub invariant-loop-piece : goal.invariant-loop-piece
invariant-loop-piece g l = IsPut {E = Broken} g.W.Sink.taken g.W.Sink.failed l.fn.sink l.sink (flat_map (λ piece. piece.now) (take l.piece-index l.pieces)) (Ok (tt {0}))
