-- The invariant of the loop in `write_pieces`.
use Rattle.std.proofs.Common.{take, Ok}
use Rattle.std.specs.List.{flat_map}
use Rattle.streams.specs.declared.streams.Broken.{Broken}
use Rattle.sheet.specs.Pieces.{piece_text}
use Rattle.sheet.specs.Writing.{Writes}
use Rattle.sheet.proofs.line.write_pieces.Given as goal

abbrev pub invariant-loop-piece : goal.invariant-loop-piece
invariant-loop-piece g l = Writes {E = Broken} g.W.Sink.taken g.W.Sink.failed l.fn.sink l.sink (flat_map piece_text (take l.piece-index l.pieces)) (Ok (tt {0}))
