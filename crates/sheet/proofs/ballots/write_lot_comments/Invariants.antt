-- The invariant of the loop in `write_lot_comments`.
use Rattle.std.proofs.Common.{take, Ok}
use Rattle.std.specs.List.{flat_map}
use Rattle.streams.specs.declared.streams.Broken.{Broken}
use Rattle.sheet.specs.Ballots.{lot_comment}
use Rattle.sheet.specs.Writing.{Writes}
use Rattle.sheet.proofs.ballots.write_lot_comments.Given as goal

abbrev pub invariant-loop-lot : goal.invariant-loop-lot
invariant-loop-lot g l = Writes {E = Broken} g.W.Sink.taken g.W.Sink.failed l.fn.sink l.sink (flat_map lot_comment (take l.lot-index l.lots)) (Ok (tt {0}))
