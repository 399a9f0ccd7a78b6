use Rattle.std.specs.List.{flat_map}
use Rattle.desk.proofs.PageLemmas.{output_broken, text_shown}
use Rattle.desk.proofs.lines.tell_text.Goals as goal

pub returns-in-Ok : goal.returns-in-Ok
returns-in-Ok g c = text_shown g.O.Sink.taken g.O.Sink.failed g.E.Sink.taken g.E.Sink.failed _ _ _ (flat_map (λ piece. piece.now) c.args.pieces.now) c.in-Ok.ensures

pub returns-in-Err : goal.returns-in-Err
returns-in-Err g c =
    output_broken g.O.Sink.taken g.O.Sink.failed g.E.Sink.taken g.E.Sink.failed _ _ _ _ (flat_map (λ piece. piece.now) c.args.pieces.now) c.tell_failure.result c.in-Err.ensures c.tell_failure.ensures
