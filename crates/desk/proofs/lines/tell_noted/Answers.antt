-- Proof that `tell_noted` meets its contract.
use Rattle.std.proofs.Common.{refl}
use Rattle.desk.specs.Pages.{noted}
use Rattle.desk.proofs.PageLemmas.{both_cut, both_fronted}
use Rattle.desk.proofs.lines.tell_noted.Goals as goal

pub returns-in-Ok : goal.returns-in-Ok
returns-in-Ok g c =
    both_fronted g.O.Sink.taken g.O.Sink.failed g.E.Sink.taken g.E.Sink.failed c.args.line _ _ _ _ (noted c.args.id.now c.args.reply.now) c.tell_note.result
    _ _ refl c.in-Ok.ensures c.tell_note.ensures

pub returns-in-Err : goal.returns-in-Err
returns-in-Err g c =
    both_cut g.O.Sink.taken g.O.Sink.failed g.E.Sink.taken g.E.Sink.failed c.args.line _ _ _ _ (noted c.args.id.now c.args.reply.now) c.tell_note_and_failure.result _ _ refl c.in-Err.ensures
    c.tell_note_and_failure.ensures
