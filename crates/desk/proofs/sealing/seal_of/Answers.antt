-- Proof that `seal_of` meets its contract where the batches of the ward are shown.
use Rattle.std.proofs.Common.{map}
use Rattle.sqlite.specs.Held.{state}
use Rattle.store.specs.Overviews.{batch_view}
use Rattle.desk.specs.Pages.{page_of}
use Rattle.desk.proofs.SealLemmas.{seal_read}
use Rattle.desk.proofs.sealing.seal_of.Goals as goal

pub returns-in-Ok-clause-read : goal.returns-in-Ok-clause-read
returns-in-Ok-clause-read g c = λ clean is_open s at.
    let read = c.in-Ok.ensures.reads clean is_open s at in
    seal_read s c.args.seal page_of c.seal_for.result c.given_out.result (map batch_view c.in-Ok.batches.items) c.batches.new.self.closed
    (state g.S.Store c.args.office.now.held) (state g.S.Store c.batches.new.self.held) read.0 (rw c.deref.ensures.value at c.given_out.ensures) read.1
    c.seal_for.ensures.sent c.seal_for.ensures.unsent
