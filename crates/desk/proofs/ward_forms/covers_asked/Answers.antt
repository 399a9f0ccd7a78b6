-- Proof that `covers_asked` meets its contract.
use Rattle.std.proofs.Common.{map}
use Rattle.sqlite.specs.Held.{state}
use Rattle.store.specs.Overviews.{batch_view}
use Rattle.office.specs.Overviews.{batches_answer}
use Rattle.desk.specs.Forms.{covers_form}
use Rattle.desk.specs.Pages.{page_of}
use Rattle.desk.proofs.OverviewLemmas.{made_found, stop_found_of}
use Rattle.desk.proofs.ward_forms.covers_asked.Goals as goal

pub returns-in-Ok-clause-found : goal.returns-in-Ok-clause-found
returns-in-Ok-clause-found g c = λ clean is_open s at.
    made_found (λ v. map batch_view v.items) covers_form page_of s (batches_answer s c.args.ward) c.in-Ok.found c.covers_form.result (page_of c.made.result)
    c.batches.new.self.closed (state g.S.Store c.args.office.now.held) (state g.S.Store c.batches.new.self.held)
    (c.in-Ok.ensures.reads clean is_open s at) (rw c.deref.ensures.value at c.covers_form.ensures) c.made.ensures.ok c.made.ensures.err

pub returns-in-Err-clause-found : goal.returns-in-Err-clause-found
returns-in-Err-clause-found g c = λ clean is_open s at.
    stop_found_of c.batches.result (λ v. map batch_view v.items) covers_form s (batches_answer s c.args.ward) c.in-Err.stop (page_of c.stopped.result)
    c.batches.new.self.closed (state g.S.Store c.args.office.now.held) (state g.S.Store c.batches.new.self.held)
    (c.in-Err.ensures.reads clean is_open s at) (c.in-Err.ensures.cause clean is_open s at) c.stopped.ensures
