-- Proof that `lot_asked` meets its contract.
use Rattle.sqlite.specs.Held.{state}
use Rattle.register.specs.NextSteps.{step_entry}
use Rattle.office.specs.Reads.{next_answer}
use Rattle.desk.specs.Forms.{lots_form}
use Rattle.desk.specs.Pages.{page_of}
use Rattle.desk.proofs.OverviewLemmas.{made_found, stop_found}
use Rattle.desk.proofs.ward_forms.lot_asked.Goals as goal

pub returns-in-Ok-clause-found : goal.returns-in-Ok-clause-found
returns-in-Ok-clause-found g c = λ clean is_open s at.
    made_found step_entry (lots_form c.args.ward) page_of s (next_answer s c.args.ward) c.in-Ok.found c.lots_form.result (page_of c.made.result)
    c.next_step.new.self.closed (state g.S.Store c.args.office.now.held) (state g.S.Store c.next_step.new.self.held)
    (c.in-Ok.ensures.reads clean is_open s at) c.lots_form.ensures c.made.ensures.ok c.made.ensures.err

pub returns-in-Err-clause-found : goal.returns-in-Err-clause-found
returns-in-Err-clause-found g c = λ clean is_open s at.
    stop_found step_entry (lots_form c.args.ward) s (next_answer s c.args.ward) c.in-Err.stop (page_of c.stopped.result)
    c.next_step.new.self.closed (state g.S.Store c.args.office.now.held) (state g.S.Store c.next_step.new.self.held)
    (c.in-Err.ensures.reads clean is_open s at) (c.in-Err.ensures.cause clean is_open s at) c.stopped.ensures
