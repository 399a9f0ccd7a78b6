-- Proof that `adjudication_asked` meets its contract.
use Rattle.sqlite.specs.Held.{state}
use Rattle.store.specs.Overviews.{doubtful_papers_view}
use Rattle.office.specs.Overviews.{doubtful_answer}
use Rattle.desk.specs.Forms.{adjudication_form}
use Rattle.desk.specs.Pages.{page_of}
use Rattle.desk.proofs.OverviewLemmas.{made_found, stop_found}
use Rattle.desk.proofs.ward_forms.adjudication_asked.Goals as goal

pub returns-in-Ok-clause-found : goal.returns-in-Ok-clause-found
returns-in-Ok-clause-found g c = λ clean is_open s at.
    made_found doubtful_papers_view (adjudication_form c.args.ward) page_of s (doubtful_answer s c.args.ward) c.in-Ok.found c.adjudication_form.result (page_of c.made.result)
    c.doubtful.new.self.closed (state g.S.Store c.args.office.now.held) (state g.S.Store c.doubtful.new.self.held)
    (c.in-Ok.ensures.reads clean is_open s at) c.adjudication_form.ensures c.made.ensures.ok c.made.ensures.err

pub returns-in-Err-clause-found : goal.returns-in-Err-clause-found
returns-in-Err-clause-found g c = λ clean is_open s at.
    stop_found doubtful_papers_view (adjudication_form c.args.ward) s (doubtful_answer s c.args.ward) c.in-Err.stop (page_of c.stopped.result)
    c.doubtful.new.self.closed (state g.S.Store c.args.office.now.held) (state g.S.Store c.doubtful.new.self.held)
    (c.in-Err.ensures.reads clean is_open s at) (c.in-Err.ensures.cause clean is_open s at) c.stopped.ensures
