-- Proof that `declaration_asked` meets its contract.
use Rattle.std.proofs.Common.{map}
use Rattle.sqlite.specs.Held.{state}
use Rattle.store.specs.Overviews.{ward_view}
use Rattle.office.specs.Overviews.{wards_answer}
use Rattle.desk.specs.Forms.{declaration_form}
use Rattle.desk.specs.Pages.{page_of}
use Rattle.desk.proofs.OverviewLemmas.{made_found, stop_found_of}
use Rattle.desk.proofs.ward_forms.declaration_asked.Goals as goal

pub returns-in-Ok-clause-found : goal.returns-in-Ok-clause-found
returns-in-Ok-clause-found g c = λ clean is_open s at.
    made_found (λ v. map ward_view v.items) (declaration_form c.args.ward) page_of s (wards_answer s) c.in-Ok.found c.declaration_form.result (page_of c.made.result)
    c.wards.new.self.closed (state g.S.Store c.args.office.now.held) (state g.S.Store c.wards.new.self.held)
    (c.in-Ok.ensures.reads clean is_open s at) (rw c.deref.ensures.value at c.declaration_form.ensures) c.made.ensures.ok c.made.ensures.err

pub returns-in-Err-clause-found : goal.returns-in-Err-clause-found
returns-in-Err-clause-found g c = λ clean is_open s at.
    stop_found_of c.wards.result (λ v. map ward_view v.items) (declaration_form c.args.ward) s (wards_answer s) c.in-Err.stop (page_of c.stopped.result)
    c.wards.new.self.closed (state g.S.Store c.args.office.now.held) (state g.S.Store c.wards.new.self.held)
    (c.in-Err.ensures.reads clean is_open s at) (c.in-Err.ensures.cause clean is_open s at) c.stopped.ensures
