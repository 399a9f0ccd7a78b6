-- Proof that `named_fields_of` meets its contract if an allocation for the line failed, and if there is none.
use Rattle.std.proofs.Common.{inl, inr, refl}
use Rattle.sqlite.specs.Held.{state}
use Rattle.tables.specs.declared.fault.Fault.TheVariants.{Memory}
use Rattle.register.specs.Status.{paper_entry}
use Rattle.office.specs.Reads.{paper_answer}
use Rattle.desk.specs.Fields.{named_fields_line}
use Rattle.desk.specs.Pages.{page_of, replied}
use Rattle.desk.proofs.OverviewLemmas.{stop_found}
use Rattle.desk.proofs.fields.named_fields_of.Goals as goal

pub returns-in-Ok-clause-found : goal.returns-in-Ok-clause-found
returns-in-Ok-clause-found g c = λ clean is_open s at. inr (Memory, refl, (inl refl, inl (record { memory = refl; open_at = (c.in-Ok.ensures.reads clean is_open s at).1 })))

pub returns-clause-found : goal.returns-clause-found
returns-clause-found g c = λ clean is_open s at.
    stop_found paper_entry (λ paper. replied (named_fields_line c.args.batch paper)) s (paper_answer s c.args.clerk c.args.batch) c.in-Err.stop
    (page_of c.stopped.result) c.paper.new.self.closed (state g.S.Store c.args.office.now.held) (state g.S.Store c.paper.new.self.held)
    (c.in-Err.ensures.reads clean is_open s at) (c.in-Err.ensures.cause clean is_open s at) c.stopped.ensures
