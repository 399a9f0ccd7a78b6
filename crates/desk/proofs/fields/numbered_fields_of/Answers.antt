-- Proof that `numbered_fields_of` meets its contract if an allocation for the line failed, and if there is none.
use Rattle.std.proofs.Common.{inl, inr, refl}
use Rattle.sqlite.specs.Held.{state}
use Rattle.tables.specs.declared.fault.Fault.TheVariants.{Memory}
use Rattle.office.specs.Reads.{columns_answer}
use Rattle.desk.specs.Fields.{fields_line}
use Rattle.desk.specs.Pages.{page_of, replied}
use Rattle.desk.proofs.OverviewLemmas.{stop_found}
use Rattle.desk.proofs.fields.numbered_fields_of.Goals as goal

pub returns-in-Err-fields_line-clause-found : goal.returns-in-Err-fields_line-clause-found
returns-in-Err-fields_line-clause-found g c = λ clean is_open s at. inr (Memory, refl, (inl refl, inl (record { memory = refl; open_at = (c.in-Ok.ensures.reads clean is_open s at).1 })))

pub returns-in-Err-clause-found : goal.returns-in-Err-clause-found
returns-in-Err-clause-found g c = λ clean is_open s at.
    stop_found (λ columns. columns) (λ columns. replied (fields_line c.args.batch columns)) s (columns_answer s c.args.batch) c.in-Err.stop
    (page_of c.stopped.result) c.columns.new.self.closed (state g.S.Store c.args.office.now.held) (state g.S.Store c.columns.new.self.held)
    (c.in-Err.ensures.reads clean is_open s at) (c.in-Err.ensures.cause clean is_open s at) c.stopped.ensures
