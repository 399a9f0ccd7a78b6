-- Proof that `papers_of` meets its contract if an allocation for the lines failed, and if there are none.
use Rattle.std.proofs.Common.{inl, inr, refl}
use Rattle.sqlite.specs.Held.{state}
use Rattle.tables.specs.declared.fault.Fault.TheVariants.{Memory}
use Rattle.store.specs.Overviews.{papers_view}
use Rattle.office.specs.Overviews.{papers_answer}
use Rattle.desk.specs.Overviews.{paper_lines}
use Rattle.desk.specs.Pages.{page_of, printed}
use Rattle.desk.proofs.OverviewLemmas.{stop_found}
use Rattle.desk.proofs.overviews.papers_of.Goals as goal

pub returns-in-Ok-clause-found : goal.returns-in-Ok-clause-found
returns-in-Ok-clause-found g c = λ clean is_open s at. inr (Memory, refl, (inl refl, inl (record { memory = refl; open_at = (c.in-Ok.ensures.reads clean is_open s at).1 })))

pub returns-clause-found : goal.returns-clause-found
returns-clause-found g c = λ clean is_open s at.
    stop_found papers_view (λ found. printed (paper_lines found)) s (papers_answer s c.args.batch) c.in-Err.stop (page_of c.stopped.result)
    c.papers.new.self.closed (state g.S.Store c.args.office.now.held) (state g.S.Store c.papers.new.self.held)
    (c.in-Err.ensures.reads clean is_open s at) (c.in-Err.ensures.cause clean is_open s at) c.stopped.ensures
