-- Proof that `journal` meets its contract: the office in memory was empty, and reads of memory return what was written.
use Rattle.std.proofs.Common.{inl, inr, refl}
use Rattle.tables.specs.declared.fault.Fault.TheVariants.{Memory}
use Rattle.desk.specs.Pages.{failed}
use Rattle.desk.specs.declared.lines.Failure.TheVariants.{Office}
use Rattle.desk.proofs.PageLemmas.{error_shown}
use Rattle.count_office.proofs.MemoryLemmas.{memory_is_blank, memory_is_clean}
use Rattle.count_office.proofs.journal.Goals as goal

pub returns-in-Ok-clause-told : goal.returns-in-Ok-clause-told
returns-in-Ok-clause-told g c =
    let told = c.journal_office-status.ensures.journalled in
    record {
      page = told.page;
      cut = told.cut;
      shown = told.shown;
      is = λ clean. let is = told.is clean in
          (λ db rests s left. is.in_office db rests s left (memory_is_blank c.in-Ok.blank c.in-Ok.ensures.empty) (memory_is_clean c.journal_office-status.result.1), is.elsewhere);
    }

-- an allocation for it failed: this is printed, as far as the error output accepts it
pub returns-in-Err-clause-told : goal.returns-in-Err-clause-told
returns-in-Err-clause-told g c =
    let page = failed (Office Memory) in
    let told = error_shown g.O.Sink.taken g.O.Sink.failed g.E.Sink.taken g.E.Sink.failed c.args.out.now c.args.err.now c.tell_failure-status.new.err
    page c.tell_failure-status.result refl c.tell_failure-status.ensures in
    record { page = page; cut = told.0; shown = told.1; is = λ clean. (λ db rests s left. inr (inr (Memory, refl, inl refl)), λ db ours rests none. (Memory, refl, (tt, λ store. absurd (cc store)))) }
