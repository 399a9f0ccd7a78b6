-- Proof that what is printed for the journal of an open office meets the contract: the office in memory was empty, and reads of memory return what was written.
use Rattle.std.proofs.Common.{inl, inr, refl}
use Rattle.tables.specs.declared.fault.Fault.TheVariants.{Memory}
use Rattle.desk.specs.Pages.{failed}
use Rattle.desk.specs.declared.lines.Failure.TheVariants.{Office}
use Rattle.desk.proofs.PageLemmas.{error_shown}
use Rattle.count_office.proofs.MemoryLemmas.{memory_is_blank, memory_is_clean}
use Rattle.count_office.proofs.served_file.LocalFileServedFile.journal.Goals as goal

pub returns-in-Ok-clause-told : goal.returns-in-Ok-clause-told
returns-in-Ok-clause-told g c =
    let told = c.journal_open-status.ensures.journalled in
    record {
      page = told.page;
      cut = told.cut;
      shown = told.shown;
      is = λ clean was s at. told.is.0 clean was s at (memory_is_clean c.journal_open-status.result.1) (memory_is_blank c.in-Ok.blank c.in-Ok.ensures.empty);
    }

pub returns-in-Ok-clause-clean : goal.returns-in-Ok-clause-clean
returns-in-Ok-clause-clean g c clean = c.journal_open-status.ensures.reads.clean clean

-- an allocation for it failed: this is printed, as far as the error output accepts it
pub returns-in-Err-clause-told : goal.returns-in-Err-clause-told
returns-in-Err-clause-told g c =
    let page = failed (Office Memory) in
    let told = error_shown g.O.Sink.taken g.O.Sink.failed g.E.Sink.taken g.E.Sink.failed c.args.out.now c.args.err.now c.tell_failure.new.err page c.tell_failure.result refl c.tell_failure.ensures in
    record { page = page; cut = told.0; shown = told.1; is = λ clean was s at. inr (inr (Memory, refl, inl refl)) }

pub returns-in-Err-clause-stays : goal.returns-in-Err-clause-stays
returns-in-Err-clause-stays g c clean was s at = inl (record { is_open = was; at = at })
