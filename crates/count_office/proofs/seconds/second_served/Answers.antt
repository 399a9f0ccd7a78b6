-- Proof that `second_served` meets its contract: both databases in memory are empty, and their disks are clean.
use Rattle.std.proofs.Common.{inl, inr, refl}
use Rattle.sqlite.specs.Held.{state}
use Rattle.tables.proofs.ReadLemmas.{only_reads_itself}
use Rattle.tables.specs.declared.fault.Fault.TheVariants.{Memory}
use Rattle.office.specs.Answers.{WhenOpenAt}
use Rattle.desk.specs.declared.lines.Failure.TheVariants.{Office}
use Rattle.server.specs.ServedOrders.{IsSecondIn}
use Rattle.count_office.proofs.MemoryLemmas.{memory_is_blank, memory_is_clean}
use Rattle.count_office.proofs.MendLemmas.{mend_failed}
use Rattle.count_office.proofs.seconds.second_served.Goals as goal

pub returns-in-Err-clause-told : goal.returns-in-Err-clause-told
returns-in-Err-clause-told g c =
    mend_failed g.O.Sink.taken g.O.Sink.failed g.E.Sink.taken g.E.Sink.failed
    (λ page. WhenOpenAt (state g.S.Store) c.args.office.now c.args.office.now (λ s. IsSecondIn (g.F.Folder.held c.args.folder.now) s c.args.path.now page)) (Office Memory)
    c.args.out.now c.args.err.now c.tell_failure.new.err c.tell_failure.result (λ clean was s at. inr refl) c.tell_failure.ensures

pub returns-in-Err-clause-stays : goal.returns-in-Err-clause-stays
returns-in-Err-clause-stays g c clean was s at = inl (record { is_open = was; at = at })

pub returns-in-Err-clause-reads : goal.returns-in-Err-clause-reads
returns-in-Err-clause-reads g c = only_reads_itself (state g.S.Store c.args.office.now.held)

pub returns-clause-told : goal.returns-clause-told
returns-clause-told g c =
    let told = c.second_open-status.ensures.told in
    record {
      page = told.page;
      cut = told.cut;
      shown = told.shown;
      is = λ clean was s at.
          inl (told.is clean was s at (memory_is_clean c.second_open-status.result.1.same) (memory_is_clean c.second_open-status.result.1.other)
          (memory_is_blank c.in-Ok.trial.same c.in-Ok.ensures.0) (memory_is_blank c.in-Ok.trial.other c.in-Ok.ensures.1));
    }
