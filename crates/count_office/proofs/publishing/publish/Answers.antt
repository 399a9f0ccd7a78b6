-- Proof that `publish` meets its contract: the office was opened at the state that a stop left, and was only read; or it wasn't opened, and the page is the fault.
use Rattle.std.proofs.Common.{inr, refl, subst, sym}
use Rattle.sqlite.specs.Held.{state}
use Rattle.sqlite.specs.State.{HasCleanDisk}
use Rattle.tables.specs.Reading.{OnlyReads}
use Rattle.tables.proofs.ReadLemmas.{only_reads_then}
use Rattle.desk.specs.Publications.{IsPublishTold}
use Rattle.desk.specs.declared.lines.Failure.TheVariants.{Office}
use Rattle.count_office.specs.Done.{IsReadingTold}
use Rattle.count_office.proofs.MendLemmas.{mend_failed}
use Rattle.count_office.proofs.publishing.publish.Goals as goal

pub returns-in-Ok-clause-told : goal.returns-in-Ok-clause-told
returns-in-Ok-clause-told g c =
    let told = c.publish_served-status.ensures.told in
    record {
      page = told.page;
      cut = told.cut;
      shown = told.shown;
      is = λ clean.
          let ended = subst (λ conn. HasCleanDisk (state g.S.Store conn)) c.into_connection.ensures clean in
          let opened = c.publish_served-status.ensures.reads.clean ended in (
            λ db rests s left. let here = c.in-Ok.ensures.reopens opened db rests s left in told.is ended here.is_open s here.at,
            λ db ours rests none. let held = c.in-Ok.ensures.opened opened db ours rests in absurd (none held.0 held.1),
          );
    }

pub returns-in-Ok-clause-reads : goal.returns-in-Ok-clause-reads
returns-in-Ok-clause-reads g c =
    let first = state g.S.Store c.args.conn in
    subst (λ conn. OnlyReads first (state g.S.Store conn)) (sym c.into_connection.ensures)
    (only_reads_then first (state g.S.Store c.in-Ok.office.held) (state g.S.Store c.publish_served-status.new.office.held) c.in-Ok.ensures.reads c.publish_served-status.ensures.reads)

pub returns-in-Err-clause-told : goal.returns-in-Err-clause-told
returns-in-Err-clause-told g c =
    mend_failed g.O.Sink.taken g.O.Sink.failed g.E.Sink.taken g.E.Sink.failed
    (λ page. IsReadingTold (λ s. IsPublishTold s c.args.asked) page (state g.S.Store c.args.conn) (state g.S.Store c.in-Err.conn))
    (Office c.in-Err.fault) c.args.out.now c.args.err.now c.tell_failure.new.err c.tell_failure.result
    (λ clean. (
      λ db rests s left. inr (Office c.in-Err.fault, refl, c.in-Err.ensures.refuses clean db rests s left),
      λ db ours rests none. (c.in-Err.fault, refl, (c.in-Err.ensures.told clean db ours rests, c.in-Err.ensures.fails clean db ours rests)),
    )) c.tell_failure.ensures
