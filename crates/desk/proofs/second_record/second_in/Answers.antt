-- Proof that `second_in` meets its contract.
use Rattle.std.proofs.Common.{inl, inr, refl}
use Rattle.sqlite.specs.Held.{state}
use Rattle.tables.proofs.ReadLemmas.{only_reads_itself}
use Rattle.tables.specs.declared.fault.Fault.TheVariants.{Memory}
use Rattle.desk.specs.Pages.{failed, page_of}
use Rattle.desk.specs.Seconds.{record_page}
use Rattle.desk.specs.declared.lines.Failure.TheVariants.{Office}
use Rattle.desk.proofs.PageLemmas.{error_shown}
use Rattle.desk.proofs.SecondLemmas.{no_record_output}
use Rattle.desk.proofs.second_record.second_in.Goals as goal

-- an allocation failed
pub returns-in-Err-clause-told : goal.returns-in-Err-clause-told
returns-in-Err-clause-told g c =
    let page = failed (Office Memory) in
    let told = error_shown g.O.Sink.taken g.O.Sink.failed g.E.Sink.taken g.E.Sink.failed c.args.out.now c.args.err.now c.tell_failure.new.err page c.tell_failure.result refl
    c.tell_failure.ensures in
    record { page = page; cut = told.0; shown = told.1; is = λ clean was s at same other blank also. inr (inr (Memory, refl, inl refl)) }

pub returns-in-Err-clause-stays : goal.returns-in-Err-clause-stays
returns-in-Err-clause-stays g c clean was s at = inl (record { is_open = was; at = at })

pub returns-in-Err-clause-reads : goal.returns-in-Err-clause-reads
returns-in-Err-clause-reads g c = only_reads_itself (state g.S.Store c.args.office.now.held)

-- the requests were compared
pub returns-in-Ok-found-clause-told : goal.returns-in-Ok-found-clause-told
returns-in-Ok-found-clause-told g c =
    let told = c.tell.ensures in
    record {
      page = page_of c.compared_open-outcome.result.0;
      cut = told.0;
      shown = told.1;
      is = λ clean was s at same other blank also.
          inl (c.in-Ok-found.requests.items, rw c.in-Ok-found.is at c.in-Ok.ensures.some, c.compared_open-outcome.ensures.told clean was s at same other blank also);
    }

-- the text isn't a record
pub returns-in-Err-found-clause-told : goal.returns-in-Err-found-clause-told
returns-in-Err-found-clause-told g c =
    let why = c.in-Err-found.fault in
    let told = error_shown g.O.Sink.taken g.O.Sink.failed g.E.Sink.taken g.E.Sink.failed c.args.out.now c.args.err.now c.tell_no_record.new.err (record_page why)
    c.tell_no_record.result (no_record_output why) c.tell_no_record.ensures in
    record { page = record_page why; cut = told.0; shown = told.1; is = λ clean was s at same other blank also. inr (inl (why, refl, rw c.in-Err-found.is at c.in-Ok.ensures.none)) }

pub returns-in-Err-found-clause-stays : goal.returns-in-Err-found-clause-stays
returns-in-Err-found-clause-stays g c clean was s at = inl (record { is_open = was; at = at })

pub returns-in-Err-found-clause-reads : goal.returns-in-Err-found-clause-reads
returns-in-Err-found-clause-reads g c = only_reads_itself (state g.S.Store c.args.office.now.held)
