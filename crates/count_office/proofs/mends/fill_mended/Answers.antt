-- Proof that `fill_mended` meets its contract and may print one more failure: what was printed with status 0 was written whole.
use Rattle.std.proofs.Common.{◌≡◌, arith, inl, inr, refl}
use Rattle.sqlite.specs.Held.{state}
use Rattle.office.specs.Answers.{WhenOpenAt}
use Rattle.desk.specs.Mends.{IsMendPage, IsMendTold}
use Rattle.desk.specs.Pages.{Page, outputs_of}
use Rattle.tables.specs.declared.fault.Fault.TheVariants.{Memory}
use Rattle.desk.specs.declared.lines.Failure.TheVariants.{Office}
use Rattle.count_office.proofs.CopyLemmas.{whole_at_zero}
use Rattle.count_office.proofs.MemoryLemmas.{memory_is_blank, memory_is_clean}
use Rattle.count_office.proofs.MendLemmas.{mend_closed, mend_ended, mend_failed, mend_told}
use Rattle.count_office.proofs.mends.fill_mended.Goals as goal

pub finish_mended-requires : goal.finish_mended-requires
finish_mended-requires g c = λ zero.
    let told = c.mend_open-status.ensures.made in
    let outputs = outputs_of g.O.Sink.taken g.O.Sink.failed g.E.Sink.taken g.E.Sink.failed in
    let all = whole_at_zero told.cut (outputs c.args.out.now c.args.err.now) (outputs c.mend_open-status.new.out c.mend_open-status.new.err) told.page c.mend_open-status.result.0 zero told.shown in
    let same : g.E.Sink.failed c.mend_open-status.new.err ≡ g.E.Sink.failed c.args.err.now = all.err_failed in
    let low = c.requires.err in
    omega (arith, same, low)

pub returns-in-Some-clause-told : goal.returns-in-Some-clause-told
returns-in-Some-clause-told g c =
    mend_failed g.O.Sink.taken g.O.Sink.failed g.E.Sink.taken g.E.Sink.failed
    (λ page. WhenOpenAt (state g.S.Store) c.args.office.now c.args.office.now (λ s. IsMendPage s c.args.asked.now page)) c.in-Some.failure c.args.out.now c.args.err.now
    c.tell_failure.new.err c.tell_failure.result (λ clean was s at. inl (inr (inr (inr (c.in-Some.failure, refl))))) c.tell_failure.ensures

pub returns-in-Some-clause-stays : goal.returns-in-Some-clause-stays
returns-in-Some-clause-stays g c clean was s at = inl (record { is_open = was; at = at })

pub returns-in-Err-clause-told : goal.returns-in-Err-clause-told
returns-in-Err-clause-told g c =
    mend_failed g.O.Sink.taken g.O.Sink.failed g.E.Sink.taken g.E.Sink.failed
    (λ page. WhenOpenAt (state g.S.Store) c.args.office.now c.args.office.now (λ s. IsMendPage s c.args.asked.now page)) (Office Memory) c.args.out.now c.args.err.now
    c.tell_failure-in-Err.new.err c.tell_failure-in-Err.result (λ clean was s at. inl (inr (inr (inr (Office Memory, refl))))) c.tell_failure-in-Err.ensures

pub returns-in-Err-clause-stays : goal.returns-in-Err-clause-stays
returns-in-Err-clause-stays g c clean was s at = inl (record { is_open = was; at = at })

pub returns-clause-told : goal.returns-clause-told
returns-clause-told g c =
    let made = c.mend_open-status in
    let told = made.ensures.made in
    let outputs = outputs_of g.O.Sink.taken g.O.Sink.failed g.E.Sink.taken g.E.Sink.failed in
    mend_ended g.O.Sink.taken g.O.Sink.failed g.E.Sink.taken g.E.Sink.failed (state g.S.Store) c.args.office.now made.new.office c.args.asked.now
    (outputs c.args.out.now c.args.err.now) (outputs made.new.out c.finish_mended.new.err) c.finish_mended.result
    (mend_closed g.O.Sink.taken g.O.Sink.failed g.E.Sink.taken g.E.Sink.failed
    (λ (p : Page). WhenOpenAt (state g.S.Store) c.args.office.now made.new.office (λ s. IsMendTold s c.args.asked.now p))
    c.args.out.now made.new.out c.args.err.now made.new.err c.finish_mended.new.err made.result.0 c.finish_mended.result
    (record {
      page = told.page;
      cut = told.cut;
      shown = told.shown;
      is = λ clean was s at. mend_told s c.args.asked.now told.page made.result.1 _ _ (told.is.1 clean was s at (memory_is_clean made.result.2.journal) (memory_is_clean made.result.2.mended)
          (memory_is_blank c.in-Ok.trial.journal c.in-Ok.ensures.0) (memory_is_blank c.in-Ok.trial.mended c.in-Ok.ensures.1));
    })
    c.finish_mended.ensures.other c.finish_mended.ensures.whole)
