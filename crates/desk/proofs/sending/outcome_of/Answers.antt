-- Proof that `outcome_of` meets its contract.
use Rattle.std.proofs.Common.{◌∙◌, ◌∷◌, [], ap, arith, inl, inr, refl, string_bytes, sym, true≢false}
use Rattle.sqlite.specs.Held.{state}
use Rattle.register.specs.Machine.{step_of}
use Rattle.store.proofs.KeepLemmas.{reads_connection, connection_then}
use Rattle.desk.specs.Pages.{failed, page_for, page_of}
use Rattle.desk.specs.declared.lines.Failure.TheVariants.{SecondRecord}
use Rattle.desk.proofs.CauseLemmas.{since}
use Rattle.desk.proofs.CourseLemmas.{few_answered, plain_answer, unrecorded_answer}
use Rattle.desk.proofs.NoteLemmas.{answered_before}
use Rattle.desk.proofs.RecordLemmas.{again_stays, done_accepted, none_recorded, one_recorded, one_unrecorded, refused_stays, stays_itself, stays_unfailed, still_recorded}
use Rattle.desk.proofs.sending.outcome_of.Goals as goal

pub returns-then-has_failed-clause-told : goal.returns-then-has_failed-clause-told
returns-then-has_failed-clause-told g c = λ clean is_open s at.
    let st = state g.S.Store c.args.office.now.held in
    let broken = sym c.has_failed.ensures.value ∙ c.if-has_failed.true in (
      0,
      unrecorded_answer (g.R.Recorder.failed c.args.recorder.now) st c.args.office.now.closed st page_for s c.args.request.now 0 (failed SecondRecord)
          broken (refl, refl, inr (record { is_open = is_open; at = at })),
      λ fine. absurd (true≢false (sym broken ∙ fine)),
    )

pub returns-in-Ok-clause-told : goal.returns-in-Ok-clause-told
returns-in-Ok-clause-told g c = λ clean is_open s at.
    let r = c.args.request.now in
    let handled = rw c.in-Ok-Done.field-0-is at (rw c.as_str.ensures.value at (c.in-Ok-Done.ensures.handled clean is_open s at)) in (
      1,
      plain_answer (g.R.Recorder.failed c.record.new.self) (state g.S.Store c.args.office.now.held) c.handle.new.self.closed (state g.S.Store c.handle.new.self.held) page_for s r 1 _
          (inl (refl, ap (page_for s r) handled.0, handled.1)),
      λ fine. one_recorded s r (g.R.Recorder.found c.args.recorder.now) (g.R.Recorder.found c.record.new.self) (g.R.Recorder.failed c.record.new.self) c.in-Ok.ensures.ok.1
          (done_accepted (step_of s r) _ handled.0) (c.record.ensures.recorded fine),
    )

pub returns-in-Err-record-clause-told : goal.returns-in-Err-record-clause-told
returns-in-Err-record-clause-told g c = λ clean is_open s at.
    let r = c.args.request.now in
    let handled = rw c.in-Ok-Done.field-0-is at (rw c.as_str.ensures.value at (c.in-Ok-Done.ensures.handled clean is_open s at)) in
    let took = done_accepted (step_of s r) _ handled.0 in (
      0,
      unrecorded_answer (g.R.Recorder.failed c.record.new.self) (state g.S.Store c.args.office.now.held) c.handle.new.self.closed (state g.S.Store c.handle.new.self.held) page_for s r 0
          (failed SecondRecord) c.in-Err-record.ensures.err.1 (refl, refl, inl (took, handled.1)),
      λ fine. one_unrecorded s r (g.R.Recorder.found c.args.recorder.now) (g.R.Recorder.found c.record.new.self) (g.R.Recorder.failed c.record.new.self) c.in-Err-record.ensures.err.1
          took (c.record.ensures.recorded fine),
    )

pub returns-in-Ok-Kept-clause-told : goal.returns-in-Ok-Kept-clause-told
returns-in-Ok-Kept-clause-told g c = λ clean is_open s at.
    let r = c.args.request.now in
    let first = state g.S.Store c.args.office.now.held in
    let mid = state g.S.Store c.handle.new.self.held in
    let next = state g.S.Store c.kept_before.new.office.held in
    let closed = c.kept_before.new.office.closed in
    let page = page_of c.kept_before.result in
    let honest = c.kept_before.ensures.same.clean clean in
    let handled = rw c.in-Ok-Kept.field-0-is at (rw c.as_str.ensures.value at (c.in-Ok-Kept.ensures.handled honest is_open s at)) in
    let tells = since first mid next honest c.in-Ok-Kept.ensures.keeps_connection (reads_connection mid next c.kept_before.ensures.same) in
    let it = answered_before first mid next c.handle.new.self.closed closed s r (string_bytes c.in-Ok-Kept.reply) page tells handled.0 handled.1 (c.kept_before.ensures.found clean) in
    let recorded = g.R.Recorder.failed c.args.recorder.now in
    let met = plain_answer recorded first closed next page_for s r it.0 page it.1 in (
      it.0,
      met,
      λ fine. still_recorded s r it.0 (g.R.Recorder.found c.args.recorder.now) (g.R.Recorder.failed c.args.recorder.now) (few_answered recorded first closed next page_for s r it.0 page met) fine
          (again_stays s (step_of s r) _ handled.0),
    )

pub returns-in-Ok-Kept-clause-keeps_connection : goal.returns-in-Ok-Kept-clause-keeps_connection
returns-in-Ok-Kept-clause-keeps_connection g c =
    let mid = state g.S.Store c.handle.new.self.held in
    let next = state g.S.Store c.kept_before.new.office.held in
    connection_then (state g.S.Store c.args.office.now.held) mid next c.kept_before.ensures.same.clean c.in-Ok-Kept.ensures.keeps_connection (reads_connection mid next c.kept_before.ensures.same)

pub returns-in-Ok-Kept-clause-clean : goal.returns-in-Ok-Kept-clause-clean
returns-in-Ok-Kept-clause-clean g c = λ clean. c.in-Ok-Kept.ensures.clean (c.kept_before.ensures.same.clean clean)

pub returns-in-Ok-Refused-clause-told : goal.returns-in-Ok-Refused-clause-told
returns-in-Ok-Refused-clause-told g c = λ clean is_open s at.
    let r = c.args.request.now in
    let handled = rw c.in-Ok-Refused.field-0-is at (rw c.as_str.ensures.value at (c.in-Ok-Refused.ensures.handled clean is_open s at)) in (
      1,
      plain_answer (g.R.Recorder.failed c.args.recorder.now) (state g.S.Store c.args.office.now.held) c.handle.new.self.closed (state g.S.Store c.handle.new.self.held) page_for s r 1 _
          (inl (refl, ap (page_for s r) handled.0, handled.1)),
      λ fine. still_recorded s r 1 (g.R.Recorder.found c.args.recorder.now) (g.R.Recorder.failed c.args.recorder.now) (omega arith) fine (refused_stays s (step_of s r) _ handled.0),
    )

pub returns-in-Err-clause-told : goal.returns-in-Err-clause-told
returns-in-Err-clause-told g c = λ clean is_open s at.
    let r = c.args.request.now in
    let handled = rw c.as_str.ensures.value at (c.in-Err.ensures.handled clean is_open s at) in
    let cause = rw c.as_str.ensures.value at (c.in-Err.ensures.cause clean is_open s at) in (
      0,
      plain_answer (g.R.Recorder.failed c.args.recorder.now) (state g.S.Store c.args.office.now.held) c.handle.new.self.closed (state g.S.Store c.handle.new.self.held) page_for s r 0 _
          (inr (refl, (c.in-Err.fault, refl, (cause, handled)))),
      λ fine. none_recorded s (r ∷ []) (g.R.Recorder.found c.args.recorder.now) (g.R.Recorder.failed c.args.recorder.now) fine,
    )

pub returns-then-has_failed-clause-untouched : goal.returns-then-has_failed-clause-untouched
returns-then-has_failed-clause-untouched g c = stays_itself g.R.Recorder.failed c.args.recorder.now (state g.S.Store c.args.office.now.held)

pub returns-in-Ok-clause-untouched : goal.returns-in-Ok-clause-untouched
returns-in-Ok-clause-untouched g c = stays_unfailed g.R.Recorder.failed c.args.recorder.now _ _ _ _ c.has_failed.ensures.value c.if-has_failed.false

pub returns-in-Err-record-clause-untouched : goal.returns-in-Err-record-clause-untouched
returns-in-Err-record-clause-untouched g c = stays_unfailed g.R.Recorder.failed c.args.recorder.now _ _ _ _ c.has_failed.ensures.value c.if-has_failed.false

pub returns-in-Ok-Kept-clause-untouched : goal.returns-in-Ok-Kept-clause-untouched
returns-in-Ok-Kept-clause-untouched g c = stays_unfailed g.R.Recorder.failed c.args.recorder.now _ _ _ _ c.has_failed.ensures.value c.if-has_failed.false

pub returns-in-Ok-Refused-clause-untouched : goal.returns-in-Ok-Refused-clause-untouched
returns-in-Ok-Refused-clause-untouched g c = stays_unfailed g.R.Recorder.failed c.args.recorder.now _ _ _ _ c.has_failed.ensures.value c.if-has_failed.false

pub returns-in-Err-clause-untouched : goal.returns-in-Err-clause-untouched
returns-in-Err-clause-untouched g c = stays_unfailed g.R.Recorder.failed c.args.recorder.now _ _ _ _ c.has_failed.ensures.value c.if-has_failed.false
