use Rattle.std.proofs.Common.{◌≡◌, ◌<◌, ◌+◌, false, length, map, take, vec_len, Ok, Err, IfSome, sym, ap, subst, ◌∙◌, arith}
use Rattle.sqlite.specs.State.{HasCleanDisk}
use Rattle.sqlite.specs.Held.{state}
use Rattle.register.specs.Offices.{OfficeState, empty_office}
use Rattle.register.specs.Machine.{step, step_of, after}
use Rattle.store.specs.StateTables.{IsAt, LeavesState}
use Rattle.store.proofs.KeepLemmas.{connection_then}
use Rattle.office.specs.Answers.{IsOpenAt, Handled, told, told_of}
use Rattle.office.specs.Runs.{outcomes, IsAfterBeginning, StopsAfter}
use Rattle.office.proofs.RunLemmas.{answers_more, keeps_beginning, after_next, stops_after, stops_at_beginning}
use Rattle.office.proofs.ClerkLemmas.{told_alone}
use Rattle.office.proofs.open_office.Office.run.Goals as goal

-- the answers could not be allocated: nothing was handled
pub returns-in_default-clause-headline : goal.returns-in_default-clause-headline
returns-in_default-clause-headline g c clean is_open earlier at =
    subst (λ n. LeavesState (state g.S.Store c.args.self.now.held) (IsAfterBeginning earlier c.args.requests.now n))
    (sym (ap vec_len c.stopped-in_default.ensures.answers ∙ c.new-in_default.ensures.len))
    (keeps_beginning earlier c.args.requests.now 0 (state g.S.Store c.args.self.now.held) (omega arith) at)

-- the request at which a fault ended the list
pub returns-in-Err-clause-fault : goal.returns-in-Err-clause-fault
returns-in-Err-clause-fault g c clean is_open s at =
    let before = c.in-Err.ensures.clean clean in
    let here = c.loop-request.invariant.open_at before is_open s at in
    let i = c.loop-request.request-index in
    let rs = c.args.requests.now in
    let r = c.request-item.result in
    let st = state g.S.Store c.handle.new.self.held in
    let here_s = after s (take i rs) in
    let handled = subst (λ id. Handled here_s (step here_s r.actor id r.command) (Err c.in-Err.fault) c.handle.new.self.closed st) c.as_str.ensures.value
    (c.in-Err.ensures.handled clean here.is_open here_s here.at) in
    let stop = stops_after s rs i r c.in-Err.fault c.handle.new.self.closed st (omega arith) c.request-item.is handled in
    let counted : i ≡ vec_len c.stopped-in-Err.result.answers = sym c.loop-request.invariant.count ∙ sym (ap vec_len c.stopped-in-Err.ensures.answers) in
    subst (λ f. IfSome f (StopsAfter s rs (vec_len c.stopped-in-Err.result.answers) c.handle.new.self.closed st)) (sym c.stopped-in-Err.ensures.fault)
    (subst (λ n. StopsAfter s rs n c.handle.new.self.closed st c.in-Err.fault) counted stop)

pub returns-in-Err-clause-headline : goal.returns-in-Err-clause-headline
returns-in-Err-clause-headline g c clean is_open earlier at =
    let before = c.in-Err.ensures.clean clean in
    let s = after empty_office earlier in
    let here = c.loop-request.invariant.open_at before is_open s at in
    let i = c.loop-request.request-index in
    let rs = c.args.requests.now in
    let r = c.request-item.result in
    let st = state g.S.Store c.handle.new.self.held in
    let here_s = after s (take i rs) in
    let handled = subst (λ id. Handled here_s (step here_s r.actor id r.command) (Err c.in-Err.fault) c.handle.new.self.closed st) c.as_str.ensures.value
    (c.in-Err.ensures.handled clean here.is_open here_s here.at) in
    let counted : i ≡ vec_len c.stopped-in-Err.result.answers = sym c.loop-request.invariant.count ∙ sym (ap vec_len c.stopped-in-Err.ensures.answers) in
    subst (λ n. LeavesState st (IsAfterBeginning earlier rs n)) counted (stops_at_beginning earlier rs i r c.in-Err.fault c.handle.new.self.closed st (omega arith) c.request-item.is handled)

pub loop-request-preserved : goal.loop-request-preserved
loop-request-preserved g c =
    let i = c.loop-request.request-index in
    let rs = c.args.requests.now in
    let r = c.request-item.result in
    let st = state g.S.Store c.handle.new.self.held in
    let within : i < length rs = omega arith in
    let handled : HasCleanDisk st → c.args.self.now.closed ≡ false → (s : OfficeState) → IsAt s (state g.S.Store c.args.self.now.held)
    → Handled (after s (take i rs)) (step_of (after s (take i rs)) r) (Ok c.in-Ok-handle.answer) c.handle.new.self.closed st = λ clean is_open s at.
    let here = c.loop-request.invariant.open_at (c.in-Ok-handle.ensures.clean clean) is_open s at in
    let here_s = after s (take i rs) in
    subst (λ id. Handled here_s (step here_s r.actor id r.command) (Ok c.in-Ok-handle.answer) c.handle.new.self.closed st) c.as_str.ensures.value
    (c.in-Ok-handle.ensures.handled clean here.is_open here_s here.at) in
    record {
      count = c.put_answer.ensures.count ∙ ap (λ n. n + 1) c.loop-request.invariant.count;
      room = omega arith;
      clean = λ clean. c.loop-request.invariant.clean (c.in-Ok-handle.ensures.clean clean);
      keeps_connection = connection_then _ _ _ c.in-Ok-handle.ensures.clean c.loop-request.invariant.keeps_connection c.handle.ensures.keeps_connection;
      open_at = λ clean is_open s at. subst (λ x. IsOpenAt x c.handle.new.self.closed st) (after_next s rs i r within c.request-item.is) (handled clean is_open s at).1;
      answers = λ clean is_open s at.
          ap (map told) c.put_answer.ensures.items
          ∙ answers_more s rs i r c.loop-request.answers.items c.in-Ok-handle.answer within (c.loop-request.invariant.answers (c.in-Ok-handle.ensures.clean clean) is_open s at)
          ((handled clean is_open s at).0 ∙ ap (λ x. told_of (step_of (after s (take i rs)) x)) c.request-item.is);
    }

-- all requests were answered
pub returns-clause-headline : goal.returns-clause-headline
returns-clause-headline g c clean is_open earlier at =
    let here = c.loop-request.invariant.open_at clean is_open (after empty_office earlier) at in
    let st = state g.S.Store c.loop-request.self.held in
    subst (λ n. LeavesState st (IsAfterBeginning earlier c.args.requests.now n)) (sym c.loop-request.invariant.count)
    (keeps_beginning earlier c.args.requests.now c.loop-request.request-index st c.loop-request.auto.request-index-end here.at)

-- ---- the connection

pub returns-in-Err-clause-keeps_connection : goal.returns-in-Err-clause-keeps_connection
returns-in-Err-clause-keeps_connection g c = connection_then _ _ _ c.in-Err.ensures.clean c.loop-request.invariant.keeps_connection c.handle.ensures.keeps_connection

-- ---- each clerk's answers

pub returns-in_default-clause-blind : goal.returns-in_default-clause-blind
returns-in_default-clause-blind g c clean is_open s at good clerk = told_alone clerk s c.args.requests.now _ _ at.is good (search)

pub returns-in-Err-clause-blind : goal.returns-in-Err-clause-blind
returns-in-Err-clause-blind g c clean is_open s at good clerk =
    let rs = c.args.requests.now in
    let given = c.stopped-in-Err.result.answers in
    let counted : c.loop-request.request-index ≡ vec_len given = sym c.loop-request.invariant.count ∙ sym (ap vec_len c.stopped-in-Err.ensures.answers) in
    told_alone clerk s rs (vec_len given) given.items at.is good
    (ap (λ v. map told v.items) c.stopped-in-Err.ensures.answers
    ∙ c.loop-request.invariant.answers (c.in-Err.ensures.clean clean) is_open s at
    ∙ ap (λ n. map told_of (outcomes s (take n rs))) counted)

pub returns-clause-blind : goal.returns-clause-blind
returns-clause-blind g c clean is_open s at good clerk =
    let rs = c.args.requests.now in
    told_alone clerk s rs (vec_len c.loop-request.answers) c.loop-request.answers.items at.is good
    (c.loop-request.invariant.answers clean is_open s at ∙ ap (λ n. map told_of (outcomes s (take n rs))) (sym c.loop-request.invariant.count))

-- ---- the disk

pub returns-in-Err-clause-clean : goal.returns-in-Err-clause-clean
returns-in-Err-clause-clean g c clean = c.loop-request.invariant.clean (c.in-Err.ensures.clean clean)

pub returns-clause-clean : goal.returns-clause-clean
returns-clause-clean g c clean = c.loop-request.invariant.clean clean
