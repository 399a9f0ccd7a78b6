-- Proof that `handle_keying` meets its contract.
use Rattle.std.proofs.Common.{◌∙◌, refl, sym}
use Rattle.register.specs.declared.command.Command.TheVariants as command
use Rattle.register.specs.declared.command.Request.{Request}
use Rattle.register.specs.declared.keyings.KeyingCommand.{KeyingCommand}
use Rattle.wire.specs.Serving.{keying_entry}
use Rattle.wire.proofs.AnswerLemmas.{AcceptsKeying-done, AcceptsKeying-faulted, AcceptsKeying-none, Readies-answered, Readies-faulted}
use Rattle.wire.proofs.answering.handle_keying.Goals as goal

-- the office accepted the keying just now
pub returns-then-is_done-clause-answers : goal.returns-then-is_done-clause-answers
returns-then-is_done-clause-answers g c = λ clean open_before s at.
    let k = c.args.keying in
    let handed : KeyingCommand = record { batch = k.batch; round = k.round; papers = k.papers } in
    let request : Request = record { actor = k.clerk; id = k.id; command = command.Keying handed } in
    Readies-answered s k.clerk k.batch _ request c.in-Ok.answer c.answered-response.result _ _
    (record { actor = refl; id = refl; handed = handed; command = refl; about = refl; round = refl; papers = refl })
    (rw c.as_str.ensures.value at (c.in-Ok.ensures.handled clean open_before s at)) c.answered-response.ensures

pub returns-then-is_done-clause-accepts : goal.returns-then-is_done-clause-accepts
returns-then-is_done-clause-accepts g c = λ clean open_before s at.
    let k = c.args.keying in
    let handed : KeyingCommand = record { batch = k.batch; round = k.round; papers = k.papers } in
    let request : Request = record { actor = k.clerk; id = k.id; command = command.Keying handed } in
    AcceptsKeying-done s k.clerk k.batch (keying_entry k) request c.in-Ok.answer c.answered-response.result _ _
    (record { actor = refl; id = refl; handed = handed; command = refl; about = refl; round = refl; papers = refl })
    (sym c.is_done.ensures ∙ c.if-is_done.true)
    (rw c.as_str.ensures.value at (c.in-Ok.ensures.handled clean open_before s at)) c.answered-response.ensures

pub returns-then-is_done-clause-handed : goal.returns-then-is_done-clause-handed
returns-then-is_done-clause-handed g c =
    let k = c.args.keying in
    let handed : KeyingCommand = record { batch = k.batch; round = k.round; papers = k.papers } in
    record { actor = refl; id = refl; handed = handed; command = refl; about = refl; round = refl; papers = refl }

-- the office accepted it earlier, or refused it
pub returns-in-Ok-clause-answers : goal.returns-in-Ok-clause-answers
returns-in-Ok-clause-answers g c = λ clean open_before s at.
    let k = c.args.keying in
    let handed : KeyingCommand = record { batch = k.batch; round = k.round; papers = k.papers } in
    let request : Request = record { actor = k.clerk; id = k.id; command = command.Keying handed } in
    Readies-answered s k.clerk k.batch _ request c.in-Ok.answer c.answered-response.result _ _
    (record { actor = refl; id = refl; handed = handed; command = refl; about = refl; round = refl; papers = refl })
    (rw c.as_str.ensures.value at (c.in-Ok.ensures.handled clean open_before s at)) c.answered-response.ensures

pub returns-in-Ok-clause-accepts : goal.returns-in-Ok-clause-accepts
returns-in-Ok-clause-accepts g c = λ clean open_before s at.
    let k = c.args.keying in
    let handed : KeyingCommand = record { batch = k.batch; round = k.round; papers = k.papers } in
    let request : Request = record { actor = k.clerk; id = k.id; command = command.Keying handed } in
    AcceptsKeying-none s k.clerk k.batch (keying_entry k) request c.in-Ok.answer c.answered-response.result _ _
    (record { actor = refl; id = refl; handed = handed; command = refl; about = refl; round = refl; papers = refl })
    (sym c.is_done.ensures ∙ c.if-is_done.false)
    (rw c.as_str.ensures.value at (c.in-Ok.ensures.handled clean open_before s at)) c.answered-response.ensures

-- the office returned a fault
pub returns-clause-answers : goal.returns-clause-answers
returns-clause-answers g c = λ clean open_before s at.
    let k = c.args.keying in
    let handed : KeyingCommand = record { batch = k.batch; round = k.round; papers = k.papers } in
    let request : Request = record { actor = k.clerk; id = k.id; command = command.Keying handed } in
    Readies-faulted s k.clerk k.batch _ request c.in-Err.fault c.faulted.result _ _ (record { actor = refl; id = refl; handed = handed; command = refl; about = refl; round = refl; papers = refl })
    (rw c.as_str.ensures.value at (c.in-Err.ensures.handled clean open_before s at)) c.faulted.ensures

pub returns-clause-accepts : goal.returns-clause-accepts
returns-clause-accepts g c = λ clean open_before s at.
    let k = c.args.keying in
    let handed : KeyingCommand = record { batch = k.batch; round = k.round; papers = k.papers } in
    let request : Request = record { actor = k.clerk; id = k.id; command = command.Keying handed } in
    AcceptsKeying-faulted s k.clerk k.batch (keying_entry k) request c.in-Err.fault c.faulted.result _ _
    (record { actor = refl; id = refl; handed = handed; command = refl; about = refl; round = refl; papers = refl })
    (rw c.as_str.ensures.value at (c.in-Err.ensures.handled clean open_before s at)) c.faulted.ensures
