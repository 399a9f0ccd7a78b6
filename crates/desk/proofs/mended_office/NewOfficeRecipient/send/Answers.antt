-- Proof that `send` meets its contract.
use Rattle.register.specs.Machine.{step_of}
use Rattle.desk.proofs.MendLemmas.{sent_again, sent_done, sent_no}
use Rattle.desk.proofs.mended_office.NewOfficeRecipient.send.Goals as goal

pub returns-in-Ok-Done-clause-sent : goal.returns-in-Ok-Done-clause-sent
returns-in-Ok-Done-clause-sent g c clean s at =
    let handled = rw c.in-Ok-Done.field-0-is at (rw c.as_str.ensures.value at (c.in-Ok-Done.ensures.handled clean at.0 s at.1)) in
    (sent_done (step_of s c.args.order.now) _ handled.0, (handled.1.is_open, handled.1.at))

pub returns-in-Ok-Kept-clause-sent : goal.returns-in-Ok-Kept-clause-sent
returns-in-Ok-Kept-clause-sent g c clean s at =
    let handled = rw c.in-Ok-Kept.field-0-is at (rw c.as_str.ensures.value at (c.in-Ok-Kept.ensures.handled clean at.0 s at.1)) in
    (sent_again (step_of s c.args.order.now) _ handled.0, (handled.1.is_open, handled.1.at))

pub returns-in-Ok-Refused-clause-sent : goal.returns-in-Ok-Refused-clause-sent
returns-in-Ok-Refused-clause-sent g c clean s at =
    let handled = rw c.in-Ok-Refused.field-0-is at (rw c.as_str.ensures.value at (c.in-Ok-Refused.ensures.handled clean at.0 s at.1)) in
    (sent_no (step_of s c.args.order.now) c.in-Ok-Refused.refusal handled.0, (handled.1.is_open, handled.1.at))
