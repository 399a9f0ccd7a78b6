use Rattle.std.proofs.Common.{ap, subst, ◌∙◌, arith}
use Rattle.order_protocol.specs.Messages.{order_message_entry}
use Rattle.order_protocol.specs.Reading.{Gives, order_message_in}
use Rattle.order_protocol.proofs.MessageParts.{is_found, handed_again}
use Rattle.order_protocol.proofs.decoding.decode_message.Goals as goal

pub returns-clause-found : goal.returns-clause-found
returns-clause-found c = is_found c.args.bytes.now c.all.result (λ i. omega (arith, c.type_inv.bytes i)) c.all.ensures

pub returns-clause-only : goal.returns-clause-only
returns-clause-only c = λ h fits e. subst (λ f. Gives order_message_entry c.all.result f) (ap order_message_in e ∙ handed_again h fits) c.all.ensures
