-- Proof that `printed_response` meets its contract.
use Rattle.server.proofs.ConsoleLemmas.{told_failed, told_printed}
use Rattle.server.proofs.console_order.printed_response.Goals as goal

pub returns-in-Ok-from_utf8 : goal.returns-in-Ok-from_utf8
returns-in-Ok-from_utf8 c =
    let first = c.in-Ok.ensures.cases in
    let second = c.in-Ok-from_utf8.ensures.cases in
    told_printed c.args.status c.args.out.now c.args.err.now c.in-Ok.output.now c.in-Ok-from_utf8.errors.now c.of_order.result first.0 first.1 second.0 second.1 c.of_order.ensures

pub returns-in-Err-from_utf8 : goal.returns-in-Err-from_utf8
returns-in-Err-from_utf8 c =
    told_failed c.args.status c.args.out.now c.args.err.now c.output_failed.result (λ text text_too. c.in-Err-from_utf8.ensures.cases.0 text_too) c.output_failed.ensures

pub returns-in-Err : goal.returns-in-Err
returns-in-Err c = told_failed c.args.status c.args.out.now c.args.err.now c.output_failed-in-Err.result (λ text text_too. c.in-Err.ensures.cases.0 text) c.output_failed-in-Err.ensures
