-- Proof that `orders_in` meets its contract.
use Rattle.std.proofs.Common.{◌∙◌, arith, map, string_bytes}
use Rattle.std.proofs.lemmas.List.{length-map}
use Rattle.desk.specs.Pages.{page_of}
use Rattle.desk.proofs.MendLemmas.{told_unsendable, unsendable_number, unsendable_script}
use Rattle.desk.proofs.mended_office.orders_in.Goals as goal

-- the script has another number of requests than there are texts
pub returns-in-Ok-Some-clause-err : goal.returns-in-Ok-Some-clause-err
returns-in-Ok-Some-clause-err c =
    let texts = map string_bytes c.args.lines.now in
    told_unsendable texts (page_of c.unsent.result)
    (unsendable_number texts c.as_str.result.now c.in-Ok-Some.orders.items (c.as_str.ensures.value ∙ c.in-Ok.ensures) (rw c.in-Ok-Some.field-0-is at c.in-Ok-Some.ensures.some)
    (λ same. absurd (omega (arith, same, length-map c.args.lines.now string_bytes)))) c.unsent.ensures

-- it isn't a script of requests
pub returns-in-Ok-None-clause-err : goal.returns-in-Ok-None-clause-err
returns-in-Ok-None-clause-err c =
    let texts = map string_bytes c.args.lines.now in
    told_unsendable texts (page_of c.unsent-in-Ok-None.result)
    (unsendable_script texts c.as_str.result.now (c.as_str.ensures.value ∙ c.in-Ok.ensures) (rw c.in-Ok-None.field-0-is at c.in-Ok-None.ensures.none)) c.unsent-in-Ok-None.ensures
