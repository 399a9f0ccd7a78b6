-- Proof that `compared` meets its contract.
use Rattle.std.proofs.Common.{◌≡◌, arith, inr, length, refl}
use Rattle.rowcheck.specs.States.{state_of}
use Rattle.desk.specs.Pages.{page_of}
use Rattle.desk.proofs.SecondLemmas.{told_different, told_same}
use Rattle.desk.proofs.second_record.compared.Goals as goal

-- the requests lead to the office
pub returns-in-Ok-true : goal.returns-in-Ok-true
returns-in-Ok-true g c clean also blank other =
    let lead = rw (c.in-Ok-true.is, c.in-Ok-true.field-0-test) at (c.leads_to-led.ensures.leads clean blank) in
    let count : c.len.result ≡ length c.args.requests.items = omega arith in
    told_same (state_of c.args.rows.now) c.args.path.now c.args.requests.items (page_of c.same_as.result) _ count c.same_as.ensures (rw c.deref.ensures.value at (lead refl))

-- they don't
pub returns-in-Ok-false : goal.returns-in-Ok-false
returns-in-Ok-false g c clean also blank other =
    let not_led = rw (c.in-Ok-false.is, c.in-Ok-false.field-0-test) at (c.leads_to-led.ensures.fails clean blank) in
    told_different (state_of c.args.rows.now) c.args.path.now c.args.requests.items (page_of c.difference-outcome.result.0) (rw c.deref.ensures.value at (not_led refl))
    (c.difference-outcome.ensures also other)

-- the trial failed
pub returns-in-Err : goal.returns-in-Err
returns-in-Err g c clean also blank other = inr (inr (c.in-Err.fault, refl, rw c.in-Err.is at c.leads_to-led.ensures.told))
