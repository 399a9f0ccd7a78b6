-- Proof that `more_here` meets its contract.
use Rattle.std.proofs.Common.{◌≡◌, ◌≤◌, ap, arith, inl, inr, length, refl, string_bytes}
use Rattle.std.proofs.lemmas.List.{length-map}
use Rattle.register.specs.Offices.{receipt_entry}
use Rattle.rowcheck.specs.States.{state_of}
use Rattle.tables.specs.declared.fault.Fault.TheVariants.{Memory}
use Rattle.desk.specs.Pages.{page_of, unequal}
use Rattle.desk.proofs.SecondLemmas.{none_fewer, told_apart, told_here}
use Rattle.desk.proofs.second_record.more_here.Goals as goal

-- the requests of both lead to the office
pub returns-in-Ok-true : goal.returns-in-Ok-true
returns-in-Ok-true g c clean blank =
    let lead = rw (c.in-Ok-true.is, c.in-Ok-true.field-0-test) at (c.leads_to-led.ensures.leads clean blank) in
    let more = c.in-Ok.more in
    told_here (state_of c.args.rows.now) c.args.path.now c.args.requests.items (unequal (string_bytes more.line)) c.args.request more.requests.items c.in-Ok.ensures.requests
    (ap unequal c.in-Ok.ensures.line) (rw c.deref.ensures.value at (lead refl))

-- they don't
pub returns-in-Ok-false : goal.returns-in-Ok-false
returns-in-Ok-false g c clean blank =
    let s = state_of c.args.rows.now in
    let low : c.len-there.result ≤ c.len-here.result = omega (arith, c.requires) in
    let one : c.len-there.result ≡ length c.args.requests.items = omega arith in
    let two : c.len-here.result ≡ length (state_of c.args.rows.now).receipts = omega (arith, length-map c.args.rows.now.receipts.items receipt_entry) in
    told_apart s c.args.path.now c.args.requests.items (page_of c.apart.result) _ _ one two c.apart.ensures
    (none_fewer s c.args.path.now c.args.requests.items (page_of c.apart.result) _ _ one two low)

-- an allocation or the trial failed
pub returns-in-Err : goal.returns-in-Err
returns-in-Err g c clean blank = inr (Memory, refl, inl refl)

pub returns : goal.returns
returns g c clean blank = inr (c.in-Err-led.fault, refl, rw c.in-Err-led.is at c.leads_to-led.ensures.told)
