-- Proof that `more_there` meets its contract.
use Rattle.std.proofs.Common.{◌≡◌, arith, inr, length, refl}
use Rattle.std.proofs.lemmas.List.{length-map}
use Rattle.register.specs.Offices.{receipt_entry}
use Rattle.rowcheck.specs.States.{state_of}
use Rattle.desk.specs.Pages.{page_of}
use Rattle.desk.proofs.SecondLemmas.{not_last, told_apart, told_there}
use Rattle.desk.proofs.second_record.more_there.Goals as goal

-- there are none
pub returns-in-None : goal.returns-in-None
returns-in-None g c clean blank =
    let one : c.len-there.result ≡ length c.args.requests.items = omega arith in
    let two : c.len-here.result ≡ length (state_of c.args.rows.now).receipts = omega (arith, length-map c.args.rows.now.receipts.items receipt_entry) in
    let none = (rw c.in-None.is at c.pop.ensures.cases).0 in
    told_apart (state_of c.args.rows.now) c.args.path.now c.args.requests.items (page_of c.apart.result) _ _ one two c.apart.ensures (λ few earlier r is lead. absurd (omega (arith, few, none)))

-- the requests before the last lead to the office
pub returns-in-Ok-true : goal.returns-in-Ok-true
returns-in-Ok-true g c clean blank =
    let lead = rw (c.in-Ok-true.is, c.in-Ok-true.field-0-test) at (c.leads_to-led.ensures.leads clean blank) in
    let whole = rw c.in-Some.is at c.pop.ensures.items in
    told_there (state_of c.args.rows.now) c.args.path.now c.args.requests.items (page_of c.more.result) _ c.in-Some.last whole c.more.ensures (rw c.deref.ensures.value at (lead refl))

-- they don't
pub returns-in-Ok-false : goal.returns-in-Ok-false
returns-in-Ok-false g c clean blank =
    let other = rw (c.in-Ok-false.is, c.in-Ok-false.field-0-test) at (c.leads_to-led.ensures.fails clean blank) in
    let whole = rw c.in-Some.is at c.pop.ensures.items in
    let s = state_of c.args.rows.now in
    let one : c.len-there.result ≡ length c.args.requests.items = omega arith in
    let two : c.len-here.result ≡ length (state_of c.args.rows.now).receipts = omega (arith, length-map c.args.rows.now.receipts.items receipt_entry) in
    told_apart s c.args.path.now c.args.requests.items (page_of c.apart-in-Ok-false.result) _ _ one two c.apart-in-Ok-false.ensures
    (not_last s c.args.path.now c.args.requests.items (page_of c.apart-in-Ok-false.result) _ c.in-Some.last whole (rw c.deref.ensures.value at (other refl)))

-- the trial failed
pub returns : goal.returns
returns g c clean blank = inr (c.in-Err.fault, refl, rw c.in-Err.is at c.leads_to-led.ensures.told)
