-- Proof that `difference` meets its contract.
use Rattle.std.proofs.Common.{◌≡◌, ◌<◌, ◌≤◌, arith, length}
use Rattle.std.proofs.lemmas.List.{length-map}
use Rattle.register.specs.Offices.{receipt_entry}
use Rattle.rowcheck.specs.States.{state_of}
use Rattle.desk.specs.Pages.{page_of}
use Rattle.desk.proofs.SecondLemmas.{none_fewer, told_apart, told_unjournalled}
use Rattle.desk.proofs.second_record.difference.Goals as goal

-- the office has more requests, and the journal has no other one
pub returns-in-Ok-None : goal.returns-in-Ok-None
returns-in-Ok-None g c clean blank =
    let s = state_of c.args.rows.now in
    let one : c.len-there.result ≡ length c.args.requests.items = omega arith in
    let two : c.len-here.result ≡ length (state_of c.args.rows.now).receipts = omega (arith, length-map c.args.rows.now.receipts.items receipt_entry) in
    let low : c.len-there.result ≤ c.len-here.result = omega arith in
    told_apart s c.args.path.now c.args.requests.items (page_of c.apart.result) _ _ one two c.apart.ensures
    (none_fewer s c.args.path.now c.args.requests.items (page_of c.apart.result) _ _ one two low)

-- there is no journal, or an allocation failed
pub returns-in-Err : goal.returns-in-Err
returns-in-Err g c clean blank =
    let s = state_of c.args.rows.now in
    let one : c.len-there.result ≡ length c.args.requests.items = omega arith in
    let two : c.len-here.result ≡ length (state_of c.args.rows.now).receipts = omega (arith, length-map c.args.rows.now.receipts.items receipt_entry) in
    let more : c.len-there.result < c.len-here.result = omega arith in
    told_unjournalled s c.args.path.now c.args.requests.items (page_of c.in-Err.outcome) _ _ one two more c.in-Err.ensures.none
