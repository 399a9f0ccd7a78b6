-- Proof that `is_line_of` meets its contract.
use Rattle.std.proofs.Common.{◌≡◌, ◌∷◌, [], arith, length}
use Rattle.desk.proofs.RequestLemmas.{sends_many, sends_one, sends_other}
use Rattle.desk.proofs.request_lines.is_line_of.Goals as goal

-- the text isn't a script of requests
pub returns-in_default-clause-other : goal.returns-in_default-clause-other
returns-in_default-clause-other c none line = (rw c.in_default.is at c.in_ok-requests.ensures.none) (line.said ∷ []) line.script

-- it is a script of another number of requests
pub returns-then-len-ne1-clause-other : goal.returns-then-len-ne1-clause-other
returns-then-len-ne1-clause-other c none line =
    sends_many c.args.text.now c.args.request.now c.in-Some.requests.items (rw c.in-Some.is at c.in_ok-requests.ensures.some)
    (λ one. omega (arith, c.len.ensures, c.if-len-ne1.true, c.in-Some.requests.ok.0, one)) line

-- the text is one whole line, and the only request that was parsed from it is the same
pub returns-clause-sends : goal.returns-clause-sends
returns-clause-sends c sure =
    let one : length c.in-Some.requests.items ≡ 1 = omega (arith, c.len.ensures, c.if-len-ne1.false, c.in-Some.requests.ok.0) in
    sends_one c.args.text.now c.args.request.now c.in-Some.requests.items c.index.result.now c.is_whole_line.result c.is_same_request.result
    one c.index.ensures (rw c.in-Some.is at c.in_ok-requests.ensures.some) c.is_whole_line.ensures.whole c.is_same_request.ensures.same sure

-- or it isn't
pub returns-clause-other : goal.returns-clause-other
returns-clause-other c none line =
    let one : length c.in-Some.requests.items ≡ 1 = omega (arith, c.len.ensures, c.if-len-ne1.false, c.in-Some.requests.ok.0) in
    sends_other c.args.text.now c.args.request.now c.in-Some.requests.items c.index.result.now c.is_whole_line.result c.is_same_request.result
    one c.index.ensures (rw c.in-Some.is at c.in_ok-requests.ensures.some) c.is_whole_line.ensures.also c.is_same_request.ensures.also none line
