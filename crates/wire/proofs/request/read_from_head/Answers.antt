-- Proof that `read_from_head` meets its contract.
use Rattle.std.proofs.Common.{rules}
use Rattle.wire.specs.Gates.{settings_entry}
use Rattle.wire.proofs.RequestLemmas.{Asks-said, FailsAfter-said, rest_of}
use Rattle.wire.proofs.request.read_from_head.Goals as goal

pub returns-clause-asks : goal.returns-clause-asks
returns-clause-asks g c =
    Asks-said (settings_entry c.args.settings) _ _ c.in-Some.front.spans c.found-head.result (g.R.Source.held c.args.reader.now) (g.R.Source.held c.read_head.new.reader)
    (rw c.in-Some.is at c.in_ok-front.ensures.head) c.found-head.ensures c.read_body_after.result (search rules) (search rules)
    (rw c.in-Some.is at c.in_ok-front.ensures.consumed) _ (rest_of c.in-Some.front.spans.len _)
    c.read_body_after.ensures.asks

pub returns-clause-wanting : goal.returns-clause-wanting
returns-clause-wanting g c =
    FailsAfter-said (settings_entry c.args.settings) _ _ c.in-Some.front.spans c.found-head.result (g.R.Source.held c.args.reader.now) (g.R.Source.held c.read_head.new.reader) _
    (rw c.in-Some.is at c.in_ok-front.ensures.head) c.found-head.ensures c.read_body_after.result (search rules) (search rules)
    (rw c.in-Some.is at c.in_ok-front.ensures.consumed) _ (rest_of c.in-Some.front.spans.len _)
    c.read_body_after.ensures.wanting
