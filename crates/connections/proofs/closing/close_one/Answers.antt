-- Why `close_one` keeps its promise.
use Rattle.std.proofs.Common.{◌≤◌, ◌-◌, arith}
use Rattle.connections.proofs.ClosingLemmas.{goes_longest}
use Rattle.connections.proofs.closing.close_one.Goals as goal

pub returns-clause-go : goal.returns-clause-go
returns-clause-go g c =
    let rule = c.args.rule in
    let one = c.index.result.now in
    let patient : rule.least ≤ rule.now - one.since = omega arith in
    let longest_waiting = c.in-Some.ensures.some in
    goes_longest rule (g.D.Network.known c.args.network.now) (g.D.Network.known c.close_at.new.network) c.args.table.now c.close_at.new.table
    c.as_slice.result.now c.in-Some.place one c.as_slice.ensures.value longest_waiting.0 longest_waiting.1
    c.index.ensures patient c.close_at.ensures.closed c.close_at.ensures.came c.close_at.ensures.counted
