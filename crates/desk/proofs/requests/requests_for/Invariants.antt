use Rattle.std.proofs.Common.{◌≡◌, ◌+◌, ◌++◌, map, drop}
use Rattle.desk.specs.Orders.{sent_as}
use Rattle.desk.specs.Requests.{requests_from}
use Rattle.desk.proofs.requests.requests_for.Given as goal

-- the requests so far, followed by those for the remaining rows, are the requests for all rows
abbrev pub invariant-loop-i : goal.invariant-loop-i
invariant-loop-i g l =
    map sent_as l.requests.items ++ requests_from g.T.ImportRow.asked l.id (l.i + 1) (map g.T.ImportRow.entry (drop l.i l.rows))
    ≡ requests_from g.T.ImportRow.asked l.id 1 (map g.T.ImportRow.entry l.rows)
