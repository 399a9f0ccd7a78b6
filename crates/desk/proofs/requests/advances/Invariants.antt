-- The invariant of the loop in `advances`: the requests so far are the first ones.
use Rattle.std.proofs.Common.{◌≡◌, map}
use Rattle.desk.specs.Orders.{sent_as}
use Rattle.desk.specs.Requests.{advances}
use Rattle.desk.proofs.requests.advances.Given as goal

abbrev pub invariant-loop-before : goal.invariant-loop-before
invariant-loop-before l = map sent_as l.requests.items ≡ advances l.ward l.id l.before
