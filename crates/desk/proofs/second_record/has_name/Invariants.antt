-- The invariant of the loop in `has_name`: none of the requests so far has the name.
use Rattle.std.proofs.Common.{◌≡◌, drop}
use Rattle.std.specs.List.{list_any}
use Rattle.desk.specs.Seconds.{has_name}
use Rattle.desk.proofs.second_record.has_name.Given as goal

abbrev pub invariant-loop-request : goal.invariant-loop-request
invariant-loop-request l = list_any (has_name l.actor l.id) l.requests ≡ list_any (has_name l.actor l.id) (drop l.request-index l.requests)
