-- The invariant of the loop in `has_verdict`.
use Rattle.std.proofs.Common.{◌≡◌, map, drop}
use Rattle.register.specs.Offices.{judged_entry}
use Rattle.register.specs.Agreement.{has_verdict}
use Rattle.register.proofs.agreement.has_verdict.Given as goal

abbrev pub invariant-loop-judged : goal.invariant-loop-judged
invariant-loop-judged l = has_verdict (map judged_entry l.verdicts) l.paper ≡ has_verdict (map judged_entry (drop l.judged-index l.verdicts)) l.paper
