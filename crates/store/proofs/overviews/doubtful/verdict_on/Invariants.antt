-- The invariant of the loop in `verdict_on`.
use Rattle.std.proofs.Common.{◌≡◌, map, drop}
use Rattle.register.specs.Offices.{judged_entry}
use Rattle.store.specs.Overviews.{verdict_on}
use Rattle.store.proofs.overviews.doubtful.verdict_on.Given as goal

abbrev pub invariant-loop-judged : goal.invariant-loop-judged
invariant-loop-judged l = verdict_on (map judged_entry l.verdicts) l.paper ≡ verdict_on (map judged_entry (drop l.judged-index l.verdicts)) l.paper
