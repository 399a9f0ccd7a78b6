-- The invariant of the loop in `by_verdicts`.
use Rattle.std.proofs.Common.{◌≡◌, ◌==◌, map, drop, find}
use Rattle.register.specs.Offices.{JudgedEntry, judged_entry}
use Rattle.register.specs.Polls.{by_verdict}
use Rattle.register.proofs.polls.by_verdicts.Given as goal

abbrev pub invariant-loop-judged : goal.invariant-loop-judged
invariant-loop-judged l =
    by_verdict l.columns (find (λ (v : JudgedEntry). v.paper == l.paper) (map judged_entry l.verdicts))
    ≡ by_verdict l.columns (find (λ (v : JudgedEntry). v.paper == l.paper) (map judged_entry (drop l.judged-index l.verdicts)))
