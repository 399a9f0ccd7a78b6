-- The invariant of the loop in `add_each`.
use Rattle.std.proofs.Common.{map, take}
use Rattle.register.specs.Offices.{keyed_entry, judged_entry}
use Rattle.register.specs.Polls.{StandFor, ballots_by}
use Rattle.store.specs.Settled.{CountAfter}
use Rattle.store.proofs.views.settled.add_each.Given as goal

abbrev pub invariant-loop-keyed : goal.invariant-loop-keyed
invariant-loop-keyed g l = CountAfter g.P.KeepsPapers.holds (λ js. StandFor g.P.KeepsPapers.holds l.initial.ballots (ballots_by js)) l.columns
    (map judged_entry l.verdicts) l.ballots (map keyed_entry (take l.keyed-index l.papers))
