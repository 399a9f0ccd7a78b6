-- The invariant of the loop in `count_each`.
use Rattle.std.proofs.Common.{◌≡◌, ◌++◌, List, ℕ, map, take, drop, fold}
use Rattle.std.specs.List.{flat_map}
use Rattle.register.specs.Offices.{keyed_entry, judged_entry}
use Rattle.register.specs.Polls.{judgements_on, preferences_by}
use Rattle.register.specs.Walks.{and_rejected}
use Rattle.register.proofs.polls.Ballots.count_each.Given as goal

abbrev pub invariant-loop-keyed : goal.invariant-loop-keyed
invariant-loop-keyed g l = record {
  papers : (papers : List (List ℕ)) → g.P.KeepsPapers.holds l.initial.self.papers papers
      → g.P.KeepsPapers.holds l.self.papers (papers ++ flat_map preferences_by (judgements_on l.columns (map judged_entry l.verdicts) (map keyed_entry (take l.keyed-index l.keying))));
  rejected : fold and_rejected l.self.rejected (judgements_on l.columns (map judged_entry l.verdicts) (map keyed_entry (drop l.keyed-index l.keying)))
      ≡ fold and_rejected l.initial.self.rejected (judgements_on l.columns (map judged_entry l.verdicts) (map keyed_entry l.keying));
  settled : l.self.settled ≡ l.initial.self.settled;
}
