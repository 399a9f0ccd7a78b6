-- The invariant of the loop in `elected_names`: the elected candidates so far, followed by those among the remaining ones, are all the elected candidates.
use Rattle.std.proofs.Common.{◌≡◌, ◌++◌, map, drop, filter}
use Rattle.register.specs.Offices.{candidate_entry}
use Rattle.sheet.specs.Index.{elected_shown}
use Rattle.office.specs.Index.{is_among_elected}
use Rattle.office.specs.Sheets.{candidate_shown}
use Rattle.office.proofs.index.elected_names.Given as goal

abbrev pub invariant-loop-candidate : goal.invariant-loop-candidate
invariant-loop-candidate l =
    map elected_shown l.names.items ++ map candidate_shown (filter (is_among_elected l.elected) (map candidate_entry (drop l.candidate-index l.candidates)))
    ≡ map candidate_shown (filter (is_among_elected l.elected) (map candidate_entry l.candidates))
