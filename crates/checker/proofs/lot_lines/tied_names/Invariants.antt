-- The invariant of the loop in `tied_names`: the names so far, followed by those of the other candidates, are all names.
use Rattle.std.proofs.Common.{◌≡◌, ◌++◌, drop, string_bytes}
use Rattle.sheet.specs.Entries.{candidates_shown}
use Rattle.checker.specs.Counts.{tied_names}
use Rattle.checker.proofs.lot_lines.tied_names.Given as goal

abbrev pub invariant-loop-candidate : goal.invariant-loop-candidate
invariant-loop-candidate l =
    string_bytes l.text ++ tied_names (candidates_shown (drop l.candidate-index l.ward.candidates.now)) l.among ≡ tied_names (candidates_shown l.ward.candidates.now) l.among
