-- The invariant of the loop in `numbered_of`: the candidates so far, followed by those of the remaining numbers, are all candidates.
use Rattle.std.proofs.Common.{◌≡◌, ◌++◌, drop, map}
use Rattle.register.specs.Offices.{candidate_entry}
use Rattle.forms.specs.Lots.{candidate_shown}
use Rattle.desk.specs.Forms.{candidate_numbered}
use Rattle.desk.proofs.ward_forms.numbered_of.Given as goal

abbrev pub invariant-loop-number : goal.invariant-loop-number
invariant-loop-number l =
    let shown = candidate_numbered (map candidate_entry l.candidates) in
    map candidate_shown l.shown.items ++ map shown (drop l.number-index l.all) ≡ map shown l.all
