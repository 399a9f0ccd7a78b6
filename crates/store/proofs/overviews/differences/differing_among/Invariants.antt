-- The invariant of the loop in `differing_among`.
use Rattle.std.proofs.Common.{◌≡◌, ◌++◌, ◌∷◌, [], map, filter, drop}
use Rattle.register.specs.Offices.{keyed_entry}
use Rattle.register.specs.Agreement.{is_keyed}
use Rattle.store.specs.Overviews.{differing_among}
use Rattle.store.proofs.overviews.differences.differing_among.Given as goal

abbrev pub invariant-loop-keyed : goal.invariant-loop-keyed
invariant-loop-keyed l =
    let others = filter is_keyed (map keyed_entry l.second ∷ map keyed_entry l.third ∷ []) in
    l.papers.items ++ differing_among others (map keyed_entry (drop l.keyed-index l.keying)) ≡ differing_among others (map keyed_entry l.keying)
