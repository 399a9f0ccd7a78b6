-- The invariant of the loop in `put_doubtful`.
use Rattle.std.proofs.Common.{◌≡◌, ◌++◌, map, drop}
use Rattle.register.specs.Offices.{keyed_entry, judged_entry}
use Rattle.store.specs.Overviews.{doubtful_view, doubtful_among}
use Rattle.store.proofs.overviews.doubtful.put_doubtful.Given as goal

abbrev pub invariant-loop-keyed : goal.invariant-loop-keyed
invariant-loop-keyed l =
    let all = doubtful_among l.columns (map judged_entry l.verdicts) in
    map doubtful_view l.found.items ++ all (map keyed_entry (drop l.keyed-index l.papers)) ≡ map doubtful_view l.initial.found.items ++ all (map keyed_entry l.papers)
