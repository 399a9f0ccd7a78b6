-- The invariant of the loop in `counted_among`.
use Rattle.std.proofs.Common.{◌≡◌, ◌++◌, map, drop}
use Rattle.register.specs.Offices.{keyed_entry, judged_entry}
use Rattle.store.specs.Overviews.{paper_view, paper_view_of}
use Rattle.store.proofs.overviews.papers.counted_among.Given as goal

abbrev pub invariant-loop-keyed : goal.invariant-loop-keyed
invariant-loop-keyed l =
    let counted = paper_view_of l.columns (map judged_entry l.verdicts) in
    map paper_view l.found.items ++ map counted (map keyed_entry (drop l.keyed-index l.papers)) ≡ map counted (map keyed_entry l.papers)
