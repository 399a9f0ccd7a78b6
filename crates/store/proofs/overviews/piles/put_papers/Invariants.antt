-- The invariant of the loop in `put_papers`.
use Rattle.std.proofs.Common.{◌≡◌, ◌++◌, map, drop, string_bytes}
use Rattle.register.specs.Offices.{keyed_entry}
use Rattle.store.specs.Overviews.{paper_lines}
use Rattle.store.proofs.overviews.piles.put_papers.Given as goal

abbrev pub invariant-loop-keyed : goal.invariant-loop-keyed
invariant-loop-keyed l = string_bytes l.text ++ paper_lines (map keyed_entry (drop l.keyed-index l.papers)) ≡ string_bytes l.initial.text ++ paper_lines (map keyed_entry l.papers)
