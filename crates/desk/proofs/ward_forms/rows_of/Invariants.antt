-- The invariant of the loop in `rows_of`: the rows so far, followed by those of the remaining papers, are all rows.
use Rattle.std.proofs.Common.{◌≡◌, ◌++◌, drop, map}
use Rattle.store.specs.Overviews.{doubtful_view}
use Rattle.forms.specs.Verdicts.{doubtful_entry}
use Rattle.desk.specs.Forms.{doubtful_of}
use Rattle.desk.proofs.ward_forms.rows_of.Given as goal

abbrev pub invariant-loop-paper : goal.invariant-loop-paper
invariant-loop-paper l = map doubtful_entry l.rows.items ++ map doubtful_of (map doubtful_view (drop l.paper-index l.papers)) ≡ map doubtful_of (map doubtful_view l.papers)
