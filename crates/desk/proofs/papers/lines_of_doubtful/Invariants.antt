-- The invariant of the loop in `lines_of_doubtful`: the lines read so far, followed by the remaining ones, are all the lines.
use Rattle.std.proofs.Common.{◌≡◌, ◌++◌, drop, map, string_bytes}
use Rattle.store.specs.Overviews.{doubtful_view}
use Rattle.desk.specs.CandidateNames.{names_told}
use Rattle.desk.specs.Overviews.{lines_of, doubtful_line}
use Rattle.desk.proofs.papers.lines_of_doubtful.Given as goal

abbrev pub invariant-loop-paper : goal.invariant-loop-paper
invariant-loop-paper l =
    let told = doubtful_line (names_told l.names) in
    string_bytes l.text ++ lines_of told (map doubtful_view (drop l.paper-index l.papers)) ≡ lines_of told (map doubtful_view l.papers)
