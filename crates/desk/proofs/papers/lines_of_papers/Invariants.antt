-- The invariant of the loop in `lines_of_papers`: the lines read so far, followed by the remaining ones, are all the lines.
use Rattle.std.proofs.Common.{◌≡◌, ◌++◌, drop, map, string_bytes}
use Rattle.store.specs.Overviews.{paper_view}
use Rattle.desk.specs.CandidateNames.{names_told}
use Rattle.desk.specs.Overviews.{lines_of, paper_line}
use Rattle.desk.proofs.papers.lines_of_papers.Given as goal

abbrev pub invariant-loop-paper : goal.invariant-loop-paper
invariant-loop-paper l =
    let told = paper_line (names_told l.names) in
    string_bytes l.text ++ lines_of told (map paper_view (drop l.paper-index l.papers)) ≡ lines_of told (map paper_view l.papers)
