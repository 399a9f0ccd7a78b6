-- The form for adjudication: the doubtful papers of a ward, each with room for its verdict.
use Rattle.std.specs.Prelude.{ℕ, List, ◌++◌, codes}
use Rattle.std.specs.Fmt.{decimal}
use Rattle.std.specs.List.{flat_map}
use Rattle.forms.specs.Lots.{CandidateShown, candidate_items}
use Rattle.forms.specs.Pages.{Text, page}
use Rattle.forms.specs.declared.verdicts.DoubtfulRow.{DoubtfulRow}

-- a doubtful paper, identified by its batch and its number in the batch
pub record DoubtfulEntry : Type 0 where
  pub batch : ℕ
  pub paper : ℕ

abbrev pub doubtful_entry : DoubtfulRow → DoubtfulEntry
doubtful_entry row = record { batch = row.batch; paper = row.paper }

-- the row of a paper, with room for the marks of an accepted paper, and a box for each code of a rejection
unfoldable pub verdict_row : DoubtfulEntry → Text
verdict_row d =
    codes "<tr><td>" ++ (decimal d.batch ++ (codes "</td><td>" ++ (decimal d.paper ++ codes "</td><td class=\"marks\"></td><td>3 &#9744; 4 &#9744; 5 &#9744;</td></tr>\n")))

-- the head of the form: the ward and a list of its candidates
unfoldable pub verdicts_head : ℕ → List CandidateShown → Text
verdicts_head ward candidates =
    codes "<h1>Adjudication, ward " ++ (decimal ward ++ (codes "</h1>\n<ul class=\"names\">\n" ++ (candidate_items candidates ++ codes "</ul>\n")))

-- the codes for a rejection and the column headings
unfoldable pub verdicts_table : Text
verdicts_table =
    codes "<p>Rejected: 3 no official mark, 4 voter identifiable, 5 void for uncertainty.</p>\n" ++
    codes "<table class=\"verdicts\">\n<thead><tr><th>Batch</th><th>Paper</th><th>Accepted, with these marks</th><th>Rejected</th></tr></thead>\n<tbody>\n"

-- the rows of papers
unfoldable pub verdict_rows : List DoubtfulEntry → Text
verdict_rows papers = flat_map verdict_row papers

-- the body of the form: the candidates, the papers, and lines to sign
unfoldable pub verdicts_body : ℕ → List CandidateShown → List DoubtfulEntry → Text
verdicts_body ward candidates papers =
    verdicts_head ward candidates ++ (verdicts_table ++ (verdict_rows papers ++
    codes "</tbody>\n</table>\n<p class=\"line\">Date and time</p>\n<p class=\"line\">Returning officer</p>\n"))

-- the form for adjudicating the doubtful papers of a ward
unfoldable pub verdicts_page : ℕ → List CandidateShown → List DoubtfulEntry → Text
verdicts_page ward candidates papers = page (codes "Adjudication") (verdicts_body ward candidates papers)
