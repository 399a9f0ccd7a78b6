-- The fields of a batch's papers, in one line: how many a marks text has, and for whom.
use Rattle.std.specs.Prelude.{ℕ, ◌++◌, List, [], ◌∷◌, Option, Some, None, codes, length}
use Rattle.std.specs.Fmt.{decimal}
use Rattle.std.specs.List.{flat_map}
use Rattle.clap.specs.Words.{Text}
use Rattle.register.specs.Offices.{CandidateEntry, OfficeState}
use Rattle.register.specs.Status.{BallotPaperEntry}
use Rattle.register.specs.Texts.{listed}
use Rattle.office.specs.Reads.{columns_answer, paper_answer}
use Rattle.desk.specs.Pages.{Page, page_found, replied}

-- how many fields the marks of each paper of a batch have
unfoldable pub field_words : ℕ → ℕ → Text
field_words batch count = codes "batch " ++ (decimal batch ++ (codes " has " ++ (decimal count ++ codes " fields for each paper: ")))

-- the line for a batch with the given columns: field by field, the number of its candidate
unfoldable pub fields_line : ℕ → List ℕ → Text
fields_line batch columns = field_words batch (length columns) ++ listed columns

-- a candidate's number and name, `3 Cy`; and another one in a list, `, 3 Cy`
unfoldable pub candidate_words : CandidateEntry → Text
candidate_words c = decimal c.number ++ (codes " " ++ c.name)

abbrev pub candidate_behind : CandidateEntry → Text
candidate_behind c = codes ", " ++ candidate_words c

-- a list of candidates: `1 Ann, 3 Cy`
unfoldable pub candidates_listed : List CandidateEntry → Text
candidates_listed [] = []
candidates_listed (c ∷ cs) = candidate_words c ++ flat_map candidate_behind cs

-- the line for a batch with the given ballot paper: field by field, the number and the name of its candidate
unfoldable pub named_fields_line : ℕ → BallotPaperEntry → Text
named_fields_line batch paper = field_words batch (length paper.candidates) ++ candidates_listed paper.candidates

-- The page with the fields of a batch, or why there are none. If a clerk is given, the page has the names on the ballot paper of that clerk, who must be one of the
-- batch's clerks.
abbrev pub page_of_fields : OfficeState → ℕ → Option ℕ → Page
page_of_fields s batch None = page_found (λ columns. replied (fields_line batch columns)) (columns_answer s batch)
page_of_fields s batch (Some clerk) = page_found (λ paper. replied (named_fields_line batch paper)) (paper_answer s clerk batch)
