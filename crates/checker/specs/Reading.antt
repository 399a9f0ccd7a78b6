-- Reading a file of ballots line by line.
use Rattle.std.specs.Prelude.{ℕ, ◌+◌, ◌==◌, nat_lt, Bool, false, if◌then◌else◌, List, [], ◌∷◌, ◌++◌, length, None, Result, Ok, Err}
use Rattle.checker.specs.Outcomes.{and_then}
use Rattle.checker.specs.Tokens.{Text, kind_of, lines_of, words_of}
use Rattle.checker.specs.Ranks.{is_zero}
use Rattle.checker.specs.ForeignComments.{behind_number_sign, skip_foreign}
use Rattle.checker.specs.Papers.{PapersEntry, with_bundle, with_size, with_withdrawn}
use Rattle.checker.specs.Names.{name_in}
use Rattle.checker.specs.BallotsComments.{Remarks, with_comment}
use Rattle.checker.specs.declared.tokens.LineKind.{LineKind}
use Rattle.checker.specs.declared.tokens.LineKind.TheVariants.{Empty, Comment, Content}
use Rattle.checker.specs.declared.problem.BallotsFlaw.{BallotsFlaw}
use Rattle.checker.specs.declared.problem.BallotsFlaw.TheVariants.{BehindName, NamesWanting, NoEnd, NoSize}
use Rattle.checker.specs.declared.file_content.NextLine.{NextLine}
use Rattle.checker.specs.declared.file_content.NextLine.TheVariants as place

-- the names of the candidates numbered from 1, and the name of the ward
pub record Named : Type 0 where
  pub names : List Text
  pub ward : Text

-- the content of a file so far, and the position of its next line
pub record ReaderEntry : Type 0 where
  pub place : NextLine
  pub papers : PapersEntry
  pub names : Named
  pub remarks : Remarks

-- the same content, with other papers, other names or other remarks
abbrev pub with_papers_at : ReaderEntry → NextLine → PapersEntry → ReaderEntry
with_papers_at reading place papers = record { place = place; papers = papers; names = reading.names; remarks = reading.remarks }

abbrev pub with_names_at : ReaderEntry → NextLine → Named → ReaderEntry
with_names_at reading place names = record { place = place; papers = reading.papers; names = names; remarks = reading.remarks }

abbrev pub with_remarks : ReaderEntry → Remarks → ReaderEntry
with_remarks reading remarks = record { place = reading.place; papers = reading.papers; names = reading.names; remarks = remarks }

-- the bytes of a line of numbers before the `#` that begins a comment
abbrev pub before_comment : Text → Text
before_comment [] = []
before_comment (byte ∷ bytes) = if byte == 35 then [] else byte ∷ before_comment bytes

-- the words of a line of numbers, without its comment if there is one
abbrev pub words_before_comment : Text → Result (List Text) BallotsFlaw
words_before_comment line = and_then (skip_foreign (behind_number_sign line)) (λ passed. Ok (words_of (before_comment line)))

-- whether a line of numbers is the `0` that ends the papers
abbrev pub is_end_line : List Text → Bool
is_end_line [] = false
is_end_line (word ∷ []) = is_zero word
is_end_line (word ∷ other ∷ words) = false

-- whether a line of numbers begins with a minus, as a line of withdrawn candidates does
abbrev pub begins_with_minus : Text → Bool
begins_with_minus [] = false
begins_with_minus (byte ∷ bytes) = byte == 45

abbrev pub is_withdrawn_line : List Text → Bool
is_withdrawn_line [] = false
is_withdrawn_line (word ∷ words) = begins_with_minus word

-- a line of papers, or the line that ends them
abbrev pub with_papers_line : ReaderEntry → List Text → Result ReaderEntry BallotsFlaw
with_papers_line reading words =
    if is_end_line words
    then Ok (with_papers_at reading place.CandidateNames reading.papers)
    else and_then (with_bundle reading.papers words) (λ papers. Ok (with_papers_at reading place.PaperTotals papers))

-- a line of withdrawn candidates, which precede all papers; or a line of papers
abbrev pub with_withdrawn_line : ReaderEntry → List Text → Result ReaderEntry BallotsFlaw
with_withdrawn_line reading words =
    if is_withdrawn_line words
    then and_then (with_withdrawn reading.papers words) (λ papers. Ok (with_papers_at reading place.Withdrawn papers))
    else with_papers_line reading words

-- the first line of numbers
abbrev pub with_size_line : ReaderEntry → List Text → Result ReaderEntry BallotsFlaw
with_size_line reading words = and_then (with_size reading.papers words) (λ papers. Ok (with_papers_at reading place.Withdrawn papers))

-- a name: one for each number up to the highest, followed by the name of the ward
abbrev pub with_name : ReaderEntry → Text → ReaderEntry
with_name reading name =
    if nat_lt (length reading.names.names) reading.papers.highest
    then with_names_at reading place.CandidateNames (record { names = reading.names.names ++ name ∷ []; ward = reading.names.ward })
    else with_names_at reading place.End (record { names = reading.names.names; ward = name })

abbrev pub with_name_line : ReaderEntry → Text → Result ReaderEntry BallotsFlaw
with_name_line reading line = and_then (name_in line) (λ name. Ok (with_name reading name))

-- a line with content, depending on its position
abbrev pub with_content_at : NextLine → ReaderEntry → Text → Result ReaderEntry BallotsFlaw
with_content_at place.Size reading line = and_then (words_before_comment line) (with_size_line reading)
with_content_at place.Withdrawn reading line = and_then (words_before_comment line) (with_withdrawn_line reading)
with_content_at place.PaperTotals reading line = and_then (words_before_comment line) (with_papers_line reading)
with_content_at place.CandidateNames reading line = with_name_line reading line
with_content_at place.End reading line = Err BehindName

-- a line: an empty one is skipped; our own comments on separate lines are read at any position
abbrev pub with_line_of : LineKind → ReaderEntry → Text → Result ReaderEntry BallotsFlaw
with_line_of Empty reading line = Ok reading
with_line_of Comment reading line = and_then (with_comment reading.remarks line) (λ remarks. Ok (with_remarks reading remarks))
with_line_of Content reading line = with_content_at reading.place reading line

abbrev pub with_line : ReaderEntry → Text → Result ReaderEntry BallotsFlaw
with_line reading line = with_line_of (kind_of line) reading line

-- the flaw of a file that ends when a line of the given kind should follow
abbrev pub at_end : NextLine → ReaderEntry → Result ReaderEntry BallotsFlaw
at_end place.Size reading = Err NoSize
at_end place.Withdrawn reading = Err NoEnd
at_end place.PaperTotals reading = Err NoEnd
at_end place.CandidateNames reading = Err NamesWanting
at_end place.End reading = Ok reading

-- a flaw with the number of its line
abbrev pub on_line : {X Y : Type 0} → ℕ → Result X BallotsFlaw → (X → Result Y (ℕ × BallotsFlaw)) → Result Y (ℕ × BallotsFlaw)
on_line k (Ok x) f = f x
on_line k (Err flaw) f = Err (k, flaw)

-- The content of the given lines, which follow a given number of others; or the flaw of the first line that isn't understood, or of the end. A flaw
-- of the end has the number of the last line, which is empty if the file ends with a line feed.
abbrev pub read_from : ℕ → ReaderEntry → List Text → Result ReaderEntry (ℕ × BallotsFlaw)
read_from k reading [] = on_line k (at_end reading.place reading) (λ read. Ok read)
read_from k reading (line ∷ lines) = on_line (k + 1) (with_line reading line) (λ more. read_from (k + 1) more lines)

-- the content before the first line
abbrev pub nothing_told : ReaderEntry
nothing_told = record {
  place = place.Size;
  papers = record { highest = 0; seats = 1; withdrawn = []; bundles = [] };
  names = record { names = []; ward = [] };
  remarks = record { ward = None; rejected = None; lots = [] };
}

-- the content of a file
abbrev pub read : Text → Result ReaderEntry (ℕ × BallotsFlaw)
read bytes = read_from 0 nothing_told (lines_of bytes)
