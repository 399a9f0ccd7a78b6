-- Cast-vote records: comma-separated values with a line for each paper or for several equal ones. The first line names the columns, each for a candidate or for a rank.
use Rattle.std.specs.Prelude.{ℕ, ◌+◌, ◌-◌, ◌==◌, nat_le, Bool, true, false, if◌then◌else◌, List, [], ◌∷◌}
use Rattle.std.specs.Prelude.{length, take, slice_get, slice_index, slice_set, Option, Some, None, Result, Ok, Err}
use Rattle.std.specs.List.{list_any, range_with_len}
use Rattle.paper.specs.Marking.{Marking}
use Rattle.paper.specs.MarksText.{reading}
use Rattle.paper.specs.Preferences.{preferences, rejection_of}
use Rattle.paper.specs.declared.marked.Keyed.{Keyed}
use Rattle.paper.specs.declared.marked.Keyed.TheVariants.{Doubtful, Marked}
use Rattle.paper.specs.declared.marks.MarkFault.{MarkFault}
use Rattle.paper.specs.declared.marks.MarkFault.TheVariants.{FieldCount, NotANumber, TooLarge}
use Rattle.paper.specs.declared.validity.Rejection.{Rejection}
use Rattle.paper.specs.declared.validity.Rejection.TheVariants.{NoFirstPreference, SeveralFirstPreferences, NoOfficialMark, VoterIdentifiable, VoidForUncertainty}
use Rattle.checker.specs.Outcomes.{and_then}
use Rattle.checker.specs.Papers.{PapersEntry, papers_in, with_list}
use Rattle.checker.specs.RankFields.{ranked_in}
use Rattle.checker.specs.Reading.{ReaderEntry, on_line}
use Rattle.checker.specs.RecordsHeader.{ColumnsEntry, of_candidates, of_ranks, header_in}
use Rattle.checker.specs.Tokens.{Text, kind_of, lines_of}
use Rattle.checker.specs.declared.problem.BallotsFlaw.{BallotsFlaw}
use Rattle.checker.specs.declared.problem.BallotsFlaw.TheVariants as flaw
use Rattle.checker.specs.declared.file_content.NextLine.TheVariants.{End}
use Rattle.checker.specs.declared.tokens.LineKind.{LineKind}
use Rattle.checker.specs.declared.tokens.LineKind.TheVariants.{Empty, Comment, Content}

-- what cast-vote records don't say about their ward: its seats, its name, and the names of its candidates if each column is for a rank
pub record WardEntry : Type 0 where
  pub seats : ℕ
  pub name : Text
  pub candidates : List Text

-- What has been read so far. The first two fields are whether the first line has been read, and whether lines begin with a number of papers. Then come
-- the number of rank columns if the columns aren't for candidates, the candidates' names, the papers, and the rejected papers by code.
pub record RecordsEntry : Type 0 where
  pub headed : Bool
  pub counted : Bool
  pub ranks : Option ℕ
  pub names : List Text
  pub papers : PapersEntry
  pub rejected : List ℕ

-- ---- the first line

-- a ward with the given candidates and seats, and no papers yet
abbrev pub papers_for : ℕ → List Text → PapersEntry
papers_for seats names = record { highest = length names; seats = seats; withdrawn = []; bundles = [] }

abbrev pub with_names : RecordsEntry → Bool → Option ℕ → List Text → RecordsEntry
with_names entry counted ranks names =
    record { headed = true; counted = counted; ranks = ranks; names = names; papers = papers_for entry.papers.seats names; rejected = entry.rejected }

abbrev pub with_columns : RecordsEntry → Bool → ColumnsEntry → RecordsEntry
with_columns entry counted (of_candidates names) = with_names entry counted None names
with_columns entry counted (of_ranks number) = with_names entry counted (Some number) entry.names

-- the columns are for candidates, unless the candidates' names are given
abbrev pub with_header : RecordsEntry → Text → Result RecordsEntry BallotsFlaw
with_header entry line = and_then (header_in (length entry.names == 0) line) (λ header. Ok (with_columns entry header.counted header.columns))

-- ---- the papers

-- valid papers with the given preferences
abbrev pub with_valid : RecordsEntry → ℕ → List ℕ → Result RecordsEntry BallotsFlaw
with_valid entry papers list =
    and_then (with_list entry.papers papers list) (λ more. Ok (record {
      headed = entry.headed;
      counted = entry.counted;
      ranks = entry.ranks;
      names = entry.names;
      papers = more;
      rejected = entry.rejected;
    }))

-- rejected papers under code k + 1
abbrev pub with_rejected : RecordsEntry → ℕ → ℕ → Result RecordsEntry BallotsFlaw
with_rejected entry papers k =
    if nat_le (slice_index entry.rejected k + papers) 4294967295
    then Ok (record {
      headed = entry.headed;
      counted = entry.counted;
      ranks = entry.ranks;
      names = entry.names;
      papers = entry.papers;
      rejected = slice_set entry.rejected k (slice_index entry.rejected k + papers);
    })
    else Err flaw.TooManyPapers

-- papers, given their marks: rejected if they have no first preference or several; valid otherwise
abbrev pub with_judged : RecordsEntry → ℕ → Marking → Option Rejection → Result RecordsEntry BallotsFlaw
with_judged entry papers marking None = with_valid entry papers (preferences marking)
with_judged entry papers marking (Some NoFirstPreference) = with_rejected entry papers 0
with_judged entry papers marking (Some SeveralFirstPreferences) = with_rejected entry papers 1
with_judged entry papers marking (Some NoOfficialMark) = Err flaw.NotRank
with_judged entry papers marking (Some VoterIdentifiable) = Err flaw.NotRank
with_judged entry papers marking (Some VoidForUncertainty) = Err flaw.NotRank

abbrev pub with_keyed : RecordsEntry → ℕ → Result Keyed MarkFault → Result RecordsEntry BallotsFlaw
with_keyed entry papers (Err FieldCount) = Err flaw.FieldCount
with_keyed entry papers (Err NotANumber) = Err flaw.NotRank
with_keyed entry papers (Err TooLarge) = Err flaw.NotRank
with_keyed entry papers (Ok Doubtful) = Err flaw.NotRank
with_keyed entry papers (Ok (Marked marking)) = with_judged entry papers marking (rejection_of marking)

-- the numbers of the candidates' columns
abbrev pub columns_of : List Text → List ℕ
columns_of names = range_with_len 1 (length names)

-- papers, given the text of their marks
abbrev pub with_marks : RecordsEntry → ℕ → Text → Result RecordsEntry BallotsFlaw
with_marks entry papers text = with_keyed entry papers (reading (columns_of entry.names) text)

-- papers, given their preferences: rejected if there are none
abbrev pub with_preferences : RecordsEntry → ℕ → List ℕ → Result RecordsEntry BallotsFlaw
with_preferences entry papers [] = with_rejected entry papers 0
with_preferences entry papers (c ∷ list) = with_valid entry papers (c ∷ list)

-- papers, given the candidates in their rank columns
abbrev pub with_ranks : RecordsEntry → ℕ → ℕ → Text → Result RecordsEntry BallotsFlaw
with_ranks entry papers ranks text = and_then (ranked_in entry.names ranks text) (λ paper. with_preferences entry papers paper.preferences)

-- papers, given the fields of their line
abbrev pub with_columns_of : Option ℕ → RecordsEntry → ℕ → Text → Result RecordsEntry BallotsFlaw
with_columns_of None entry papers text = with_marks entry papers text
with_columns_of (Some ranks) entry papers text = with_ranks entry papers ranks text

abbrev pub with_papers : RecordsEntry → ℕ → Text → Result RecordsEntry BallotsFlaw
with_papers entry papers text = with_columns_of entry.ranks entry papers text

-- the bytes before the first comma, and those after it
abbrev pub before_comma : Text → Text
before_comma [] = []
before_comma (byte ∷ bytes) = if byte == 44 then [] else byte ∷ before_comma bytes

abbrev pub after_comma : Text → Text
after_comma [] = []
after_comma (byte ∷ bytes) = if byte == 44 then bytes else after_comma bytes

abbrev pub has_comma : Text → Bool
has_comma line = list_any (λ byte. byte == 44) line

-- `12,2,1,3`: the number of papers, followed by their fields
abbrev pub with_counted : RecordsEntry → Text → Result RecordsEntry BallotsFlaw
with_counted entry line =
    if has_comma line then and_then (papers_in (before_comma line)) (λ papers. with_papers entry papers (after_comma line)) else Err flaw.FieldCount

-- `2,1,3`: the fields of a paper
abbrev pub with_record : RecordsEntry → Text → Result RecordsEntry BallotsFlaw
with_record entry line = if entry.counted then with_counted entry line else with_papers entry 1 line

-- ---- the lines

-- a line without the carriage return at its end, if there is one
abbrev pub is_return : Option ℕ → Bool
is_return None = false
is_return (Some byte) = byte == 13

abbrev pub without_return : Text → Text
without_return line = if is_return (slice_get line (length line - 1)) then take (length line - 1) line else line

abbrev pub with_content : RecordsEntry → Text → Result RecordsEntry BallotsFlaw
with_content entry line = if entry.headed then with_record entry line else with_header entry line

-- a line: one with only blanks is skipped
abbrev pub with_line_of : LineKind → RecordsEntry → Text → Result RecordsEntry BallotsFlaw
with_line_of Empty entry line = Ok entry
with_line_of Comment entry line = with_content entry (without_return line)
with_line_of Content entry line = with_content entry (without_return line)

abbrev pub with_line : RecordsEntry → Text → Result RecordsEntry BallotsFlaw
with_line entry line = with_line_of (kind_of line) entry line

abbrev pub at_end : RecordsEntry → Result RecordsEntry BallotsFlaw
at_end entry = if entry.headed then Ok entry else Err flaw.NoColumns

abbrev pub records_from : ℕ → RecordsEntry → List Text → Result RecordsEntry (ℕ × BallotsFlaw)
records_from k entry [] = on_line k (at_end entry) (λ read. Ok read)
records_from k entry (line ∷ lines) = on_line (k + 1) (with_line entry line) (λ more. records_from (k + 1) more lines)

-- the state before the first line of a ward's records
abbrev pub nothing_recorded : WardEntry → RecordsEntry
nothing_recorded ward = record {
  headed = false;
  counted = false;
  ranks = None;
  names = ward.candidates;
  papers = papers_for ward.seats [];
  rejected = 0 ∷ 0 ∷ 0 ∷ 0 ∷ 0 ∷ [];
}

-- the content that would have resulted if the ward's ballots, with the given name, had been read
abbrev pub as_read : Text → RecordsEntry → ReaderEntry
as_read name entry = record {
  place = End;
  papers = entry.papers;
  names = record { names = entry.names; ward = name };
  remarks = record { ward = None; rejected = Some entry.rejected; lots = [] };
}

abbrev pub read_as : Text → Result RecordsEntry (ℕ × BallotsFlaw) → Result ReaderEntry (ℕ × BallotsFlaw)
read_as name (Ok entry) = Ok (as_read name entry)
read_as name (Err flaw) = Err flaw

-- the content of a file of a ward's records
abbrev pub read_records : WardEntry → Text → Result ReaderEntry (ℕ × BallotsFlaw)
read_records ward bytes = read_as ward.name (records_from 0 (nothing_recorded ward) (lines_of bytes))
