-- The checker's output and exit status.
use Rattle.std.specs.Prelude.{ℕ, ◌==◌, ◌||◌, ◌&&◌, nat_le, Bool, false, not, if◌then◌else◌, List, [], ◌∷◌, ◌++◌, ◌-◌, length, slice_get, Option, Some, None, option_map, codes, string_bytes}
use Rattle.std.specs.Fmt.{decimal}
use Rattle.std.specs.List.{flat_map, list_any}
use Rattle.std.specs.Char.{encode_utf8}
use Rattle.std.specs.Str.{chars}
use Rattle.checker.specs.Remedies.{remedy}
use Rattle.checker.specs.Tokens.{Text}
use Rattle.checker.specs.Texts.{joined, problem_text}
use Rattle.checker.specs.declared.differences.Checked.{Checked}
use Rattle.checker.specs.declared.differences.Checked.TheVariants as checked
use Rattle.checker.specs.declared.ballot_counts.CountProblem.{CountProblem}
use Rattle.checker.specs.declared.ballot_counts.CountProblem.TheVariants as uncounted
use Rattle.checker.specs.declared.folder_checking.FolderChecked.{FolderChecked}
use Rattle.checker.specs.declared.folder_checking.FolderChecked.TheVariants as folder
use Rattle.checker.specs.declared.help.TheConstants.{COUNT_HELP, HELP}
use Rattle.checker.specs.declared.hints.Hint.{Hint}
use Rattle.checker.specs.declared.hints.Hint.TheVariants as hint
use Rattle.checker.specs.declared.report.Report.{Report}
use Rattle.checker.specs.declared.report.Report.TheVariants as report
use Rattle.checker.specs.declared.requests.WordsFlaw.{WordsFlaw}
use Rattle.checker.specs.declared.requests.WordsFlaw.TheVariants as words
use Rattle.checker.specs.declared.problem.Problem.{Problem}
use Rattle.checker.specs.declared.problem.Problem.TheVariants as problem

-- ---- lines for a terminal

-- whether a character is in the given range
abbrev pub is_from : ℕ → ℕ → ℕ → Bool
is_from low high c = nat_le low c && nat_le c high

-- a character that controls a terminal or the writing direction; a line feed only ends a line, as intended
abbrev pub steers : ℕ → Bool
steers c =
    (is_from 0 31 c && not (c == 10)) || (is_from 127 159 c || (c == 1564 || (is_from 8206 8207 c || (is_from 8234 8238 c || is_from 8294 8297 c))))

-- a question mark in place of a character that controls a terminal or the writing direction; any other character unchanged
abbrev pub shown_character : ℕ → Text
shown_character c = if steers c then codes "?" else encode_utf8 c

-- a text made safe for a terminal
abbrev pub shown : Text → Text
shown text = flat_map shown_character (chars text)

-- ---- invisible differences in a text

-- whether a text is nonempty and doesn't end with a line feed
abbrev pub ends_amiss : Option ℕ → Bool
ends_amiss None = false
ends_amiss (Some byte) = not (byte == 10)

abbrev pub is_unended : Text → Bool
is_unended text = ends_amiss (slice_get text (length text - 1))

-- whether a text begins with a byte order mark
abbrev pub is_marked : Text → Bool
is_marked (a ∷ b ∷ c ∷ text) = a == 239 && (b == 187 && c == 191)
is_marked text = false

-- an invisible reason why a text may differ
abbrev pub hint_of : Text → Option Hint
hint_of text =
    if is_marked text then Some hint.ByteOrderMark else (
    if list_any (λ byte. byte == 13) text then Some hint.CarriageReturns else (
    if is_unended text then Some hint.NoLineEnd else None))

abbrev pub hint_text : Option Hint → Text
hint_text None = []
hint_text (Some hint.ByteOrderMark) = codes "(it begins with a byte order mark, as another program writes it; a sheet doesn't)\n"
hint_text (Some hint.CarriageReturns) = codes "(its lines end with carriage returns, as another system writes them; a sheet's don't)\n"
hint_text (Some hint.NoLineEnd) = codes "(its last line has no line end)\n"

-- ---- pages

-- the text for the output, the text for the error output, and the exit status
pub record ReportEntry : Type 0 where
  pub out : Text
  pub err : Text
  pub status : ℕ

-- a text with a status: it goes to the output if the status is 0, otherwise to the error output
abbrev pub page_with : ℕ → Text → ReportEntry
page_with status text = if status == 0 then record { out = text; err = []; status = status } else record { out = []; err = text; status = status }

-- a line with the reason why nothing was checked
abbrev pub error_line : Text → Text
error_line text = joined (codes "error: " ∷ text ∷ codes "\n" ∷ [])

-- the message about the line at which the text should have ended
abbrev pub too_long_text : ℕ → Option Hint → Text
too_long_text line hint = joined (codes "line " ∷ decimal line ∷ codes " differs: the text should end before it\n" ∷ hint_text hint ∷ [])

-- the message about the first line that differs, and what it should be
abbrev pub should_be_text : ℕ → Text → Option Hint → Text
should_be_text line should_be hint = joined (codes "line " ∷ decimal line ∷ codes " differs, and should be:\n" ∷ shown should_be ∷ hint_text hint ∷ [])

abbrev pub differing : ℕ → Text → Option Hint → Text
differing line should_be hint = if length should_be == 0 then too_long_text line hint else should_be_text line should_be hint

-- the message about the outcome of a check
abbrev pub checked_text : Checked → Option Hint → Text
checked_text checked.Sheet hint = codes "the text is the stage sheet that these ballots, rejected papers and lots give\n"
checked_text checked.Declaration hint = codes "the text is the declaration that these ballots, rejected papers and lots give\n"
checked_text (checked.Differs line should_be) hint = differing line (string_bytes should_be) hint

-- the numbers of the tied candidates, each after a space
abbrev pub tied_text : List ℕ → Text
tied_text among = flat_map (λ c. 32 ∷ decimal c) among

-- the message about a missing lot, with the tied candidates
abbrev pub lot_text : Problem → List ℕ → Text
lot_text problem among = joined (codes "error: " ∷ problem_text problem ∷ codes ", where these are tied:" ∷ tied_text among ∷ codes "\n" ∷ [])

-- the message about the problem that prevented a check
abbrev pub hindered_text : Problem → Text
hindered_text (problem.Line line flaw) = error_line (problem_text (problem.Line line flaw))
hindered_text problem.NoContest = error_line (problem_text problem.NoContest)
hindered_text (problem.LotNeeded stage among) = lot_text (problem.LotNeeded stage among) among
hindered_text (problem.LotNotAmong stage) = error_line (problem_text (problem.LotNotAmong stage))
hindered_text (problem.LotNotNeeded stage) = error_line (problem_text (problem.LotNotNeeded stage))
hindered_text problem.Memory = error_line (problem_text problem.Memory)

-- the message about a file that can't be read, with the reason
abbrev pub unread_text : Text → Text → Text
unread_text path why = joined (codes "error: " ∷ shown path ∷ codes " can't be read: " ∷ why ∷ codes "\n" ∷ [])

-- the message about a flaw in a request to count ballots, and what to do about it
abbrev pub words_text : WordsFlaw → Text
words_text words.NoBallots = codes "error: give the path of the ballots; --help says more\n"
words_text words.SecondBallots = codes "error: give one path, that of the ballots; --help says more\n"
words_text words.UnknownOption = codes "error: there is no such option; --help says more\n"
words_text words.SecondText = codes "error: give one of --declaration, --page, --table, --results and --ballots; --help says more\n"
words_text words.NoValue = codes "error: the last option needs a value; --help says more\n"
words_text words.Lot = codes "error: give a lot as its stage and its candidate, such as --lot 3:4; --help says more\n"
words_text words.TitleAlone = codes "error: only a page has a title: add --page; --help says more\n"
words_text words.SecondTime = codes "error: an option is given a second time; --help says more\n"
words_text words.Seats = codes "error: give the seats of the ward, 1 to 15, such as --seats 3; --help says more\n"
words_text words.Candidates = codes "error: give the names of the candidates, at most 30 of 1 to 1000 bytes, such as --candidate Ann --candidate Bob; --help says more\n"
words_text words.HalfWard = codes "error: cast-vote records need --seats and --name; --help says more\n"

-- the message about a second lot for a stage, and what to do about it
abbrev pub second_lot_text : ℕ → Text
second_lot_text stage = joined (codes "error: a lot for stage " ∷ decimal stage ∷ codes " is given a second time: give one, in the ballots or by --lot\n" ∷ [])

-- the message that says why ballots weren't counted, and what to do about it
abbrev pub uncounted_text : CountProblem → Text
uncounted_text (uncounted.LotTwice stage) = second_lot_text stage
uncounted_text (uncounted.Ballots problem) = hindered_text problem ++ remedy problem

-- the exit status for the outcome of a check
abbrev pub checked_status : Checked → ℕ
checked_status checked.Sheet = 0
checked_status checked.Declaration = 0
checked_status (checked.Differs line should_be) = 1

-- the exit status for a problem that prevented a check
abbrev pub hindered_status : Problem → ℕ
hindered_status (problem.Line line flaw) = 2
hindered_status problem.NoContest = 2
hindered_status (problem.LotNeeded stage among) = 2
hindered_status (problem.LotNotAmong stage) = 2
hindered_status (problem.LotNotNeeded stage) = 2
hindered_status problem.Memory = 3

-- the exit status for the reason why ballots weren't counted
abbrev pub uncounted_status : CountProblem → ℕ
uncounted_status (uncounted.LotTwice stage) = 2
uncounted_status (uncounted.Ballots problem) = hindered_status problem

-- a text of a count, with status 0 if the count is finished; if it is waiting for a lot, the line about that goes to the error output, and the status is 1
abbrev pub counted_page : Text → Option Text → ReportEntry
counted_page text None = record { out = text; err = []; status = 0 }
counted_page text (Some line) = record { out = text; err = line; status = 1 }

-- the message that confirms a folder, with the number of its files
abbrev pub confirmed_text : ℕ → Text
confirmed_text files = joined (codes "each of the " ∷ decimal files ∷ codes " files is the one that the ballots, rejected papers and lots in the folder give\n" ∷ [])

-- the outcome of checking a folder, with status 0 only if the folder is confirmed
abbrev pub folder_page : FolderChecked → ReportEntry
folder_page (folder.Confirmed files) = page_with 0 (confirmed_text files)
folder_page (folder.Differs lines) = page_with 1 (string_bytes lines)

-- the page for the outcome of running the program
abbrev pub page_of : Report → ReportEntry
page_of report.Help = page_with 0 HELP.now
page_of report.CountHelp = page_with 0 COUNT_HELP.now
page_of report.BadArguments = page_with 2 (codes "error: give the path of a folder, or those of the ballots and the sheet; --help says more\n")
page_of (report.Misread flaw) = page_with 2 (words_text flaw)
page_of report.NotUtf8 = page_with 2 (codes "error: a word is not UTF-8\n")
page_of (report.NotRead path why) = page_with 3 (unread_text (string_bytes path) (string_bytes why))
page_of (report.Checked checked hint) = page_with (checked_status checked) (checked_text checked hint)
page_of (report.Folder checked) = folder_page checked
page_of (report.Hindered problem) = page_with (hindered_status problem) (hindered_text problem)
page_of (report.Counted counted) = counted_page (string_bytes counted.text) (option_map string_bytes counted.lot_needed)
page_of (report.NotCounted why) = page_with (uncounted_status why) (uncounted_text why)

-- the page for a failed allocation
abbrev pub memory_page : ReportEntry
memory_page = page_of (report.Hindered problem.Memory)
