-- The request in the program's arguments, and its outcome.
use Rattle.std.specs.Prelude.{◌≡◌, ◌⊎◌, ℕ, ◌||◌, if◌then◌else◌, nat_eq, Bool, false, List, [], ◌∷◌, Result, Ok, Err, codes, string_bytes}
use Rattle.std.specs.Cmp.Lexicographic.{pointwise}
use Rattle.checker.specs.Checks.{IsChecked, IsProblem}
use Rattle.checker.specs.Counts.{IsCountedText, IsUncounted}
use Rattle.checker.specs.Reports.{ReportEntry, hint_of, memory_page, page_of}
use Rattle.checker.specs.Reading.{ReaderEntry, read}
use Rattle.checker.specs.Records.{read_records}
use Rattle.checker.specs.Requests.{CountEntry, FormEntry, blt, count_request, records}
use Rattle.checker.specs.Tokens.{Text}
use Rattle.checker.specs.declared.arguments.ArgumentsFault.{ArgumentsFault}
use Rattle.checker.specs.declared.arguments.ArgumentsFault.TheVariants as words
use Rattle.checker.specs.declared.requests.WordsFlaw.{WordsFlaw}
use Rattle.checker.specs.declared.report.Report.{Report}
use Rattle.checker.specs.declared.report.Report.TheVariants as report
use Rattle.checker.specs.declared.problem.BallotsFlaw.{BallotsFlaw}
use Rattle.checker.specs.declared.problem.Problem.TheVariants as problem
use Rattle.checker.specs.FolderChecks.{IsFolderChecked}
use Rattle.checker.specs.InputFiles.{InputFiles, Holds, Withholds, WithholdsNames}

-- ---- the request

-- a request: for help on checking; to check a text against ballots, each given by its path; to check a folder; for help on counting; to count ballots; or one that isn't understood
pub data Request : Type 0 where
  help : Request
  check : Text → Text → Request
  check_folder : Text → Request
  nothing : Request
  count_help : Request
  count : CountEntry → Request
  misread : WordsFlaw → Request

-- whether an argument requests help
abbrev pub is_help : Text → Bool
is_help word = pointwise nat_eq word (codes "--help") || pointwise nat_eq word (codes "-h")

-- a request to check
abbrev pub check_asked : List Text → Request
check_asked [] = nothing
check_asked (word ∷ []) = if is_help word then help else check_folder word
check_asked (ballots ∷ text ∷ []) = check ballots text
check_asked (ballots ∷ text ∷ other ∷ words) = nothing

-- a request to count, or for help on counting
abbrev pub is_help_alone : List Text → Bool
is_help_alone [] = false
is_help_alone (word ∷ []) = is_help word
is_help_alone (word ∷ other ∷ words) = false

abbrev pub count_told : Result CountEntry WordsFlaw → Request
count_told (Ok asked) = count asked
count_told (Err flaw) = misread flaw

abbrev pub count_asked : List Text → Request
count_asked words = if is_help_alone words then count_help else count_told (count_request words)

-- whether an argument requests a count
abbrev pub is_count : Text → Bool
is_count word = pointwise nat_eq word (codes "--count")

abbrev pub asked : List Text → Request
asked [] = nothing
asked (word ∷ words) = if is_count word then count_asked words else check_asked (word ∷ words)

-- the outcome of reading the program's arguments: the arguments, or the reason why they can't be read
abbrev pub words_told : {V : Type 0} → (V → List Text) → Result V ArgumentsFault → Result (List Text) ArgumentsFault
words_told texts (Ok words) = Ok (texts words)
words_told texts (Err fault) = Err fault

-- ---- the outcome

-- the outcome for a file that isn't read: its path and the reason, or a failed allocation
abbrev pub IsUnreadFile : InputFiles → Text → Report → Type 0
IsUnreadFile held path (report.NotRead told why) = (string_bytes told ≡ path) × Withholds held path (string_bytes why)
IsUnreadFile held path (report.Hindered why) = why ≡ problem.Memory
IsUnreadFile held path other = ⊥

-- the outcome of checking a text against ballots
abbrev pub IsCheckOutcome : Text → Text → Report → Type 0
IsCheckOutcome ballots text (report.Checked checked hint) = IsChecked ballots text checked × (hint ≡ hint_of text)
IsCheckOutcome ballots text (report.Hindered why) = IsProblem ballots why
IsCheckOutcome ballots text other = ⊥

-- the outcome of checking a file's text against ballots
abbrev pub IsTextOutcome : InputFiles → Text → Text → Report → Type 0
IsTextOutcome held ballots path told = IsUnreadFile held path told ⊎ ((text : Text) × Holds held path text × IsCheckOutcome ballots text told)

-- the outcome of checking one file against the ballots in another
abbrev pub IsFilesOutcome : InputFiles → Text → Text → Report → Type 0
IsFilesOutcome held path text_path told = IsUnreadFile held path told ⊎ ((ballots : Text) × Holds held path ballots × IsTextOutcome held ballots text_path told)

-- the outcome of checking a folder: its path and the reason if the names in it can't be read, or a failed allocation
abbrev pub IsFolderOutcome : InputFiles → Text → Report → Type 0
IsFolderOutcome held path (report.Folder checked) = IsFolderChecked held path checked
IsFolderOutcome held path (report.NotRead told why) = (string_bytes told ≡ path) × WithholdsNames held path (string_bytes why)
IsFolderOutcome held path (report.Hindered why) = why ≡ problem.Memory
IsFolderOutcome held path other = ⊥

-- the content of a file of ballots in a given form
abbrev pub read_in : FormEntry → Text → Result ReaderEntry (ℕ × BallotsFlaw)
read_in blt bytes = read bytes
read_in (records ward) bytes = read_records ward bytes

-- the outcome of counting ballots
abbrev pub IsCountOutcome : Text → CountEntry → Report → Type 0
IsCountOutcome ballots asked (report.Counted counted) = IsCountedText (read_in asked.form ballots) asked.lots asked.text counted
IsCountOutcome ballots asked (report.NotCounted why) = IsUncounted (read_in asked.form ballots) asked.lots why
IsCountOutcome ballots asked other = ⊥

-- the outcome of counting a file of ballots
abbrev pub IsCountFileOutcome : InputFiles → CountEntry → Report → Type 0
IsCountFileOutcome held asked told =
    IsUnreadFile held asked.ballots told ⊎ ((ballots : Text) × Holds held asked.ballots ballots × IsCountOutcome ballots asked told)

-- the outcome of a request
abbrev pub IsAnswer : InputFiles → Request → Report → Type 0
IsAnswer held help told = told ≡ report.Help
IsAnswer held (check ballots text) told = IsFilesOutcome held ballots text told
IsAnswer held (check_folder path) told = IsFolderOutcome held path told
IsAnswer held nothing told = told ≡ report.BadArguments
IsAnswer held count_help told = told ≡ report.CountHelp
IsAnswer held (count asked) told = IsCountFileOutcome held asked told
IsAnswer held (misread flaw) told = (told ≡ report.Misread flaw) ⊎ (told ≡ report.Hindered problem.Memory)

-- the outcome for the program's arguments, or for the failure to read them
abbrev pub IsOutcome : InputFiles → Result (List Text) ArgumentsFault → Report → Type 0
IsOutcome held (Ok words) told = IsAnswer held (asked words) told
IsOutcome held (Err words.NotUtf8) told = told ≡ report.NotUtf8
IsOutcome held (Err words.Memory) told = told ≡ report.Hindered problem.Memory

-- a page reports the outcome, or that an allocation failed
pub record IsPageFor (held : InputFiles) (words : Result (List Text) ArgumentsFault) (page : ReportEntry) : Type 0 where
  pub report : Report
  pub so : IsOutcome held words report
  pub page_is : (page ≡ page_of report) ⊎ (page ≡ memory_page)
