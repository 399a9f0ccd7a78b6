-- The count of the ward in a file of ballots, and the texts of that count.
use Rattle.std.specs.Prelude.{◌≡◌, ◌⊎◌, ◌==◌, ℕ, ◌+◌, nat_eq, nat_lt, Bool, true, false, if◌then◌else◌, List, [], length}
use Rattle.std.specs.Prelude.{◌∷◌, reverse, insert, option_map, Option, Some, None, Result, Ok, Err, codes, string_bytes, ⊤}
use Rattle.std.specs.Fmt.{decimal}
use Rattle.std.specs.List.{flat_map, list_any}
use Rattle.count.specs.Bundles.{Bundle}
use Rattle.count.specs.Law.Contest.{Contest, IsContest}
use Rattle.count.specs.Law.Elected.{elected_after}
use Rattle.count.specs.declared.count_to_end.CountEnd.{CountEnd}
use Rattle.count.specs.declared.count_to_end.CountEnd.TheVariants as end
use Rattle.count.specs.declared.stages.Due.{Due}
use Rattle.sheet.specs.Ballots.{ballots}
use Rattle.sheet.specs.Entries.{SheetEntry}
use Rattle.sheet.specs.Page.{page}
use Rattle.sheet.specs.Sheet.{declaration, sheet}
use Rattle.sheet.specs.Results.{results}
use Rattle.sheet.specs.Spreadsheet.{spreadsheet}
use Rattle.sheet.specs.Surpluses.{surpluses_of}
use Rattle.sheet.specs.declared.surpluses.PassedOn.{PassedOn}
use Rattle.sheet.specs.declared.ward.Poll.{Poll}
use Rattle.checker.specs.Checks.{EndsAt, IsWardProblem, dues_of, undrawn, undrawn_by}
use Rattle.checker.specs.BallotsComments.{is_drawn}
use Rattle.checker.specs.Reading.{ReaderEntry}
use Rattle.checker.specs.Reports.{shown}
use Rattle.checker.specs.Texts.{joined}
use Rattle.checker.specs.Tokens.{Text}
use Rattle.checker.specs.Wards.{contest_in, numbers_of, ward_told}
use Rattle.checker.specs.declared.counting.WardCount.{WardCount}
use Rattle.checker.specs.declared.ballot_counts.CountText.{CountText}
use Rattle.checker.specs.declared.ballot_counts.CountText.TheVariants as text
use Rattle.checker.specs.declared.ballot_counts.CountedText.{CountedText}
use Rattle.checker.specs.declared.ballot_counts.CountProblem.{CountProblem}
use Rattle.checker.specs.declared.ballot_counts.CountProblem.TheVariants as uncounted
use Rattle.checker.specs.declared.problem.BallotsFlaw.{BallotsFlaw}
use Rattle.checker.specs.declared.problem.Problem.{Problem}
use Rattle.checker.specs.declared.problem.Problem.TheVariants as problem

-- ---- the lots

-- the position for a stage's lot in a list of lots ordered by stage
abbrev pub place_in : ℕ → List (ℕ × ℕ) → ℕ
place_in stage [] = 0
place_in stage (lot ∷ lots) = if nat_lt stage lot.0 then 0 else place_in stage lots + 1

-- lots in the order of their stages, with another one inserted at its position
abbrev pub with_lot : List (ℕ × ℕ) → (ℕ × ℕ) → List (ℕ × ℕ)
with_lot lots lot = insert lots (place_in lot.0 lots) lot

-- lots in the order of their stages, with further ones inserted; or the first stage for which a second lot is given
abbrev pub with_lots : List (ℕ × ℕ) → List (ℕ × ℕ) → Result (List (ℕ × ℕ)) ℕ
with_lots lots [] = Ok lots
with_lots lots (lot ∷ more) = if is_drawn lot.0 lots then Err lot.0 else with_lots (with_lot lots lot) more

abbrev pub with_more : Result (List (ℕ × ℕ)) ℕ → List (ℕ × ℕ) → Result (List (ℕ × ℕ)) ℕ
with_more (Ok lots) more = with_lots lots more
with_more (Err stage) more = Err stage

-- the recorded lots with further ones, in the order of their stages
abbrev pub lots_of : List (ℕ × ℕ) → List (ℕ × ℕ) → Result (List (ℕ × ℕ)) ℕ
lots_of recorded added = with_more (with_lots [] recorded) added

-- ---- the count

-- The stage of the first recorded lot that isn't drawn. If the count waits for a lot, it is due before every later stage too, so lots for later stages, which have yet to be drawn,
-- aren't meant. If a lot names none of the tied candidates, the count is refused for that reason by each caller (problem_of, IsNoLotLine, MayEnd).
abbrev pub undrawn_at : CountEnd → List Due → List (ℕ × ℕ) → Option ℕ
undrawn_at end.Finished dues lots = undrawn_by dues lots
undrawn_at (end.LotNeeded stage among) dues lots = undrawn_by dues lots
undrawn_at (end.LotNotAmong stage) dues lots = None

-- the count of a contest with the given lots: the whole count, which is the only count, the candidates elected by it, and the reason why it ends
pub record IsCountBy (contest : Contest) (lots : List (ℕ × ℕ)) (count : WardCount) : Type 0 where
  pub counted : EndsAt contest lots count.stages.items count.end
  pub chosen : count.elected ≡ elected_after contest (reverse count.stages.items)
  pub drawn : undrawn_at count.end (dues_of contest lots) lots ≡ None

-- the count of a contested ward, whose papers form a contest
pub record IsContestedCount (ward : SheetEntry) (bundles : List Bundle) (lots : List (ℕ × ℕ)) (count : WardCount) : Type 0 where
  pub contest : IsContest (contest_in ward bundles)
  pub by_lots : IsCountBy (contest_in ward bundles) lots count

-- the count of an uncontested ward: it has no stages, and all candidates are elected
pub record IsUncontestedCount (ward : SheetEntry) (count : WardCount) : Type 0 where
  pub none : count.stages.items ≡ []
  pub chosen : count.elected ≡ numbers_of ward
  pub finished : count.end ≡ end.Finished

-- the count of a ward, given its poll
abbrev pub IsWardCount : Option Poll → SheetEntry → List Bundle → List (ℕ × ℕ) → WardCount → Type 0
IsWardCount None ward bundles lots count = IsUncontestedCount ward count
IsWardCount (Some poll) ward bundles lots count = IsContestedCount ward bundles lots count

-- the reason why a contest isn't counted: it isn't a contest, a recorded lot isn't drawn, or an allocation failed
abbrev pub IsNotCounted : Contest → List (ℕ × ℕ) → Problem → Type 0
IsNotCounted contest lots (problem.Line line flaw) = ⊥
IsNotCounted contest lots problem.NoContest = ¬ (IsContest contest)
IsNotCounted contest lots (problem.LotNeeded stage among) = ⊥
IsNotCounted contest lots (problem.LotNotAmong stage) = ⊥
IsNotCounted contest lots (problem.LotNotNeeded stage) = undrawn contest lots ≡ Some stage
IsNotCounted contest lots problem.Memory = ⊤

-- the same reason for any ward, given its poll
abbrev pub IsWardNotCounted : Option Poll → SheetEntry → List Bundle → List (ℕ × ℕ) → Problem → Type 0
IsWardNotCounted None ward bundles lots why = why ≡ problem.Memory
IsWardNotCounted (Some poll) ward bundles lots why = IsNotCounted (contest_in ward bundles) lots why

-- ---- the texts of a count

-- whether a count is finished
abbrev pub is_finished : CountEnd → Bool
is_finished end.Finished = true
is_finished (end.LotNeeded stage among) = false
is_finished (end.LotNotAmong stage) = false

-- the lots of a contested ward; an uncontested ward has none
abbrev pub lots_in : Option Poll → List (ℕ × ℕ) → List (ℕ × ℕ)
lots_in None lots = []
lots_in (Some poll) lots = lots

-- the papers that passed on with each surplus at the given number of stages; an uncontested ward has none
abbrev pub surpluses_in : Option Poll → SheetEntry → List Bundle → List (ℕ × ℕ) → ℕ → List PassedOn
surpluses_in None ward bundles lots stages = []
surpluses_in (Some poll) ward bundles lots stages = surpluses_of (numbers_of ward) ward.seats bundles lots stages

-- a text of a count: the stage sheet, the declaration, the page with the given title, the table, the result as JSON, or the ballots with the lots
pub data TextEntry : Type 0 where
  sheet_asked : TextEntry
  declaration_asked : TextEntry
  page_asked : Text → TextEntry
  table_asked : TextEntry
  results_asked : TextEntry
  ballots_asked : TextEntry

abbrev pub text_of : CountText → TextEntry
text_of text.Sheet = sheet_asked
text_of text.Declaration = declaration_asked
text_of (text.Page title) = page_asked title.now
text_of text.Table = table_asked
text_of text.Results = results_asked
text_of text.Ballots = ballots_asked

-- A text of a ward's count, as an office prints it for a ward with the given papers and lots. It covers the stages so far, or the ward as declared
-- once its count is finished. Until then there is no declaration.
abbrev pub text_shown : TextEntry → SheetEntry → List Bundle → List (ℕ × ℕ) → WardCount → Text
text_shown sheet_asked ward bundles lots count = sheet ward count.stages.items
text_shown declaration_asked ward bundles lots count = if is_finished count.end then declaration ward count.elected else []
text_shown (page_asked title) ward bundles lots count =
    page ward title (is_finished count.end) count.stages.items (lots_in ward.poll lots) (surpluses_in ward.poll ward bundles lots (length count.stages.items))
text_shown table_asked ward bundles lots count = spreadsheet ward count.stages.items
text_shown results_asked ward bundles lots count = results ward (is_finished count.end) count.stages.items (lots_in ward.poll lots)
text_shown ballots_asked ward bundles lots count = ballots ward bundles (lots_in ward.poll lots)

-- ---- the lot that the count is waiting for

-- the separator before one of the tied candidates: none before the first
abbrev pub tie_mark : List ℕ → ℕ → Text
tie_mark [] c = []
tie_mark (first ∷ others) c = if c == first then [] else codes ", "

-- `4 Dee`, if the candidate is tied
abbrev pub tied_name : List ℕ → ℕ → Text → Text
tied_name among c name = if list_any (nat_eq c) among then joined (tie_mark among c ∷ decimal c ∷ codes " " ∷ name ∷ []) else []

-- `2 Bob, 4 Dee`
abbrev pub tied_names : List (ℕ × Text) → List ℕ → Text
tied_names candidates among = flat_map (λ candidate. tied_name among candidate.0 candidate.1) candidates

-- `lot needed at stage 3 among 2 Bob, 4 Dee`, made safe for a terminal
abbrev pub lot_line : SheetEntry → ℕ → List ℕ → Text
lot_line ward stage among = shown (joined (codes "lot needed at stage " ∷ decimal stage ∷ codes " among " ∷ tied_names ward.candidates among ∷ codes "\n" ∷ []))

-- the line about the lot that a count is waiting for; none if it is finished; no line is printed if a lot names none of the tied candidates
abbrev pub IsLotLine : SheetEntry → CountEnd → Option Text → Type 0
IsLotLine ward end.Finished line = line ≡ None
IsLotLine ward (end.LotNeeded stage among) line = line ≡ Some (lot_line ward stage among)
IsLotLine ward (end.LotNotAmong stage) line = ⊥

-- the reason why no such line is printed: a lot names none of the tied candidates, or an allocation failed
abbrev pub IsNoLotLine : CountEnd → Problem → Type 0
IsNoLotLine why (problem.Line line flaw) = ⊥
IsNoLotLine why problem.NoContest = ⊥
IsNoLotLine why (problem.LotNeeded stage among) = ⊥
IsNoLotLine why (problem.LotNotAmong stage) = why ≡ end.LotNotAmong stage
IsNoLotLine why (problem.LotNotNeeded stage) = ⊥
IsNoLotLine why problem.Memory = ⊤

-- ---- the count of a file

-- a text of the count of a ward with the given papers and lots, and the line about the lot that the count is waiting for
pub record IsWardText (poll : Option Poll) (ward : SheetEntry) (bundles : List Bundle) (lots : List (ℕ × ℕ)) (text : TextEntry) (counted : CountedText) : Type 0 where
  pub count : WardCount
  pub is : IsWardCount poll ward bundles lots count
  pub shows : string_bytes counted.text ≡ text_shown text ward bundles lots count
  pub waits : IsLotLine ward count.end (option_map string_bytes counted.lot_needed)

-- the reason why there is no text: a problem as in a check; but if a lot is needed, there is a text of the count so far
abbrev pub IsWardUncounted : Option Poll → SheetEntry → List Bundle → List (ℕ × ℕ) → Problem → Type 0
IsWardUncounted poll ward bundles lots (problem.Line line flaw) = ⊥
IsWardUncounted poll ward bundles lots problem.NoContest = IsWardProblem poll ward bundles lots problem.NoContest
IsWardUncounted poll ward bundles lots (problem.LotNeeded stage among) = ⊥
IsWardUncounted poll ward bundles lots (problem.LotNotAmong stage) = IsWardProblem poll ward bundles lots (problem.LotNotAmong stage)
IsWardUncounted poll ward bundles lots (problem.LotNotNeeded stage) = IsWardProblem poll ward bundles lots (problem.LotNotNeeded stage)
IsWardUncounted poll ward bundles lots problem.Memory = ⊤

-- a text of the count of the ward that a file describes, with further lots: no two lots are for the same stage
pub record IsReadingText (reading : ReaderEntry) (added : List (ℕ × ℕ)) (text : TextEntry) (counted : CountedText) : Type 0 where
  pub lots : List (ℕ × ℕ)
  pub ordered : lots_of reading.remarks.lots added ≡ Ok lots
  pub told : IsWardText (ward_told reading).poll (ward_told reading) reading.papers.bundles lots text counted

-- there is at most one lot per stage, but the given problem prevents the count
pub record Prevents (reading : ReaderEntry) (added : List (ℕ × ℕ)) (why : Problem) : Type 0 where
  pub lots : List (ℕ × ℕ)
  pub ordered : lots_of reading.remarks.lots added ≡ Ok lots
  pub hinders : IsWardUncounted (ward_told reading).poll (ward_told reading) reading.papers.bundles lots why

-- the reason why there is no text: a stage for which a second lot is given, or a problem of the count
abbrev pub IsReadingUncounted : ReaderEntry → List (ℕ × ℕ) → CountProblem → Type 0
IsReadingUncounted reading added (uncounted.LotTwice stage) = lots_of reading.remarks.lots added ≡ Err stage
IsReadingUncounted reading added (uncounted.Ballots why) = (why ≡ problem.Memory) ⊎ Prevents reading added why

-- a text of the count of a file of ballots with further lots, given the content of the file or its flaw: the file is understood, and the text is that of the ward that it describes
pub record IsCountedText (file : Result ReaderEntry (ℕ × BallotsFlaw)) (added : List (ℕ × ℕ)) (text : TextEntry) (counted : CountedText) : Type 0 where
  pub reading : ReaderEntry
  pub understood : file ≡ Ok reading
  pub told : IsReadingText reading added text counted

-- a file of ballots is understood, but not counted
pub record IsReadUncounted (file : Result ReaderEntry (ℕ × BallotsFlaw)) (added : List (ℕ × ℕ)) (why : CountProblem) : Type 0 where
  pub reading : ReaderEntry
  pub understood : file ≡ Ok reading
  pub hinders : IsReadingUncounted reading added why

-- the reason why a file of ballots isn't counted: its line with the given number is the first that isn't understood; or the file is understood,
-- but its lots or its count have a problem; or an allocation failed
abbrev pub IsUncounted : Result ReaderEntry (ℕ × BallotsFlaw) → List (ℕ × ℕ) → CountProblem → Type 0
IsUncounted file added (uncounted.LotTwice stage) = IsReadUncounted file added (uncounted.LotTwice stage)
IsUncounted file added (uncounted.Ballots (problem.Line line flaw)) = file ≡ Err (line, flaw)
IsUncounted file added (uncounted.Ballots problem.NoContest) = IsReadUncounted file added (uncounted.Ballots problem.NoContest)
IsUncounted file added (uncounted.Ballots (problem.LotNeeded stage among)) = ⊥
IsUncounted file added (uncounted.Ballots (problem.LotNotAmong stage)) = IsReadUncounted file added (uncounted.Ballots (problem.LotNotAmong stage))
IsUncounted file added (uncounted.Ballots (problem.LotNotNeeded stage)) = IsReadUncounted file added (uncounted.Ballots (problem.LotNotNeeded stage))
IsUncounted file added (uncounted.Ballots problem.Memory) = ⊤

-- the stage for which a second lot is given, or a failed allocation
abbrev pub IsLotProblem : Result (List (ℕ × ℕ)) ℕ → CountProblem → Type 0
IsLotProblem lots (uncounted.LotTwice stage) = lots ≡ Err stage
IsLotProblem lots (uncounted.Ballots why) = why ≡ problem.Memory
