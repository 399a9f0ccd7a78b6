-- The outcome of an order to compare the office with a second record of it: a script with one line for each request that was accepted.
use Rattle.std.specs.Prelude.{◌≡◌, ◌⊎◌, ◌<◌, ◌++◌, ◌==◌, ◌&&◌, ℕ, Bool, not, true, false, List, [], ◌∷◌, codes, find, if◌then◌else◌, length, string_bytes, Option, Some}
use Rattle.std.specs.Fmt.{decimal}
use Rattle.std.specs.Str.{bytes_eq}
use Rattle.clap.specs.Words.{Text}
use Rattle.register.specs.Machine.{subject_of}
use Rattle.register.specs.Offices.{OfficeState}
use Rattle.register.specs.declared.command.Request.{Request}
use Rattle.office.specs.Answers.{IsMemoryOrStore}
use Rattle.office.specs.Runs.{LeadTo}
use Rattle.desk.specs.Folders.{File, HoldsText}
use Rattle.desk.specs.Headline.{IsFailed}
use Rattle.desk.specs.Journals.{IsScriptOf}
use Rattle.desk.specs.Pages.{Page, failed, line_front, printed, script_page, unequal, unjournalled}
use Rattle.desk.specs.Parts.{IsUnreadScript}
use Rattle.desk.specs.Scripts.{AreTurns, IsFirstFlaw, script_lines, whole_lines}
use Rattle.desk.specs.declared.lines.Failure.{Failure}
use Rattle.desk.specs.declared.orders.Errand.{Errand}
use Rattle.desk.specs.declared.orders.Errand.TheVariants as errand
use Rattle.desk.specs.declared.scripts.ScriptFault.TheVariants as script
use Rattle.desk.specs.declared.scripts.ScriptStep.{ScriptStep}
use Rattle.desk.specs.declared.second_record.NoRecord.{NoRecord}
use Rattle.desk.specs.declared.second_record.NoRecord.TheVariants as no_record

-- ---- what is printed

-- the sender of a request, if it was a clerk
unfoldable pub sender_words : ℕ → Text
sender_words actor = if actor == 0 then [] else codes " of clerk " ++ decimal actor

-- the subject of a request, its sender and its id: `key 12 1 of clerk 4, id k7`
unfoldable pub request_words : Request → Text
request_words r = subject_of r.command ++ (sender_words r.actor ++ (codes ", id " ++ string_bytes r.id))

-- the line if the record and the office hold the same, with the number of their requests
unfoldable pub same_text : Text → ℕ → Text
same_text path count = path ++ (codes " and this office hold the same, " ++ (decimal count ++ codes " requests\n"))

-- the line if the office has one request more than the record
unfoldable pub more_here_text : Text → Request → Text
more_here_text path r = codes "this office has one request more than " ++ (path ++ (codes ": " ++ (request_words r ++ codes "\n")))

-- the line if the record has one request more than the office
unfoldable pub more_there_text : Text → Request → Text
more_there_text path r = path ++ (codes " has one request more than this office: " ++ (request_words r ++ codes "\n"))

-- the line if neither is so, with the number of requests of the record, and that of the office
unfoldable pub apart_text : Text → ℕ → ℕ → Text
apart_text path there here =
    path ++ (codes " is of another office, or they differ by more than one request: it has " ++ (decimal there ++ (codes ", this office has " ++ (decimal here ++ codes "\n"))))

-- the page if an order of the record does something other than send one given request
abbrev pub ungiven_page : Option ℕ → Page
ungiven_page line = record { out = []; err = line_front line ++ codes "error: an order in a second record is one request, and names no file\n"; status = 2 }

-- the page that says why a file isn't a second record
abbrev pub record_page : NoRecord → Page
record_page (no_record.Script why) = script_page why
record_page (no_record.Ungiven line) = ungiven_page line

-- ---- what a text holds

-- whether an errand sends a given request
abbrev pub is_given : Errand → Bool
is_given (errand.Send request) = true
is_given other = false

-- the first step that does something else
abbrev pub first_ungiven : List ScriptStep → Option ScriptStep
first_ungiven turns = find (λ turn. not (is_given turn.errand)) turns

-- the fault is that of steps of which one does something else: the first of them has the given line
abbrev pub HasUngiven : List ScriptStep → NoRecord → Type 0
HasUngiven turns (no_record.Script why) = ⊥
HasUngiven turns (no_record.Ungiven line) = (turn : ScriptStep) × (first_ungiven turns ≡ Some turn) × (line ≡ turn.line)

-- Why a text isn't a script of requests: its first line that isn't understood has the given flaw; or all lines are understood, and the given line has the first order that does
-- something other than send one given request.
abbrev pub IsNoRecord : Text → NoRecord → Type 0
IsNoRecord text (no_record.Script script.Memory) = ⊥
IsNoRecord text (no_record.Script (script.ScriptLine number flaw)) = IsFirstFlaw (script_lines text) number flaw
IsNoRecord text (no_record.Ungiven line) = (turns : List ScriptStep) × AreTurns (script_lines text) turns × HasUngiven turns (no_record.Ungiven line)

-- whether a request has this actor and this id
abbrev pub has_name : ℕ → Text → Request → Bool
has_name actor id r = r.actor == actor && bytes_eq (string_bytes r.id) id

-- ---- the comparison of the office at a state with the requests of a record

-- The office has one request more, which is the one that is shown: it is accepted after those of the record, and then they lead to this state.
abbrev pub HasOneMore : OfficeState → Text → List Request → Page → Type 0
HasOneMore s path requests page = (r : Request) × (page ≡ unequal (more_here_text path r)) × LeadTo (requests ++ r ∷ []) s

-- The record has one request more, its last, which is the one that is shown: those before it lead to this state.
abbrev pub LacksOne : OfficeState → Text → List Request → Page → Type 0
LacksOne s path requests page = (earlier : List Request) × (r : Request) × (requests ≡ earlier ++ r ∷ []) × (page ≡ unequal (more_there_text path r)) × LeadTo earlier s

-- They differ otherwise; the numbers of requests are shown. If the record has more of them than the office has receipts, it doesn't just lack the record's last one.
pub record IsApart (s : OfficeState) (path : Text) (requests : List Request) (page : Page) : Type 0 where
  pub told : page ≡ unequal (apart_text path (length requests) (length s.receipts))
  pub other : length s.receipts < length requests → (earlier : List Request) (r : Request) → requests ≡ earlier ++ r ∷ [] → LeadTo earlier s → ⊥

-- How the office differs from the record. Or it isn't known: the office has more requests than the record, and no journal in which to look for the one that the record lacks.
abbrev pub Differs : OfficeState → Text → List Request → Page → Type 0
Differs s path requests page = HasOneMore s path requests page ⊎ (LacksOne s path requests page ⊎ (IsApart s path requests page ⊎ ((page ≡ unjournalled) × (length requests < length s.receipts))))

-- the office differs from the record; or a fault is reported, because an allocation or a store failed
abbrev pub IsDifference : OfficeState → Text → List Request → Page → Type 0
IsDifference s path requests page = Differs s path requests page ⊎ IsFailed IsMemoryOrStore page

-- The requests of the record lead to this state, and the page says so, with their number. Or they don't, and the page says how they differ. Or it reports a fault, because an
-- allocation or a store failed. So the page never says that both are the same if they aren't, nor anything else without a fault if they are.
abbrev pub IsCompared : OfficeState → Text → List Request → Page → Type 0
IsCompared s path requests page =
    ((page ≡ printed (same_text path (length requests))) × LeadTo requests s)
    ⊎ (((LeadTo requests s → ⊥) × Differs s path requests page) ⊎ IsFailed IsMemoryOrStore page)

-- ---- the outcome

-- The page for an office at a state and a text. Its whole lines are a script of requests, which are compared with the office. Or they aren't, and the page says why. Or a
-- fault is reported.
abbrev pub IsTextTold : OfficeState → Text → Text → Page → Type 0
IsTextTold s path text page =
    ((requests : List Request) × IsScriptOf (whole_lines text) requests × IsCompared s path requests page)
    ⊎ (((why : NoRecord) × (page ≡ record_page why) × IsNoRecord (whole_lines text) why) ⊎ IsFailed IsMemoryOrStore page)

-- The page for an office at a state and a file at a path: the same for the text that the file contains. Or the file can't be read.
abbrev pub IsSecondTold : OfficeState → Text → File → Page → Type 0
IsSecondTold s path file page =
    ((requests : List Request) × HoldsText file (λ text. IsScriptOf (whole_lines text) requests) × IsCompared s path requests page)
    ⊎ (((why : NoRecord) × (page ≡ record_page why) × HoldsText file (λ text. IsNoRecord (whole_lines text) why)) ⊎ (IsUnreadScript page ⊎ IsFailed IsMemoryOrStore page))

-- the page of an order that opens the office at a state, and compares it with the file at a path, whatever that is; or a failure
abbrev pub IsSecondPage : OfficeState → Text → Page → Type 0
IsSecondPage s path page = ((file : File) × IsSecondTold s path file page) ⊎ ((failure : Failure) × (page ≡ failed failure))
