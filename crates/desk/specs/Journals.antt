-- The outcome of an order to print the journal of the office.
use Rattle.std.specs.Prelude.{◌≡◌, ◌⊎◌, List, map}
use Rattle.clap.specs.Words.{Text}
use Rattle.sqlite.specs.Effect.{Database}
use Rattle.sqlite.specs.State.{HasCleanDisk, State}
use Rattle.register.specs.Machine.{after}
use Rattle.register.specs.Offices.{OfficeState, empty_office}
use Rattle.register.specs.declared.command.Request.{Request}
use Rattle.tables.specs.Contents.{RestsAt}
use Rattle.tables.specs.Presence.{IsOurs}
use Rattle.tables.specs.Reading.{FailsToList, OnlyReads}
use Rattle.store.specs.StateTables.{LeavesState}
use Rattle.store.specs.Openings.{HoldsNoState, IsBlank, IsLeftAt, IsFaultOf}
use Rattle.office.specs.Answers.{IsMemoryOrStore}
use Rattle.office.specs.Runs.{LeadTo}
use Rattle.desk.specs.Headline.{IsFailed}
use Rattle.desk.specs.Pages.{Page, printed, unjournalled}
use Rattle.desk.specs.Scripts.{AreTurns, script_lines}
use Rattle.desk.specs.declared.orders.Errand.TheVariants as errand
use Rattle.desk.specs.declared.scripts.ScriptStep.{ScriptStep}

-- each step sends the request at the same position, and needs no file
abbrev pub AreSent : List ScriptStep → List Request → Type 0
AreSent turns requests = map (λ (turn : ScriptStep). turn.errand) turns ≡ map (λ (request : Request). errand.Send request) requests

-- The text is a script of the given requests, one per line.
pub record IsScriptOf (text : Text) (requests : List Request) : Type 0 where
  pub turns : List ScriptStep
  pub script : AreTurns (script_lines text) turns
  pub sends : AreSent turns requests

-- the text isn't a script of requests: whichever requests are given, it isn't a script of those
abbrev pub IsScriptOfNone : Text → Type 0
IsScriptOfNone text = (requests : List Request) → IsScriptOf text requests → ⊥

-- A journal of a state is a script of requests that lead to it: when they are sent to an empty office, each of them is accepted, and they result in exactly this
-- state.
abbrev pub IsJournalOf : OfficeState → Text → Type 0
IsJournalOf s text = (requests : List Request) × IsScriptOf text requests × LeadTo requests s

-- The page for an office in the given state: a journal of it; a message that there is none; or a fault, because an allocation or a store failed.
abbrev pub IsJournalTold : OfficeState → Page → Type 0
IsJournalTold s page = ((text : Text) × (page ≡ printed text) × IsJournalOf s text) ⊎ ((page ≡ unjournalled) ⊎ IsFailed IsMemoryOrStore page)

-- The page if the database of its connection contains no office: the fault for the database, with its cause.
abbrev pub IsToldElsewhere : Page → State → State → Type 0
IsToldElsewhere page old new = (db : Database) → IsOurs db.schema → RestsAt db old → HoldsNoState db → IsFailed (λ fault. IsFaultOf db fault × FailsToList db old new fault) page

-- The outcome of the order, depending on the database of its own connection. Suppose that this database contains an office, and that the other connection has an
-- empty database whose disk is clean after the journal was replayed in it. Then the page shows a journal of the office, or says why there is none. The office is
-- only read, and a stop doesn't change it.
pub record IsJournalled (page : Page) (old new blank trial : State) : Type 0 where
  pub in_office : (db : Database) → RestsAt db old → (s : OfficeState) → IsLeftAt s db → IsBlank blank → HasCleanDisk trial → IsJournalTold s page
  pub elsewhere : IsToldElsewhere page old new
  pub reads : OnlyReads old new
  pub leaves : (db : Database) → RestsAt db old → (earlier : List Request) → IsLeftAt (after empty_office earlier) db → LeavesState new (λ x. x ≡ after empty_office earlier)
