-- The headline theorem's definitions: what an order prints, byte for byte, and what remains in effect if it is stopped at any time. They are best read from first to
-- last. Requests.antt defines which requests an errand sends, Scripts.antt which steps a job has, and Pages.antt and Told.antt what pages say.
use Rattle.std.specs.Prelude.{◌≡◌, ◌≢◌, ◌⊎◌, ◌+◌, ◌++◌, ℕ, Bool, true, false, List, [], ◌∷◌, codes, length, Option, None}
use Rattle.sqlite.specs.{Effect.Database, State.State, Tree.Trees}
use Rattle.register.specs.{Machine.after, Machine.after_one, Machine.is_accepted, Machine.step_of, Offices.OfficeState, Offices.empty_office, declared.command.Request.Request}
use Rattle.tables.specs.{Contents.RestsAt, Contents.Stores, Presence.IsOurs, Presence.IsOlderSchema, Presence.has_some_table, Reading.FailsBy, Reading.FailsToList, Reading.OnlyReads}
use Rattle.tables.specs.declared.fault.Fault.{Fault, TheVariants.WrongDatabase}
use Rattle.store.specs.StateTables.{IsAt, LeavesState, tables_of}
use Rattle.store.specs.{Openings.HoldsNoState, Openings.IsBlank, Openings.IsLeftAt, Openings.IsFaultOf, declared.older.OlderForm.OlderForm}
use Rattle.store.specs.Migrations.{HoldsNoOlder, IsToldInMigration, LeavesOldOrNew, RestsOlder}
use Rattle.store.specs.declared.migration.Migrated.TheVariants.{Already, Done}
use Rattle.office.specs.{Answers.IsClosedIn, Answers.IsKeptOpen, Answers.IsMemoryOrStore, Answers.IsOpenAt, Answers.Told, Answers.told_of, Reads.IsClosedReading, Runs.Keeps}
use Rattle.desk.specs.{Folders.File, Folders.Folder, Folders.IsFileAt, Requests.Sends, Requests.file_of, Scripts.HasSteps, Scripts.keeps_going, Told.IsNoScript, Told.IsTold, Told.page_answered}
use Rattle.desk.specs.Pages.{Cut, Page, below, cut_below, cut_note, empty_page, failed, fronted, goes_on, migrated_text, replied, uncut}
use Rattle.desk.specs.declared.{lines.Failure.TheVariants.Office, lines.Failure.TheVariants.SecondRecord, orders.Job.Job, orders.Task.Task, scripts.ScriptStep.ScriptStep}
use Rattle.desk.specs.declared.orders.Task.TheVariants as task

-- The outcome of a list of requests: the requests themselves, how many of them were answered, the page printed for them, and how much of that page was written.
pub record Course : Type 0 where
  pub requests : List Request
  pub answered : ℕ
  pub page : Page
  pub cut : Cut

-- The outcome of a sequence, extended at the front by requests that were all answered and by their page, which was written completely.
abbrev pub told_above : List Request → Page → Course → Course
told_above own page rest = record { requests = own ++ rest.requests; answered = rest.answered + length own; page = below page rest.page; cut = cut_below page.out rest.cut }

-- The sequence ends here: the given number of the requests were answered, and the given page is the last one, with the script's line number, if any, as its
-- prefix.
abbrev pub ended : Option ℕ → List Request → ℕ → Page → Cut → Course
ended line requests answered page cut = record { requests = requests; answered = answered; page = fronted line page; cut = cut }

-- The machine's answer to a request in the given state, as a page of the errand that sends the request. The page has status 0 and contains the reply, or it has
-- status 1 and contains the reason for the refusal. A reply to a request that was accepted earlier with different content comes with a note saying that nothing was
-- changed.
abbrev pub answer : (OfficeState → Request → Told → Page) → OfficeState → Request → Page
answer tells s r = tells s r (told_of (step_of s r))

-- The page reports a fault that satisfies a predicate.
abbrev pub IsFailed : (Fault → Type 0) → Page → Type 0
IsFailed Is page = (fault : Fault) × (page ≡ failed (Office fault)) × Is fault

-- Outcomes on a connection that was in state `old` and is now in state `st`, with the office closed or open.
module _ (old : State) (closed : Bool) (st : State) where
  -- A request is answered as the machine specifies, and the office is open in the state after it. Or the page reports a fault: an allocation or the store failed, or
  -- the request was accepted but couldn't be written, for an unspecified reason. After a stop, the state is the one before the request or, if it was accepted, the
  -- one after it.
  abbrev pub IsAnswered : (OfficeState → Request → Told → Page) → OfficeState → Request → ℕ → Page → Type 0
  IsAnswered tells s r answered page =
      ((answered ≡ 1) × (page ≡ answer tells s r) × IsOpenAt (after_one s r) closed st)
      ⊎ ((answered ≡ 0) × IsFailed (λ fault. (FailsBy old st fault ⊎ (is_accepted (step_of s r) ≡ true)) × (IsKeptOpen s fault closed st ⊎ IsClosedIn s (step_of s r) fault closed st)) page)

  -- A request wasn't acknowledged because recording it failed. It was accepted, and the office is open in the state after it. Or the record had failed before, and
  -- the office is open in the unchanged state.
  abbrev pub IsUnrecorded : OfficeState → Request → ℕ → Page → Type 0
  IsUnrecorded s r answered page =
      (answered ≡ 0) × (page ≡ failed SecondRecord) × (((is_accepted (step_of s r) ≡ true) × IsOpenAt (after_one s r) closed st) ⊎ IsOpenAt s closed st)

  -- a request is answered in an office with a second record, or with none
  abbrev pub IsAnsweredBy : Bool → (OfficeState → Request → Told → Page) → OfficeState → Request → ℕ → Page → Type 0
  IsAnsweredBy false tells s r answered page = IsAnswered tells s r answered page
  IsAnsweredBy true tells s r answered page = IsAnswered tells s r answered page ⊎ IsUnrecorded s r answered page

  -- The page reports a fault, with its cause, before anything was sent. After a stop, the state is unchanged.
  abbrev pub IsStopped : OfficeState → Page → Type 0
  IsStopped s page = IsFailed (λ fault. FailsBy old st fault × (IsKeptOpen s fault closed st ⊎ IsClosedReading s fault closed st)) page

  -- Nothing is sent, and the page satisfies `Tells`. After it, `Then` holds, or the sequence ends with the office open in the same state. Or the page reports a
  -- fault.
  abbrev pub IsUnsent : Bool → Option ℕ → (Page → Type 0) → (Course → Type 0) → OfficeState → Course → Type 0
  IsUnsent keep line Tells Then s course =
      ((page : Page) × (rest : Course) × Tells page × (goes_on keep page.status ≡ true) × (course ≡ told_above [] (fronted line page) rest) × Then rest)
      ⊎ ((page : Page) × (cut : Cut) × (course ≡ ended line [] 0 page cut) × (goes_on keep page.status ≡ true → cut ≢ uncut) × ((Tells page × IsOpenAt s closed st) ⊎ IsStopped s page))

-- The same, given whether the office has a second record.
module _ (recorded : Bool) (old : State) (closed : Bool) (st : State) where
  -- Requests are sent one after another, each after a page that was written completely and doesn't end the sequence. After the last request, `Then` holds.
  -- Otherwise the sequence ends early.
  abbrev pub IsSentBy : Bool → Option ℕ → (OfficeState → Request → Told → Page) → (OfficeState → Course → Type 0) → OfficeState → List Request → Course → Type 0
  IsSentBy keep line tells Then s [] course = Then s course
  IsSentBy keep line tells Then s (r ∷ rs) course =
      ((rest : Course) × (goes_on keep (answer tells s r).status ≡ true) × (course ≡ told_above (r ∷ []) (fronted line (answer tells s r)) rest)
      × IsSentBy keep line tells Then (after_one s r) rs rest)
      ⊎ ((answered : ℕ) × (page : Page) × (cut : Cut) × (course ≡ ended line (r ∷ rs) answered page cut) × (goes_on keep page.status ≡ true → cut ≢ uncut)
      × IsAnsweredBy old closed st recorded tells s r answered page)

  -- Steps are run one after another, each with the file that is at its path when the step runs. Either all requests of a step are sent; or none are, and the page
  -- answers the step's question or says why its file is refused.
  abbrev pub IsPlayedBy : Bool → Folder → OfficeState → List ScriptStep → Course → Type 0
  IsPlayedBy keep folder s [] course = (course ≡ ended None [] 0 empty_page uncut) × IsOpenAt s closed st
  IsPlayedBy keep folder s (turn ∷ turns) course =
      (file : File) × IsFileAt folder (file_of turn.errand) file
      × (((requests : List Request) × Sends s turn.errand file requests
      × IsSentBy keep turn.line (page_answered turn.errand) (λ next. IsPlayedBy keep folder next turns) s requests course)
      ⊎ IsUnsent old closed st keep turn.line (IsTold s turn.errand file) (IsPlayedBy keep folder s turns) s course)

  -- Steps are run. If the end of their script is left out, a note says so first, and no step is run unless it was written.
  abbrev pub IsBegunBy : Bool → Bool → Folder → OfficeState → List ScriptStep → Course → Type 0
  IsBegunBy false keep folder s turns course = IsPlayedBy keep folder s turns course
  IsBegunBy true keep folder s turns course = IsUnsent old closed st false None (λ page. page ≡ cut_note) (IsPlayedBy keep folder s turns) s course

  -- A job is done in the open office: its steps are run; with `keep_going`, the job continues after refusals. Or the page says why the job's text isn't a script. Or the
  -- page reports a fault.
  abbrev pub IsDoneBy : Folder → OfficeState → Job → Course → Type 0
  IsDoneBy folder s job course = ((turns : List ScriptStep) × (left_out : Bool) × HasSteps folder job left_out turns
      × IsBegunBy left_out (keeps_going job) folder s turns course) ⊎ IsUnsent old closed st false None (IsNoScript folder job) (λ rest. ⊥) s course

-- The same in an office with no second record.
module _ (old : State) (closed : Bool) (st : State) where
  abbrev pub IsSent : Bool → Option ℕ → (OfficeState → Request → Told → Page) → (OfficeState → Course → Type 0) → OfficeState → List Request → Course → Type 0
  IsSent = IsSentBy false old closed st

  abbrev pub IsPlayed : Bool → Folder → OfficeState → List ScriptStep → Course → Type 0
  IsPlayed = IsPlayedBy false old closed st

  abbrev pub IsBegun : Bool → Bool → Folder → OfficeState → List ScriptStep → Course → Type 0
  IsBegun = IsBegunBy false old closed st

  abbrev pub IsDone : Folder → OfficeState → Job → Course → Type 0
  IsDone = IsDoneBy false old closed st

-- Nothing is sent, and after a stop the state is unchanged.
abbrev pub IsUntouched : (Page → Type 0) → OfficeState → Course → State → Type 0
IsUntouched Tells s course new = (page : Page) × (cut : Cut) × (course ≡ ended None [] 0 page cut) × Tells page × LeavesState new (λ x. x ≡ s)

-- The outcome of a task for an office in the given state. `init` doesn't create a second office. For `migrate`, the office already has this version. For any other
-- task, its job is done in the office; or the office isn't opened, and the page reports a fault, with its cause.
abbrev pub PerformsBy : Bool → Folder → OfficeState → Task → Course → State → State → Type 0
PerformsBy recorded folder s task.Init course old new = IsUntouched (λ page. page ≡ failed (Office WrongDatabase)) s course new
PerformsBy recorded folder s task.Migrate course old new = IsUntouched (λ page. (page ≡ replied (migrated_text Already)) ⊎ IsFailed IsMemoryOrStore page) s course new
PerformsBy recorded folder s (task.InOffice job) course old new =
    ((closed : Bool) × IsDoneBy recorded old closed new folder s job course) ⊎ IsUntouched (IsFailed (FailsBy old new)) s course new

-- the same in an office with no second record
abbrev pub Performs : Folder → OfficeState → Task → Course → State → State → Type 0
Performs = PerformsBy false

-- The contract of a task: the given number of its requests were answered, as its page says. If earlier requests led to the office's state, the state after a stop
-- is the one after the accepted requests in a prefix of the earlier requests followed by the task's. The prefix contains each earlier and each answered request, and
-- at most one more. If the status is 0, all requests were answered.
pub record IsPerformed (folder : Folder) (s : OfficeState) (task : Task) (cut : Cut) (page : Page) (ends : ℕ) (old new : State) : Type 0 where
  pub requests : List Request
  pub answered : ℕ
  pub comes : Performs folder s task (record { requests = requests; answered = answered; page = page; cut = cut }) old new
  pub keeps : (earlier : List Request) → s ≡ after empty_office earlier → Keeps earlier requests answered new
  pub all : ends ≡ 0 → answered ≡ length requests

-- An office is created in an empty database; or the page reports a fault, and after a stop the database contains nothing or the empty office. If the database has
-- a table with one of our names, no office is created.
pub record Makes (page : Page) (old new : State) : Type 0 where
  pub made : IsBlank old → ((page ≡ replied (codes "office ready")) × IsAt empty_office new)
      ⊎ IsFailed (λ fault. IsMemoryOrStore fault × ((trees : Trees) → new.may_leave trees → old.may_leave trees ⊎ Stores (tables_of empty_office) trees)) page
  pub taken : (db : Database) → RestsAt db old → has_some_table db.schema ≡ true → (page ≡ failed (Office WrongDatabase)) × OnlyReads old new

-- An office created by an earlier version is migrated with exactly the state that it had, or the page reports a fault. After a stop, the database contains either
-- that state's older tables or its tables in this version. If there is no office of either version, the page reports the fault for the database, and a stop can
-- leave only what it could have left before the order.
pub record BringsOver (page : Page) (old new : State) : Type 0 where
  pub older : (form : OlderForm) (s : OfficeState) → RestsOlder form s old → LeavesOldOrNew form s old new × (((page ≡ replied (migrated_text Done)) × IsAt s new) ⊎ IsFailed IsMemoryOrStore page)
  pub beyond : (db : Database) → IsOurs db.schema → IsOlderSchema db.schema → RestsAt db old → HoldsNoState db → HoldsNoOlder db
      → IsFailed (λ fault. IsToldInMigration db fault × FailsToList db old new fault × (IsMemoryOrStore fault ⊎ OnlyReads old new)) page × ((trees : Trees) → new.may_leave trees → old.may_leave trees)

-- The outcome of a task if there is no office of this version. For any task except `init` and `migrate`, the page reports the fault for the database, and nothing
-- changes.
abbrev pub Elsewhere : Task → Page → State → State → Type 0
Elsewhere task.Init page old new = Makes page old new
Elsewhere task.Migrate page old new = BringsOver page old new
Elsewhere (task.InOffice job) page old new = (db : Database) → IsOurs db.schema → RestsAt db old → HoldsNoState db
    → IsFailed (λ fault. IsFaultOf db fault × FailsToList db old new fault) page × OnlyReads old new

-- The outcome of a task on any connection: the page, how much of it was written, and the exit status.
pub record Headline (folder : Folder) (task : Task) (cut : Cut) (page : Page) (ends : ℕ) (old new : State) : Type 0 where
  pub in_office : (db : Database) → RestsAt db old → (s : OfficeState) → IsLeftAt s db → IsPerformed folder s task cut page ends old new
  pub elsewhere : Elsewhere task page old new
