-- The outcome of an order on the connection that was opened for it, and of a copy whose files have been closed.
use Rattle.std.specs.Prelude.{◌≡◌, ◌≢◌, ◌⊎◌, ℕ, false, true, List, None, Option, Some}
use Rattle.sqlite.specs.Effect.{Database}
use Rattle.sqlite.specs.Held.{Held}
use Rattle.sqlite.specs.State.{HasCleanDisk, State}
use Rattle.register.specs.Offices.{OfficeState}
use Rattle.tables.specs.Contents.{RestsAt}
use Rattle.tables.specs.Reading.{OnlyReads}
use Rattle.store.specs.Openings.{IsLeftAt}
use Rattle.desk.specs.Folders.{Folder}
use Rattle.desk.specs.Headline.{Headline}
use Rattle.desk.specs.Journals.{IsToldElsewhere}
use Rattle.desk.specs.RecordedOrders.{HeadlineRecorded, RecordPair}
use Rattle.desk.specs.Pages.{Cut, IsErrorTold, Page, failed}
use Rattle.desk.specs.declared.lines.Failure.TheVariants.{CopyFailed}
use Rattle.desk.specs.declared.orders.Task.{Task}
use Rattle.count_office.specs.Records.{has_failed, left_here}
use Rattle.count_office.specs.declared.second_file.SecondFile.{SecondFile}
use Rattle.count_office.specs.declared.timed_record.TimedRecord.{TimedRecord}

-- the files on this machine, about whose contents nothing is known
abbrev pub unknown : Folder
unknown path = None

-- The task was performed: the program ends with the given status, and the headline holds for a page, however much of it was printed. (If a person is watching a long
-- order on a terminal, more than the page is shown.)
abbrev pub IsDone : Task → ℕ → State → State → Type 0
IsDone task ends old new = (cut : Cut) × (page : Page) × (HasCleanDisk new → Headline unknown task cut page ends old new)

-- a second record in a file on this machine, before and after a task
abbrev pub pair_here : TimedRecord SecondFile → TimedRecord SecondFile → RecordPair
pair_here old new = record { there = true; found_old = left_here old; found_new = left_here new; failed_old = has_failed old; failed_new = has_failed new }

-- The office was read, and then the task was performed for an office with a second record, which hadn't failed before. The program ends with the given status, and the
-- headline holds for a page and for what became of that record. Or the record can't be used, or isn't one of this office: the office was only read, and the status isn't 0.
abbrev pub IsDoneRecorded : {S : Type 0} → (Held S → State) → Task → ℕ → Held S → Held S → Type 0
IsDoneRecorded {S} state_of task ends old new =
    (OnlyReads (state_of old) (state_of new) × (ends ≢ 0))
    ⊎ ((read : Held S) × (recorder : TimedRecord SecondFile) × (recorder_later : TimedRecord SecondFile) × (cut : Cut) × (page : Page)
    × OnlyReads (state_of old) (state_of read) × (has_failed recorder ≡ false)
    × (HasCleanDisk (state_of new) → HeadlineRecorded (pair_here recorder recorder_later) unknown task cut page ends (state_of read) (state_of new)))

-- the task was performed, with the second record at a path, or without one
abbrev pub IsDoneWith : {Path S : Type 0} → Option Path → (Held S → State) → Task → ℕ → Held S → Held S → Type 0
IsDoneWith None state_of task ends old new = IsDone task ends (state_of old) (state_of new)
IsDoneWith (Some path) state_of task ends old new = IsDoneRecorded state_of task ends old new

-- the files of a copy were closed, and nothing else is printed; or the log couldn't be copied into the database file, and the error output says so
abbrev pub EndsCopy : {E : Type 0} → (E → Option (List ℕ)) → (E → ℕ) → E → E → ℕ → Type 0
EndsCopy taken failed_calls old new ends = ((ends ≡ 0) × (new ≡ old)) ⊎ IsErrorTold taken failed_calls old new (failed CopyFailed).err 3 ends

-- The page of an order that only reads the office in a database: as given for the state that this database has; or, if it contains no office, the fault for the
-- database, with its cause.
abbrev pub IsReadingTold : (OfficeState → Page → Type 0) → Page → State → State → Type 0
IsReadingTold Told page old new =
    HasCleanDisk new → ((db : Database) → RestsAt db old → (s : OfficeState) → IsLeftAt s db → Told s page) × IsToldElsewhere page old new
