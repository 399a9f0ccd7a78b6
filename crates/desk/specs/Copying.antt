-- The outcome of an order to copy the office.
use Rattle.std.specs.Prelude.{◌≡◌, ◌⊎◌, ◌++◌, ⊤, true, false, IsTrue, List, codes}
use Rattle.std.specs.Fmt.{decimal}
use Rattle.clap.specs.Words.{Text}
use Rattle.sqlite.specs.Effect.{Database}
use Rattle.sqlite.specs.Tree.{Trees}
use Rattle.sqlite.specs.State.{State, HasCleanDisk}
use Rattle.register.specs.Machine.{after}
use Rattle.register.specs.Offices.{OfficeState, empty_office}
use Rattle.register.specs.declared.command.Request.{Request}
use Rattle.tables.specs.Contents.{RestsAt}
use Rattle.tables.specs.Presence.{IsOurs, has_some_table}
use Rattle.tables.specs.Reading.{FailsBy, FailsToList, OnlyReads}
use Rattle.tables.specs.declared.fault.Fault.{Fault}
use Rattle.store.specs.Copies.{LeavesNoneOrAll, holdings_of}
use Rattle.store.specs.declared.copying.OfficeCounts.{OfficeCounts}
use Rattle.store.specs.declared.copying.CopyFault.{CopyFault}
use Rattle.store.specs.declared.copying.CopyFault.TheVariants as uncopied
use Rattle.store.specs.StateTables.{IsAt, LeavesState, StoresState}
use Rattle.store.specs.Openings.{HoldsNoState, IsBlank, IsLeftAt, IsFaultOf}
use Rattle.desk.specs.declared.copying.CopyState.{CopyState}
use Rattle.desk.specs.declared.copying.CopyState.TheVariants.{Whole, Untouched, Unknown}
use Rattle.desk.specs.Pages.{Page, failed, replied}
use Rattle.desk.specs.declared.lines.Failure.{Failure}
use Rattle.desk.specs.declared.lines.Failure.TheVariants.{Office, CopyTaken, CopyFailed, Output, BeingServed, FileGone, SecondRecord}

-- the line that says how much a copy contains
unfoldable pub copied_text : OfficeCounts → Text
copied_text h =
    codes "copied " ++ (decimal h.wards ++ (codes " wards, " ++ (decimal h.batches ++ (codes " batches, "
    ++ (decimal h.keyings ++ (codes " keyings, " ++ (decimal h.receipts ++ codes " receipts")))))))

-- the failures that can end the copying of an existing office: an allocation failed, the office's store failed while the office was being read, or the copy couldn't
-- be written
abbrev pub EndsCopying : State → State → Failure → Type 0
EndsCopying old new (Office fault) = FailsBy old new fault
EndsCopying old new CopyTaken = ⊥
EndsCopying old new CopyFailed = ⊤
EndsCopying old new Output = ⊥
EndsCopying old new BeingServed = ⊥
EndsCopying old new FileGone = ⊥
EndsCopying old new SecondRecord = ⊥

-- what the other database contains if the copy isn't confirmed: what it contained before, unless writing it failed
abbrev pub state_behind : CopyFault → CopyState
state_behind (uncopied.Office fault) = Untouched
state_behind uncopied.Taken = Untouched
state_behind (uncopied.Copy fault) = Unknown

-- whatever a stop leaves, the new database is unchanged or contains a whole office
abbrev pub LeavesNoneOrOffice : State → State → Type 0
LeavesNoneOrOffice copy_old copy_new =
    HasCleanDisk copy_new → IsBlank copy_old → (trees : Trees) → copy_new.may_leave trees → copy_old.may_leave trees ⊎ ((s : OfficeState) × StoresState s trees)

-- a connection to a database that is reported as untouched is as it was
abbrev pub IsAsReported : {C : Type 0} → CopyState → C → C → Type 0
IsAsReported left conn_old conn_new = left ≡ Untouched → conn_new ≡ conn_old

-- What is reported about the other database is true for any office. A copy that is confirmed is complete, and the reply describes it. With any other page, either
-- nothing was written, or after a stop the database contains what it could have contained before or a complete office.
abbrev pub HoldsCopy : CopyState → Page → State → State → Type 0
HoldsCopy Whole page copy_old copy_new =
    (h : OfficeCounts) × (page ≡ replied (copied_text h)) × (HasCleanDisk copy_new → IsBlank copy_old → (s : OfficeState) × (h ≡ holdings_of s) × IsAt s copy_new)
HoldsCopy Untouched page copy_old copy_new = (failure : Failure) × (page ≡ failed failure) × OnlyReads copy_old copy_new
HoldsCopy Unknown page copy_old copy_new = (failure : Failure) × (page ≡ failed failure) × LeavesNoneOrOffice copy_old copy_new

-- An office in the given state is copied into an empty database, which then has exactly that state, and the page says how much the copy contains. Or the page
-- reports a failure, and after a stop the copy contains either what it could have contained before or everything. The page shows one or the other even if the
-- copy's disk doesn't behave as `sqlite` specifies.
abbrev pub IsCopiedAt : OfficeState → Page → CopyState → State → State → State → State → Type 0
IsCopiedAt s page left old new copy_old copy_new =
    ((page ≡ replied (copied_text (holdings_of s))) × (left ≡ Whole) × (HasCleanDisk copy_new → IsAt s copy_new))
    ⊎ ((failure : Failure) × (page ≡ failed failure) × EndsCopying old new failure × (HasCleanDisk copy_new → LeavesNoneOrAll s copy_old copy_new))

-- For a database whose tables represent no state, the page reports the fault from opening it. A failing store is reported only if the store failed or if the
-- rowids aren't distinct integers. Nothing is copied.
pub record IsNoneCopied (db : Database) (page : Page) (left : CopyState) (old new : State) : Type 0 where
  pub fault : Fault
  pub told : page ≡ failed (Office fault)
  pub given : IsFaultOf db fault
  pub cause : FailsToList db old new fault
  pub untouched : left ≡ Untouched

-- The outcome of the order, depending on the database of its own connection and on the target of the copy. The office is copied. Or the page reports the fault
-- from opening the office, and nothing is copied. Or the target has a table with one of our names, and nothing is copied. The office being copied is only read,
-- and a stop doesn't change it.
pub record IsCopied (page : Page) (left : CopyState) (old new copy_old copy_new : State) : Type 0 where
  pub in_office : (db : Database) → RestsAt db old → (s : OfficeState) → IsLeftAt s db → IsBlank copy_old → IsCopiedAt s page left old new copy_old copy_new
  pub elsewhere : (db : Database) → IsOurs db.schema → RestsAt db old → HoldsNoState db → IsBlank copy_old → IsNoneCopied db page left old new
  pub taken : old.in_transaction ≡ false → has_some_table copy_old.now.schema ≡ true → (page ≡ failed CopyTaken) × (left ≡ Untouched)
  pub reads : OnlyReads old new
  pub leaves : (db : Database) → RestsAt db old → (earlier : List Request) → IsLeftAt (after empty_office earlier) db → LeavesState new (λ x. x ≡ after empty_office earlier)

-- The outcome of the order in an office that is open in the given state and stays open. The copy has exactly that state, and the page says how much it contains. Or
-- the page reports a failure, with its cause if the store was open, and after a stop the copy contains either what it could have contained before or everything.
abbrev pub IsCopiedOpen : OfficeState → Page → CopyState → State → State → State → State → Type 0
IsCopiedOpen s page left old new copy_old copy_new =
    ((page ≡ replied (copied_text (holdings_of s))) × (left ≡ Whole) × (HasCleanDisk copy_new → IsBlank copy_old → IsAt s copy_new))
    ⊎ ((failure : Failure) × (page ≡ failed failure) × (IsTrue old.is_open → IsBlank copy_old → EndsCopying old new failure)
    × (HasCleanDisk copy_new → IsBlank copy_old → LeavesNoneOrAll s copy_old copy_new))
