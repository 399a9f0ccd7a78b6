-- Copying an office into an empty database.
use Rattle.std.specs.Prelude.{◌≡◌, ◌⊎◌, ⊤, ◌==◌, Bool, true, false, filter, length, Result, Err, IfOk, IfErr}
use Rattle.sqlite.specs.Tree.{Trees}
use Rattle.sqlite_trees.specs.declared.store.Store.{Ghosts}
use Rattle.sqlite.specs.Effect.{Database}
use Rattle.sqlite.specs.Held.{Held, state}
use Rattle.sqlite.specs.State.{State, HasCleanDisk}
use Rattle.register.specs.Offices.{OfficeState, KeyedEntry}
use Rattle.tables.specs.declared.fault.Fault.TheVariants.{Memory, Store as StoreFailed}
use Rattle.tables.specs.Contents.{RestsAt, Stores}
use Rattle.tables.specs.Presence.{has_some_table, IsOurs}
use Rattle.tables.specs.Reading.{OnlyReads, FailsBy, FailsToList}
use Rattle.store.specs.declared.copying.OfficeCounts.{OfficeCounts}
use Rattle.store.specs.declared.copying.CopyFault.{CopyFault}
use Rattle.store.specs.declared.copying.CopyFault.TheVariants.{Office, Taken, Copy}
use Rattle.store.specs.StateTables.{tables_of, HoldsState, StoresState, IsAt, KeepsConnection}
use Rattle.store.specs.Openings.{IsBlank, IsLeftAt, IsFaultOf}

-- whether a paper is the first in a keying; each keying has exactly one such paper
abbrev pub is_first_paper : KeyedEntry → Bool
is_first_paper k = k.paper == 1

-- how many wards, batches, keyings and receipts an office contains
abbrev pub holdings_of : OfficeState → OfficeCounts
holdings_of s = record {
  wards = length s.wards;
  batches = length s.batches;
  keyings = length (filter is_first_paper s.keyings);
  receipts = length s.receipts;
}

-- a stop leaves in the copy either what it could have left before or the tables of the given state
abbrev pub LeavesNoneOrAll : OfficeState → State → State → Type 0
LeavesNoneOrAll s old new = (trees : Trees) → new.may_leave trees → old.may_leave trees ⊎ Stores (tables_of s) trees

-- Why copying failed. Either opening an office reports this fault for this database, with its cause if it is a fault of the store. Or the database contains a
-- state, and an allocation or the copy's store failed.
abbrev pub IsToldInCopying : Database → State → State → CopyFault → Type 0
IsToldInCopying db old new (Office fault) = IsFaultOf db fault × FailsToList db old new fault
IsToldInCopying db old new Taken = ⊥
IsToldInCopying db old new (Copy fault) = ((fault ≡ Memory) ⊎ (fault ≡ StoreFailed)) × ((s : OfficeState) × HoldsState db s)

-- why copying an office left by a stop failed: an allocation or a store failed
abbrev pub StopsInCopying : State → State → CopyFault → Type 0
StopsInCopying old new (Office fault) = FailsBy old new fault
StopsInCopying old new Taken = ⊥
StopsInCopying old new (Copy fault) = (fault ≡ Memory) ⊎ (fault ≡ StoreFailed)

-- nothing was written to the copy
abbrev pub IsUnbegun : CopyFault → Type 0
IsUnbegun (Office fault) = ⊤
IsUnbegun Taken = ⊤
IsUnbegun (Copy fault) = ⊥

-- The outcome of copying an office that keeps a state. Either the copy keeps that same state, or a fault is reported, and a stop leaves in the copy either what
-- it could have left before or the whole copy.
pub record CopiesAt (s : OfficeState) (blank full : State) (result : Result OfficeCounts CopyFault) : Type 0 where
  pub same : IfOk result (λ h. (h ≡ holdings_of s) × (HasCleanDisk full → IsBlank blank → IsAt s full))
  pub stops : HasCleanDisk full → IsBlank blank → LeavesNoneOrAll s blank full

-- ---- a copy

module _ {S T : Type 0} (store : Ghosts S) (other : Ghosts T) (conn conn_after : Held S) (copy copy_after : Held T) (result : Result OfficeCounts CopyFault) where
  -- the office before and after
  abbrev old : State
  old = state store conn

  abbrev new : State
  new = state store conn_after

  -- the database into which the office is copied, before and after
  abbrev blank : State
  blank = state other copy

  abbrev full : State
  full = state other copy_after

  -- The outcome of copying an office if only its rows are known (`copied`, `told`), if its state is known (`same`, `stops`, `cause`), or if it is open
  -- (`kept`). Also, in each case, what the copy contains (`made`, `whole`), and when nothing is written.
  pub record CopiesTo : Type 0 where
    pub copied : HasCleanDisk new → (db : Database) → IsOurs db.schema → RestsAt db old
        → IfOk result (λ h. (s : OfficeState) × HoldsState db s × (h ≡ holdings_of s) × (HasCleanDisk full → IsBlank blank → IsAt s full))
    pub same : HasCleanDisk new → (db : Database) → RestsAt db old → (s : OfficeState) → IsLeftAt s db → IfOk result (λ h. (h ≡ holdings_of s) × (HasCleanDisk full → IsBlank blank → IsAt s full))
    pub stops : HasCleanDisk new → HasCleanDisk full → (db : Database) → RestsAt db old → (s : OfficeState) → IsLeftAt s db → IsBlank blank → LeavesNoneOrAll s blank full
    pub kept : HasCleanDisk new → (s : OfficeState) → IsAt s old → CopiesAt s blank full result
    pub made : HasCleanDisk full → IsBlank blank → IfOk result (λ h. (x : OfficeState) × (h ≡ holdings_of x) × IsAt x full)
    pub whole : HasCleanDisk full → IsBlank blank → (trees : Trees) → full.may_leave trees → blank.may_leave trees ⊎ ((x : OfficeState) × StoresState x trees)
    pub told : HasCleanDisk new → (db : Database) → IsOurs db.schema → RestsAt db old → IsBlank blank → IfErr result (IsToldInCopying db old new)
    pub cause : HasCleanDisk new → (db : Database) → RestsAt db old → (s : OfficeState) → IsLeftAt s db → IsBlank blank → IfErr result (StopsInCopying old new)
    pub reads : OnlyReads old new
    pub untouched : IfErr result (λ e. IsUnbegun e → copy_after ≡ copy)
    pub taken : has_some_table blank.now.schema ≡ true → conn.in_transaction ≡ false → (result ≡ Err Taken) × (copy_after ≡ copy)
    pub inside : conn.in_transaction ≡ true → (result ≡ Err (Office StoreFailed)) × (conn_after ≡ conn) × (copy_after ≡ copy)
    pub inside_too : copy.in_transaction ≡ true → conn.in_transaction ≡ false → (result ≡ Err Taken) × (copy_after ≡ copy)
    pub keeps_connection : KeepsConnection blank full
    pub clean : HasCleanDisk full → HasCleanDisk blank
    pub outside : conn.in_transaction ≡ false → conn_after.in_transaction ≡ false
    pub outside_too : copy.in_transaction ≡ false → copy_after.in_transaction ≡ false
