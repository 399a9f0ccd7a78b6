-- The tables of a state, and a store that keeps a state.
use Rattle.std.specs.Prelude.{◌≡◌, ◌≤◌, ◌⊎◌, false, [], ◌∷◌, map, Result, IfErr, OnOk, IsTrue}
use Rattle.sqlite.specs.Tree.{Trees}
use Rattle.sqlite.specs.Effect.{Database}
use Rattle.sqlite.specs.Disk.{MoreFaults}
use Rattle.sqlite.specs.State.{State, HasCleanDisk, Survives}
use Rattle.register.specs.Offices.{OfficeState}
use Rattle.register.specs.StateConditions.{IsState}
use Rattle.register.specs.Effects.{ChangeEntry, with_change}
use Rattle.register.specs.Tabulated.{TabulationEntries, tabulation_of, AdditionEntries, with_addition}
use Rattle.tables.specs.declared.fault.Fault.{Fault}
use Rattle.tables.specs.declared.fault.Fault.TheVariants.{Memory, Store as StoreFailed}
use Rattle.tables.specs.declared.table.Table.TheVariants.{Office, Ward, Candidate, Batch, Keying, Verdict, Lot, Receipt, Bundle, Vote, Third}
use Rattle.tables.specs.Contents.{Contents, filled, IsOffice, Stores, Rests, Sees}
use Rattle.store.specs.EntryRows.{this_version, office_row, row_of_ward, row_of_candidate, row_of_batch, row_of_third}
use Rattle.store.specs.EntryRows.{row_of_keyed, row_of_judged, row_of_lot, row_of_receipt, row_of_placed, row_of_figure}

-- the empty tabulation
abbrev pub no_tabulation : TabulationEntries
no_tabulation = record { bundles = []; figures = [] }

-- the rows that represent a state and a tabulation of its counts, table by table; opaque, to keep a proof search from computing it
unfoldable pub tables_with : OfficeState → TabulationEntries → Contents
tables_with s t =
    filled (
    (Office, office_row this_version ∷ [])
    ∷ (Ward, map row_of_ward s.wards)
    ∷ (Candidate, map row_of_candidate s.candidates)
    ∷ (Batch, map row_of_batch s.batches)
    ∷ (Keying, map row_of_keyed s.keyings)
    ∷ (Verdict, map row_of_judged s.verdicts)
    ∷ (Lot, map row_of_lot s.lots)
    ∷ (Receipt, map row_of_receipt s.receipts)
    ∷ (Bundle, map row_of_placed t.bundles)
    ∷ (Vote, map row_of_figure t.figures)
    ∷ (Third, map row_of_third s.thirds)
    ∷ []
    )

-- the rows that represent a state, which also determines the tabulation of its counts
unfoldable pub tables_of : OfficeState → Contents
tables_of s = tables_with s (tabulation_of s)

-- a connection inside a transaction that sees the tables of a state and of a tabulation
abbrev pub SeesState : OfficeState × TabulationEntries → State → Type 0
SeesState x = Sees (tables_with x.0 x.1)

-- the contents are first the tables of a state, then those that result from a change and its addition to the tabulation
pub record ChangesTo (change : ChangeEntry) (addition : AdditionEntries) (before after : Contents) : Type 0 where
  pub old : OfficeState
  pub from : before ≡ tables_of old
  pub to : after ≡ tables_with (with_change change old) (with_addition addition (tabulation_of old))

-- the database contains exactly the tables of the given state
pub record HoldsState (db : Database) (s : OfficeState) : Type 0 where
  pub is : IsState s
  pub office : IsOffice (tables_of s) db

-- these trees are the tables of `s`, which is a state
pub record StoresState (s : OfficeState) (trees : Trees) : Type 0 where
  pub is : IsState s
  pub stores : Stores (tables_of s) trees

-- whatever a stop may leave now, it is the tables of a state of the given kind
abbrev pub LeavesState : State → (OfficeState → Type 0) → Type 0
LeavesState st P = (trees : Trees) → st.may_leave trees → (s : OfficeState) × P s × StoresState s trees

-- The store keeps the given state: while its connection is open, it rests at the state's tables, and a stop leaves exactly those tables.
pub record IsAt (s : OfficeState) (st : State) : Type 0 where
  pub is : IsState s
  pub rests : IsTrue st.is_open → Rests (tables_of s) st
  pub leaves : LeavesState st (λ x. x ≡ s)

-- No call sets a limit on the steps of a query or discards a disk fault, and only such a fault closes the connection.
pub record KeepsConnection (old new : State) : Type 0 where
  pub limit : new.step_limit ≡ old.step_limit
  pub counts : old.faults ≤ new.faults
  pub closes : HasCleanDisk new → IsTrue old.is_open → IsTrue new.is_open ⊎ MoreFaults old.faults new.faults

-- A transaction that writes an office. If the connection is in one of the states that the transaction accepts, it rests at these tables after the commit, and a
-- stop leaves either what it could have left before or these tables. The transaction has ended, and it fails only if an allocation or the store fails.
pub record Commits {X V : Type 0} (old new : State) (result : Result V Fault) (Takes : X → State → Type 0) (tables : X → Contents) : Type 0 where
  pub done : HasCleanDisk new → (x : X) → Takes x old → OnOk result (Rests (tables x) new)
  pub survives : (x : X) → Takes x old → Survives old new (Stores (tables x))
  pub keeps_connection : KeepsConnection old new
  pub clean : HasCleanDisk new → HasCleanDisk old
  pub outside : new.in_transaction ≡ false
  pub cause : IfErr result (λ f. (f ≡ Memory) ⊎ (f ≡ StoreFailed))
