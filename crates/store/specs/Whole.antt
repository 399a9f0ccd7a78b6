-- Reading all entries of an office from a database.
use Rattle.std.specs.Prelude.{◌≡◌, true, false, Result, Err, IfOk, IfErr}
use Rattle.sqlite.specs.Effect.{Database}
use Rattle.sqlite.specs.State.{State, HasCleanDisk}
use Rattle.register.specs.Offices.{OfficeState}
use Rattle.register.specs.StateConditions.{IsState}
use Rattle.register.specs.Tabulated.{IsTabulationOf}
use Rattle.rowcheck.specs.declared.rows.Rows.{Rows}
use Rattle.rowcheck.specs.States.{state_of, tabulated}
use Rattle.tables.specs.declared.fault.Fault.{Fault}
use Rattle.tables.specs.declared.fault.Fault.TheVariants.{Store as StoreFailed}
use Rattle.tables.specs.Contents.{RestsAt}
use Rattle.tables.specs.Presence.{IsOurs}
use Rattle.tables.specs.Reading.{OnlyReads, FailsBy, FailsToList}
use Rattle.store.specs.StateTables.{HoldsState, IsAt}
use Rattle.store.specs.Openings.{IsLeftAt, IsFaultOf}

-- The rows read are those of a state (`is`), with the tabulation of its counts (`tabulates`), however the database was made. They are those of the state in the
-- database: found by its rows alone (`found`), left there by a stop (`left`), or kept by an open office (`kept`). Otherwise a fault is reported, as when an
-- office is opened, with its cause. No transaction is begun.
pub record ReadsOffice (old new : State) (result : Result Rows Fault) : Type 0 where
  pub is : IfOk result (λ rows. IsState (state_of rows))
  pub tabulates : IfOk result (λ rows. IsTabulationOf (tabulated rows) (state_of rows))
  pub found : HasCleanDisk new → (db : Database) → IsOurs db.schema → RestsAt db old → IfOk result (λ rows. HoldsState db (state_of rows))
  pub left : HasCleanDisk new → (db : Database) → RestsAt db old → (s : OfficeState) → IsLeftAt s db → IfOk result (λ rows. state_of rows ≡ s)
  pub kept : HasCleanDisk new → (s : OfficeState) → IsAt s old → IfOk result (λ rows. state_of rows ≡ s)
  pub told : HasCleanDisk new → (db : Database) → IsOurs db.schema → RestsAt db old → IfErr result (IsFaultOf db)
  pub fails : HasCleanDisk new → (db : Database) → IsOurs db.schema → RestsAt db old → IfErr result (FailsToList db old new)
  pub cause : HasCleanDisk new → (db : Database) → RestsAt db old → (s : OfficeState) → IsLeftAt s db → IfErr result (FailsBy old new)
  pub reads : OnlyReads old new
  pub inside : old.in_transaction ≡ true → result ≡ Err StoreFailed
  pub outside : old.in_transaction ≡ false → new.in_transaction ≡ false
