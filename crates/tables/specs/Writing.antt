-- How a write inside a transaction changes the tables, and the state it leaves the store in.
use Rattle.std.specs.Prelude.{◌≡◌, ◌⊎◌, ℕ, List, Result, Ok, IfErr, OnOk, IsTrue}
use Rattle.std.specs.Borrow.{MutBor}
use Rattle.sqlite_trees.specs.declared.store.Store.{Ghosts}
use Rattle.sqlite.specs.Order.{Row}
use Rattle.sqlite.specs.Held.{Held, state}
use Rattle.sqlite.specs.State.{State, HasCleanDisk, KeepsCommit, Survives, ExecutesInside}
use Rattle.tables.specs.declared.fault.Fault.{Fault}
use Rattle.tables.specs.declared.fault.Fault.TheVariants.{Memory, Store}
use Rattle.tables.specs.Faults.{TellsStatement}

-- A write, through a connection that stays the same: if the connection sees what the write requires, and the write completes, it then sees what the write
-- ensures. The last commit is unchanged, even after a stop, and only a failed allocation or a failure of the store ends the write early.
pub record Alters {S X V : Type 0} (store : Ghosts S) (before after : MutBor (Held S)) (result : Result V Fault) (Takes Gives : X → State → Type 0) : Type 0 where
  pub same_reference : after.ghost_name ≡ before.ghost_name
  pub writes : HasCleanDisk (state store after.now) → (x : X) → Takes x (state store before.now) → OnOk result (Gives x (state store after.now))
  pub keeps : HasCleanDisk (state store after.now) → KeepsCommit (state store before.now) (state store after.now)
  pub survives : Survives (state store before.now) (state store after.now) (λ _. ⊥)
  pub cause : IfErr result (λ f. (f ≡ Memory) ⊎ (f ≡ Store))

-- The execution of one statement that writes, and the reason if it fails.
pub record RunsStatement {S V : Type 0} (store : Ghosts S) (before after : MutBor (Held S)) (sql : List ℕ) (params : Row) (result : Result V Fault) : Type 0 where
  pub same_reference : after.ghost_name ≡ before.ghost_name
  pub runs : HasCleanDisk (state store after.now) → IsTrue (state store before.now).in_transaction
      → OnOk result ((count : ℕ) × ExecutesInside 0 sql params (state store before.now) (state store after.now) (Ok count))
  pub keeps : HasCleanDisk (state store after.now) → KeepsCommit (state store before.now) (state store after.now)
  pub survives : Survives (state store before.now) (state store after.now) (λ _. ⊥)
  pub told : IfErr result (TellsStatement sql params (state store before.now) (state store after.now))
