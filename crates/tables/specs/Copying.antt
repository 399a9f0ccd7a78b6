-- Copying the rows that a query returns, one at a time.
use Rattle.std.specs.Prelude.{◌≡◌, ◌⊎◌, ℕ, List, [], ◌∷◌, ◌++◌, Bool, true, false, Some, None, IsTrue}
use Rattle.sqlite.specs.declared.error.Error.{Error}
use Rattle.sqlite.specs.Order.{Row}
use Rattle.sqlite.specs.State.{HasCleanDisk, Shown}
use Rattle.sqlite.specs.Held.{Held, state}
use Rattle.sqlite.specs.Given.{Advances, FailsToAdvance}
use Rattle.sqlite_trees.specs.declared.store.Store.{Ghosts}
use Rattle.tables.specs.declared.fault.Fault.{Fault}
use Rattle.tables.specs.declared.fault.Fault.TheVariants.{Memory}
use Rattle.tables.specs.Faults.{fault_of, TellsQuery}
use Rattle.tables.specs.Reading.{OnlyReads}

module _ {S : Type 0} (g : Ghosts S) where
  -- another row was appended, or there was none
  abbrev pub Copies : Held S → Held S → List Row → List Row → Bool → Type 0
  Copies old new was is true = (row : Row) × Advances g old new (Some row) × (is ≡ was ++ row ∷ [])
  Copies old new was is false = Advances g old new None × (is ≡ was)

  -- why no further row was appended: the store failed to return it, or an allocation failed
  abbrev pub FailsToCopy : Held S → Held S → Fault → Type 0
  FailsToCopy old new f = ((e : Error) × (f ≡ fault_of e) × FailsToAdvance g old new e) ⊎ (f ≡ Memory)

  -- after a read that left the connection open, the query returned these rows
  abbrev pub IsShownAfter : List ℕ → Row → Held S → Held S → List Row → Type 0
  IsShownAfter sql params old new rows =
      (mid : Held S) × OnlyReads (state g old) (state g mid) × HasCleanDisk (state g mid) × IsTrue (state g mid).is_open × Shown sql params (state g mid) (state g new) rows

  -- an allocation or the query failed after a read
  abbrev pub FailsAfter : List ℕ → Row → Held S → Held S → Fault → Type 0
  FailsAfter sql params old new f =
      (f ≡ Memory) ⊎ ((mid : Held S) × OnlyReads (state g old) (state g mid) × OnlyReads (state g mid) (state g new) × TellsQuery sql params (state g mid) (state g new) f)
