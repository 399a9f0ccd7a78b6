-- What a store returns about the state it keeps, and the state it is left in.
use Rattle.std.specs.Prelude.{Result, IfOk, IfErr, OnOk, IsTrue}
use Rattle.sqlite_trees.specs.declared.store.Store.{Ghosts}
use Rattle.sqlite.specs.Held.{Held, state}
use Rattle.sqlite.specs.State.{State, HasCleanDisk}
use Rattle.register.specs.Offices.{OfficeState}
use Rattle.tables.specs.declared.fault.Fault.{Fault}
use Rattle.tables.specs.Reading.{OnlyReads, FailsBy}
use Rattle.store.specs.StateTables.{IsAt}

-- A load, for any state that the store keeps. Its result is true of that state, and it fails only if an allocation or the store fails. It changes nothing and
-- keeps the state, and the connection is open if it succeeds.
pub record LoadsAt {X : Type 0} (old new : State) (result : Result X Fault) (IsTold : OfficeState → X → Type 0) : Type 0 where
  pub shows : HasCleanDisk new → (s : OfficeState) → IsAt s old → IfOk result (IsTold s)
  pub cause : HasCleanDisk new → (s : OfficeState) → IsAt s old → IfErr result (FailsBy old new)
  pub opens : HasCleanDisk new → OnOk result (IsTrue new.is_open)
  pub reads : OnlyReads old new
  pub keeps : HasCleanDisk new → (s : OfficeState) → IsAt s old → IsAt s new

abbrev pub Loads : {S X : Type 0} → Ghosts S → Held S → Held S → Result X Fault → (OfficeState → X → Type 0) → Type 0
Loads store old new result IsTold = LoadsAt (state store old) (state store new) result IsTold

-- a store's connection is open, as it is after each successful load
abbrev pub IsOpen : {S : Type 0} → Ghosts S → Held S → Type 0
IsOpen store held = HasCleanDisk (state store held) → IsTrue (state store held).is_open
