-- Reading rows one at a time, and passing their entries to a visitor.
use Rattle.std.specs.Prelude.{◌≡◌, ◌⊎◌, List, [], ◌∷◌, ◌++◌, map, Bool, true, false, Some, None, IsTrue}
use Rattle.sqlite.specs.declared.error.Error.{Error}
use Rattle.sqlite.specs.Order.{Row}
use Rattle.sqlite.specs.Held.{Held, state}
use Rattle.sqlite.specs.Given.{Advances, FailsToAdvance}
use Rattle.sqlite_trees.specs.declared.store.Store.{Ghosts}
use Rattle.tables.specs.declared.fault.Fault.{Fault}
use Rattle.tables.specs.declared.fault.Fault.TheVariants.{Memory, Damaged}
use Rattle.tables.specs.declared.table.Table.{Table}
use Rattle.tables.specs.Faults.{fault_of}
use Rattle.tables.specs.Rows.{at, column_places}
use Rattle.tables.specs.Contents.{Contents}
use Rattle.tables.specs.Reading.{Finds}

-- whichever entries were consumed before, this one was consumed after them
abbrev pub TakesNext : {V X : Type 0} → (V → List X → Type 0) → V → V → X → Type 0
TakesNext {V} {X} HasVisited old new entry = (before : List X) → HasVisited old before → HasVisited new (before ++ entry ∷ [])

-- whichever entries were consumed before, those whose rows pass the test were consumed after them, in key order
abbrev pub TakesFound : {V X : Type 0} → (V → List X → Type 0) → (X → Row) → Table → (Row → Bool) → Contents → V → V → Type 0
TakesFound {V} {X} HasVisited row_of t test c old new = (found : List X) × Finds t test c (map row_of found) × ((before : List X) → HasVisited old before → HasVisited new (before ++ found))

module _ {S V X : Type 0} (g : Ghosts S) (t : Table) (row_of : X → Row) (HasVisited : V → List X → Type 0) where
  -- another row was read and its entry consumed, or there was none
  abbrev pub Visits : Held S → Held S → V → V → Bool → Type 0
  Visits old new was is true = (row : Row) × (entry : X) × Advances g old new (Some row) × (at (column_places t) row ≡ row_of entry) × TakesNext HasVisited was is entry
  Visits old new was is false = Advances g old new None × (is ≡ was)

module _ {S : Type 0} (g : Ghosts S) (IsRow : Row → Type 0) (Stops : Fault → Type 0) where
  -- why no further entry was consumed: the store failed to return the next row; an allocation failed; the visitor stopped; or the row doesn't represent an
  -- entry
  abbrev pub FailsToVisit : Held S → Held S → Fault → Type 0
  FailsToVisit old new f =
      ((e : Error) × (f ≡ fault_of e) × FailsToAdvance g old new e)
      ⊎ (((f ≡ Memory) ⊎ Stops f) ⊎ ((f ≡ Damaged) × IsTrue (state g new).is_open × (row : Row) × Advances g old new (Some row) × ¬ IsRow row))
