-- The faults of a store, and the error of `sqlite` that each represents.
use Rattle.std.specs.Prelude.{◌≡◌, ℕ, List, codes, Err, IsTrue}
use Rattle.sqlite.specs.declared.error.Error.{Error}
use Rattle.sqlite.specs.declared.error.Error.TheVariants.{SqliteFailure}
use Rattle.sqlite.specs.declared.error.ErrorCode.TheVariants.{OutOfMemory}
use Rattle.sqlite.specs.Order.{Row}
use Rattle.sqlite.specs.State.{State, HasCleanDisk, ExecutesInside, FailsToQuery}
use Rattle.tables.specs.declared.fault.Fault.{Fault}
use Rattle.tables.specs.declared.fault.Fault.TheVariants.{Memory, Store, Damaged, Closed, WrongDatabase, NewerSchema, OlderSchema}

-- the number of a fault
abbrev pub fault_number : Fault → ℕ
fault_number Memory = 101
fault_number Store = 102
fault_number Damaged = 103
fault_number Closed = 104
fault_number WrongDatabase = 105
fault_number NewerSchema = 106
fault_number OlderSchema = 108

-- the text of a fault
abbrev pub fault_text : Fault → List ℕ
fault_text Memory = codes "memory"
fault_text Store = codes "store"
fault_text Damaged = codes "damaged"
fault_text Closed = codes "closed"
fault_text WrongDatabase = codes "wrong database"
fault_text NewerSchema = codes "newer schema"
fault_text OlderSchema = codes "older schema"

-- `Memory` for a failed allocation, `Store` for any other refusal by the store
abbrev pub fault_of : Error → Fault
fault_of (SqliteFailure OutOfMemory) = Memory
fault_of _ = Store

-- `Memory` for a failed allocation, `Damaged` for a value that isn't what its column should contain
abbrev pub value_fault : Error → Fault
value_fault (SqliteFailure OutOfMemory) = Memory
value_fault _ = Damaged

-- the fault says why `sqlite` refused this query
abbrev pub TellsQuery : List ℕ → Row → State → State → Fault → Type 0
TellsQuery sql params old new f = (e : Error) × (f ≡ fault_of e) × (HasCleanDisk new → FailsToQuery sql params old new e)

-- the fault says why `sqlite` refused this statement inside a transaction
abbrev pub TellsStatement : List ℕ → Row → State → State → Fault → Type 0
TellsStatement sql params old new f = (e : Error) × (f ≡ fault_of e) × (HasCleanDisk new → IsTrue old.in_transaction → ExecutesInside 0 sql params old new (Err e))
