-- The faults that a statement reports.
use Rattle.std.proofs.Common.{◌≡◌, ◌⊎◌, inl, inr, ℕ, List, [], true, Ok, Err, Result, IfOk, IfErr, refl, sym, subst}
use Rattle.sqlite.specs.declared.error.Error.{Error}
use Rattle.sqlite.specs.declared.error.Error.TheVariants.{SqliteFailure}
use Rattle.sqlite.specs.declared.error.ErrorCode.TheVariants.{OutOfMemory}
use Rattle.sqlite.specs.Order.{Row}
use Rattle.sqlite.specs.Effect.{Database}
use Rattle.sqlite.specs.State.{State}
use Rattle.tables.specs.declared.table.Table.{Table}
use Rattle.tables.specs.declared.fault.Fault.{Fault}
use Rattle.tables.specs.declared.fault.Fault.TheVariants.{Memory, Store}
use Rattle.tables.specs.Faults.{fault_of, TellsQuery, TellsStatement}
use Rattle.tables.specs.Schema.{tree_of, changes_rows}
use Rattle.tables.specs.Rows.{begins_with, Keyed}
use Rattle.tables.specs.Reading.{Lists, ListsKeyed}

cause_of : (e : Error) → (fault_of e ≡ Memory) ⊎ (fault_of e ≡ Store)
cause_of (SqliteFailure OutOfMemory) = inl refl
cause_of _ = inr refl

-- the fault for an error of `sqlite` is either `Memory` or `Store`
pub error_cause : (e : Error) (f : Fault) → f ≡ fault_of e → (f ≡ Memory) ⊎ (f ≡ Store)
error_cause e f is = subst (λ (x : Fault). (x ≡ Memory) ⊎ (x ≡ Store)) (sym is) (cause_of e)

pub query_cause : (sql : List ℕ) (params : Row) (old new : State) (f : Fault) → TellsQuery sql params old new f → (f ≡ Memory) ⊎ (f ≡ Store)
query_cause sql params old new f tells = subst (λ (x : Fault). (x ≡ Memory) ⊎ (x ≡ Store)) (sym tells.1) (cause_of tells.0)

pub statement_cause : (sql : List ℕ) (params : Row) (old new : State) (f : Fault) → TellsStatement sql params old new f → (f ≡ Memory) ⊎ (f ≡ Store)
statement_cause sql params old new f tells = subst (λ (x : Fault). (x ≡ Memory) ⊎ (x ≡ Store)) (sym tells.1) (cause_of tells.0)

-- a listing of all rows of a table, given that integer rowids identify them if rows change
pub if_listed_keyed : {X : Type 0} (t : Table) (db : Database) (rows : X → List Row) (r : Result X Fault) → (changes_rows t ≡ true → Keyed (db.trees (tree_of t)))
    → IfOk r (λ x. Lists t (begins_with []) db (rows x)) → IfOk r (λ x. ListsKeyed t db (rows x))
if_listed_keyed t db rows (Ok x) keyed lists = record { keyed = keyed; lists = lists }
if_listed_keyed t db rows (Err f) keyed lists = tt
