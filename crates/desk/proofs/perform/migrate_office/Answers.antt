-- Proof that `migrate_office` meets its contract.
use Rattle.std.proofs.Common.{◌≡◌, ◌⊎◌, inl, inr, refl, ap, subst}
use Rattle.sqlite.specs.Tree.{Trees}
use Rattle.sqlite.specs.State.{State}
use Rattle.sqlite.specs.Held.{state}
use Rattle.register.specs.Offices.{OfficeState}
use Rattle.sqlite.specs.Effect.{Database}
use Rattle.tables.specs.declared.fault.Fault.{Fault}
use Rattle.tables.specs.declared.fault.Fault.TheVariants.{Memory, Store}
use Rattle.store.specs.declared.migration.Migrated.{Migrated}
use Rattle.store.specs.declared.migration.Migrated.TheVariants.{Done, Already}
use Rattle.tables.specs.Reading.{FailsToList}
use Rattle.tables.specs.Contents.{Stores}
use Rattle.store.specs.declared.older.OlderForm.{OlderForm}
use Rattle.store.specs.Migrations.{FailsToMigrate, HoldsNoOlder, LeavesOldOrNew, WasAt, LeavesOlderOr}
use Rattle.store.specs.StateTables.{IsAt, tables_of}
use Rattle.store.specs.Openings.{HoldsNoState}
use Rattle.store.proofs.ReopenLemmas.{left_holds, left_ours}
use Rattle.office.specs.Answers.{IsMemoryOrStore}
use Rattle.desk.specs.Pages.{failed, migrated_text, page_of, replied}
use Rattle.desk.specs.declared.lines.Failure.TheVariants.{Office}
use Rattle.desk.specs.declared.lines.LineOutcome.TheVariants as outcome
use Rattle.desk.specs.declared.orders.Task.TheVariants.{Migrate}
use Rattle.desk.proofs.KeptLemmas.{left_older, migration_told, performed, read_leaves, untouched}
use Rattle.desk.proofs.perform.migrate_office.Goals as goal

-- a database with no state of either kind was at none
at_none : (db : Database) (m : Migrated) (s : OfficeState) → HoldsNoState db → HoldsNoOlder db → WasAt db m s → ⊥
at_none db Already s none older was = none s was
at_none db Done s none older was = older was.0 s was.1

-- if there was no older office, a stop leaves what it could before
none_moved : (db : Database) (old new : State) → HoldsNoOlder db → LeavesOlderOr db old new → (trees : Trees) → new.may_leave trees → old.may_leave trees
none_moved db old new none leaves trees may = elim (leaves trees may) [
  | inl was ↦ was
  | inr made ↦ absurd (none made.1 made.0 made.2)
]

-- if there was no older office, a migration fails as a listing does
only_listed : (db : Database) (old new : State) (fault : Fault) → HoldsNoOlder db → FailsToMigrate db old new fault → FailsToList db old new fault
only_listed db old new fault none (inl listed) = listed
only_listed db old new fault none (inr held) = absurd (none held.0 held.1 held.2)

-- a fault that may leave the database changed is Memory or Store
plain_or : {P : Type 0} (fault : Fault) → (fault ≡ Memory) ⊎ ((fault ≡ Store) ⊎ P) → IsMemoryOrStore fault ⊎ P
plain_or fault (inl memory) = inl (inl memory)
plain_or fault (inr (inl store)) = inl (inr store)
plain_or fault (inr (inr same)) = inr same

-- if the new tables are stored, a stop leaves them
new_left : (form : OlderForm) (s : OfficeState) (old new : State) → IsAt s new → LeavesOldOrNew form s old new
new_left form s old new at trees may = let it = at.leaves trees may in inr (subst (λ x. Stores (tables_of x) trees) it.1 it.2.stores)

pub returns-in-Ok : goal.returns-in-Ok
returns-in-Ok g c =
    let told = c.tell.ensures in
    let old = state g.S.Store c.args.conn in
    let new = state g.S.Store c.migrate.new.conn in
    let page = page_of (outcome.Migrated c.in-Ok.migrated) in
    let tells = λ (m : Migrated) (was : c.in-Ok.migrated ≡ m). ap (λ x. replied (migrated_text x)) was in
    record {
      page = page;
      cut = told.0;
      shown = told.1;
      is = λ clean folder. record {
        in_office = λ db rests s left.
            let it = c.in-Ok.ensures.already clean db rests s (left_holds s db left) in
            performed folder s Migrate told.0 _ _ page c.tell.result old new told.1 (untouched _ s told.0 page new (inl (tells Already it.0)) it.1.leaves);
        elsewhere = record {
          older = λ form s at. let it = c.in-Ok.ensures.moved clean form s at in (new_left form s old new it.1, inl (tells Done it.0, it.1));
          beyond = λ db ours older rests none no_older. let it = c.in-Ok.ensures.opened clean db ours older rests in absurd (at_none db c.in-Ok.migrated it.0 none no_older it.1);
        };
      };
    }

pub returns-in-Err : goal.returns-in-Err
returns-in-Err g c =
    let told = c.tell-in-Err.ensures in
    let fault = c.in-Err.fault in
    let old = state g.S.Store c.args.conn in
    let new = state g.S.Store c.migrate.new.conn in
    let page = failed (Office fault) in
    record {
      page = page;
      cut = told.0;
      shown = told.1;
      is = λ clean folder. record {
        in_office = λ db rests s left.
            let reads = c.migrate.ensures.reads clean db rests s (left_holds s db left) in
            let plain = migration_told s db fault left (c.in-Err.ensures.told clean db (left_ours s db left) (left_older s db left) rests) in
            let leaves = read_leaves s db old new (λ trees is_open may. g.met.S.Store.settled c.args.conn.store trees is_open may) reads clean rests left in
            performed folder s Migrate told.0 _ _ page c.tell-in-Err.result old new told.1 (untouched _ s told.0 page new (inr (fault, refl, plain)) leaves);
        elsewhere = record {
          older = λ form s at. (c.migrate.ensures.stops clean form s at, inr (fault, refl, c.in-Err.ensures.refuses clean form s at));
          beyond = λ db ours older rests none no_older.
              let given = c.in-Err.ensures.told clean db ours older rests in
              let cause = only_listed db old new fault no_older (c.in-Err.ensures.fails clean db ours older rests) in
              ((fault, refl, (given, cause, plain_or fault c.in-Err.ensures.unchanged)), none_moved db old new no_older (c.migrate.ensures.leaves clean db ours older rests));
        };
      };
    }
