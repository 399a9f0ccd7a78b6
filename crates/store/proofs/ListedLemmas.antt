-- Listings of rows, one after another.
use Rattle.std.proofs.Common.{◌≡◌, ◌⊎◌, ℕ, ◌<◌, true, false, List, Result, Ok, Err, IsTrue, sym, subst}
use Rattle.std.specs.List.{AllByRecursion}
use Rattle.std.specs.Result.{IsErrAnd}
use Rattle.sqlite.specs.Order.{Row}
use Rattle.sqlite.specs.Effect.{Database}
use Rattle.sqlite.specs.State.{State, HasCleanDisk}
use Rattle.register.specs.Offices.{OfficeState}
use Rattle.register.specs.StateConditions.{IsState}
use Rattle.tables.specs.declared.fault.Fault.{Fault}
use Rattle.tables.specs.declared.fault.Fault.TheVariants.{Memory, Store, Damaged}
use Rattle.tables.specs.declared.table.Table.{Table}
use Rattle.tables.specs.Schema.{BeginsTo, place_of}
use Rattle.tables.specs.Contents.{RestsAt}
use Rattle.tables.specs.Reading.{OnlyReads, FailsToList, ListsEntries, HoldsNone}
use Rattle.tables.proofs.ReadLemmas.{only_reads_then}
use Rattle.tables.proofs.CauseLemmas.{lists_later}
use Rattle.store.specs.StateTables.{tables_of}
use Rattle.store.specs.Openings.{has_entries}
use Rattle.store.specs.Listings.{BeginsFirst, ListsAt, TellsStrange}
use Rattle.store.proofs.TellLemmas.{told_strange}

-- all entries of one of the first tables have been listed
pub entries_listed : {V : Type 0} {old new : State} {rows : List Row} (n : ℕ) (t : Table) (v : V) → place_of t < n
    → (HasCleanDisk new → (db : Database) → BeginsTo t db.schema → RestsAt db old → ListsEntries t db rows)
    → (HasCleanDisk new → IsTrue new.is_open) → OnlyReads old new → new.in_transaction ≡ false → ListsAt old new (Ok v) (λ db. BeginsFirst n db.schema)
    (λ db _. ListsEntries t db rows) (TellsStrange n)
entries_listed n t v low lists opens reads outside = record {
  lists = λ clean db begins rests. lists clean db (begins t low) rests;
  told = λ clean db begins rests. tt;
  fails = λ clean db begins rests. tt;
  opens = opens;
  reads = reads;
  outside = outside;
}

-- the entries couldn't be listed
pub entries_unlisted : {old new : State} {f : Fault} (n : ℕ) (t : Table) (IsRow : Row → Type 0) → has_entries t ≡ true → place_of t < n
    → ((s : OfficeState) → IsState s → AllByRecursion IsRow (tables_of s t))
    → (HasCleanDisk new → (db : Database) → BeginsTo t db.schema → RestsAt db old → (f ≡ Memory) ⊎ ((f ≡ Store) ⊎ ((f ≡ Damaged) × HoldsNone t IsRow db)))
    → (HasCleanDisk new → (db : Database) → BeginsTo t db.schema → RestsAt db old → FailsToList db old new f)
    → OnlyReads old new → new.in_transaction ≡ false → ListsAt {X = Unit {0}} old new (Err f) (λ db. BeginsFirst n db.schema) (λ db none. ⊥) (TellsStrange n)
entries_unlisted {f = f} n t IsRow has low fits cause fails reads outside = record {
  lists = λ clean db begins rests. tt;
  told = λ clean db begins rests. told_strange n t IsRow has low fits db f (cause clean db (begins t low) rests);
  fails = λ clean db begins rests. fails clean db (begins t low) rests;
  opens = λ clean. tt;
  reads = reads;
  outside = outside;
}

-- the result of a listing, restated
pub lists_as : {X Y : Type 0} {K : Database → Type 0} {P : Database → X → Type 0} {Q : Database → Y → Type 0} {G : Database → Fault → Type 0} {old new : State} {x : X} {y : Y}
    → ListsAt old new (Ok x) K P G → ((db : Database) → P db x → Q db y) → ListsAt old new (Ok y) K Q G
lists_as one told = record {
  lists = λ clean db kind rests. told db (one.lists clean db kind rests);
  told = λ clean db kind rests. tt;
  fails = λ clean db kind rests. tt;
  opens = one.opens;
  reads = one.reads;
  outside = one.outside;
}

-- the same statement for a narrower class of databases
pub lists_of : {X : Type 0} {K L : Database → Type 0} {P : Database → X → Type 0} {G H : Database → Fault → Type 0} {old new : State} {r : Result X Fault}
    → ((db : Database) → L db → K db) → ((db : Database) (f : Fault) → G db f → H db f) → ListsAt old new r K P G → ListsAt old new r L P H
lists_of {r = Ok x} narrow more one = record {
  lists = λ clean db kind rests. one.lists clean db (narrow db kind) rests;
  told = λ clean db kind rests. tt;
  fails = λ clean db kind rests. tt;
  opens = one.opens;
  reads = one.reads;
  outside = one.outside;
}
lists_of {r = Err f} narrow more one = record {
  lists = λ clean db kind rests. tt;
  told = λ clean db kind rests. more db f (one.told clean db (narrow db kind) rests);
  fails = λ clean db kind rests. one.fails clean db (narrow db kind) rests;
  opens = one.opens;
  reads = one.reads;
  outside = one.outside;
}

-- one listing, followed by another
pub lists_both : {X Y : Type 0} {K : Database → Type 0} {P : Database → X → Type 0} {Q : Database → Y → Type 0} {G : Database → Fault → Type 0} {old mid new : State} {x : X} {y : Y}
    → ListsAt old mid (Ok x) K P G → ListsAt mid new (Ok y) K Q G → ListsAt old new (Ok y) K (λ db v. P db x × Q db v) G
lists_both {old = old} {mid = mid} {new = new} one two = record {
  lists = λ clean db kind rests. let before = two.reads.clean clean in (one.lists before db kind rests, two.lists clean db kind (one.reads.rests before (one.opens before) db rests));
  told = λ clean db kind rests. tt;
  fails = λ clean db kind rests. tt;
  opens = two.opens;
  reads = only_reads_then old mid new one.reads two.reads;
  outside = two.outside;
}

-- a fault that is passed on
pub lists_failed : {X Y : Type 0} {K : Database → Type 0} {P : Database → X → Type 0} {Q : Database → Y → Type 0} {G : Database → Fault → Type 0} {old new : State} {f : Fault} {r : Result Y Fault}
    → IsErrAnd r (λ e. e ≡ f) → ListsAt old new (Err f) K P G → ListsAt old new r K Q G
lists_failed {r = Ok y} is failed = absurd is
lists_failed {G = G} {old = old} {new = new} {r = Err e} is failed = record {
  lists = λ clean db kind rests. tt;
  told = λ clean db kind rests. subst (G db) (sym is) (failed.told clean db kind rests);
  fails = λ clean db kind rests. subst (FailsToList db old new) (sym is) (failed.fails clean db kind rests);
  opens = λ clean. tt;
  reads = failed.reads;
  outside = failed.outside;
}

-- a fault in a listing that follows another, passed on
pub lists_cut : {X Y Z : Type 0} {K : Database → Type 0} {P : Database → X → Type 0} {Q : Database → Y → Type 0} {R : Database → Z → Type 0} {G : Database
    → Fault → Type 0} {old mid new : State} {x : X} {f : Fault} {r : Result Z Fault}
    → IsErrAnd r (λ e. e ≡ f) → ListsAt old mid (Ok x) K P G → ListsAt mid new (Err f) K Q G → ListsAt old new r K R G
lists_cut {r = Ok z} is one failed = absurd is
lists_cut {G = G} {old = old} {mid = mid} {new = new} {f = f} {r = Err e} is one failed = record {
  lists = λ clean db kind rests. tt;
  told = λ clean db kind rests.
      let before = failed.reads.clean clean in
      subst (G db) (sym is) (failed.told clean db kind (one.reads.rests before (one.opens before) db rests));
  fails = λ clean db kind rests.
      let before = failed.reads.clean clean in
      subst (FailsToList db old new) (sym is) (lists_later db old mid new f one.reads failed.reads clean (failed.fails clean db kind (one.reads.rests before (one.opens before) db rests)));
  opens = λ clean. tt;
  reads = only_reads_then old mid new one.reads failed.reads;
  outside = failed.outside;
}
