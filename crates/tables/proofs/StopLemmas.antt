-- What a stop may leave.
use Rattle.std.proofs.Common.{◌≡◌, ◌⊎◌, inl, inr, Result, Ok, Err, OnOk, MatchResult, IsTrue, true, false, refl, sym, ap, subst, ◌∙◌, arith}
use Rattle.sqlite_trees.specs.Objects.{catalog_tree}
use Rattle.sqlite_catalog.specs.Listing.{Lists}
use Rattle.sqlite_catalog.proofs.ReadLemmas.{lists_once}
use Rattle.sqlite.specs.Tree.{Trees}
use Rattle.tables.specs.Schema.{IsOfficeSchema}
use Rattle.sqlite.specs.Effect.{Database, IsDatabase}
use Rattle.sqlite_trees.specs.declared.store.Store.{Ghosts}
use Rattle.sqlite.specs.State.{State, HasCleanDisk, Survives, Shows}
use Rattle.sqlite.specs.Held.{Held, state}
use Rattle.sqlite.proofs.StateLemmas.{survives_then}
use Rattle.tables.specs.Contents.{Contents, IsOffice, Stores, Rests, Sees, Leaves, Holds}
use Rattle.tables.specs.Reading.{OnlyReads}

-- the trees of an office
pub stores_from : (c : Contents) (db : Database) (trees : Trees) → IsOffice c db → trees ≡ db.trees → Stores c trees
stores_from c db trees office same = record { db = db; office = office; same = same }

-- if a connection is open, a stop leaves only the last commit, provided that the store guarantees it
pub rests_leaves : (c : Contents) (s : State) → ((trees : Trees) → IsTrue s.is_open → s.may_leave trees → trees ≡ s.committed.trees) → Rests c s → Leaves s (λ d. d ≡ c)
rests_leaves c s settled rests trees may =
    (c, refl, stores_from c s.now trees rests.office (settled trees rests.is_open may ∙ ap (λ (d : Database). d.trees) (sym rests.settled)))

-- a weaker condition on the contents
pub leaves_weaker : (P Q : Contents → Type 0) (s : State) → ((d : Contents) → P d → Q d) → Leaves s P → Leaves s Q
leaves_weaker P Q s f h trees may = let it = h trees may in (it.0, f it.0 it.1, it.2)

-- a read doesn't add to the states that a stop may leave behind
pub read_leaves : (P : Contents → Type 0) (old new : State) → OnlyReads old new → HasCleanDisk new → Leaves old P → Leaves new P
read_leaves P old new reads clean leaves trees may = leaves trees (reads.leaves clean trees may)

-- a stop in a transaction that commits `after` leaves the old contents or the new ones, and after `Ok` only the new ones
pub stop_after : {X E : Type 0} (r : Result X E) (c after : Contents) (old new : State)
    → ((trees : Trees) → IsTrue old.is_open → old.may_leave trees → trees ≡ old.committed.trees) → ((trees : Trees) → IsTrue new.is_open → new.may_leave trees → trees ≡ new.committed.trees)
    → HasCleanDisk new → Rests c old → OnOk r (Rests after new) → Survives old new (Stores after) → Leaves new (λ d. MatchResult r (λ _. d ≡ after) (λ _. (d ≡ c) ⊎ (d ≡ after)))
stop_after (Ok x) c after old new was is clean rests done survives = rests_leaves after new is done
stop_after (Err e) c after old new was is clean rests done survives = λ trees may. elim (survives.crash clean trees may) [
  | inl earlier ↦ let it = rests_leaves c old was rests trees earlier in (it.0, inl it.1, it.2)
  | inr made ↦ (after, inr refl, made)
]

-- ---- a commit

-- after the commit, the office has the contents that the transaction saw
pub rests_committed : (c : Contents) (inside new : State) → Sees c inside → Shows inside new inside.now inside.now false → Rests c new
rests_committed c inside new sees shows = record {
  is_open = shows.is_open;
  outside = shows.mode;
  settled = shows.now_is ∙ sym shows.committed_is;
  office = subst (IsOffice c) (sym shows.now_is) sees.office;
}

-- the trees that a transaction commits are those of the office that it saw
pub stores_seen : (c : Contents) (s : State) (trees : Trees) → Sees c s → trees ≡ s.now.trees → Stores c trees
stores_seen c s trees sees same = stores_from c s.now trees sees.office same

-- a stop in a transaction that commits what it saw leaves either that or what could have been left before
pub survives_storing : (c : Contents) (old inside new : State) → Survives old new (λ trees. trees ≡ inside.now.trees) → (HasCleanDisk new → Sees c inside) → Survives old new (Stores c)
survives_storing c old inside new s sees = record {
  clean = s.clean;
  shield = s.shield;
  counts = s.counts;
  limit = s.limit;
  closes = s.closes;
  crash = λ clean trees may. elim (s.crash clean trees may) [
    | inl was ↦ inl was
    | inr made ↦ inr (stores_seen c inside trees (sees clean) made)
  ];
}

-- ---- a whole transaction

-- when a transaction begins, it sees the office of its connection
pub begun_sees : {S : Type 0} (g : Ghosts S) (old : Held S) (c : Contents) → Rests c (state g old) → Sees c (state g (record old { in_transaction = true }))
begun_sees g old c rests = record { inside = refl; office = rests.office }

-- steps that commit nothing, followed by a commit of what the transaction saw
pub survives_commit : (c : Contents) (start inside new : State) → Survives start inside (λ _. ⊥) → Survives inside new (λ trees. trees ≡ inside.now.trees)
    → (HasCleanDisk inside → Sees c inside) → Survives start new (Stores c)
survives_commit c start inside new first second sees =
    survives_then start inside new (λ _. ⊥) (λ trees. trees ≡ inside.now.trees) (Stores c) (λ _ trees none. absurd none)
    (λ clean trees made. let low = second.clean in let before : HasCleanDisk inside = omega (arith, low, clean) in stores_seen c inside trees (sees before) made) first second

-- ---- after a stop

-- What a stop has left is identified after reopening: the trees determine the schema.
pub stores_found : (c : Contents) (db : Database) → IsDatabase db → Stores c db.trees → IsOffice c db
unfolding IsOffice
stores_found c db sound stores =
    let was = stores.office in
    let lists : Lists (db.trees catalog_tree) stores.db.schema = subst (λ (t : Trees). Lists (t catalog_tree) stores.db.schema) (sym stores.same) was.sound.lists in
    let schema : db.schema ≡ stores.db.schema = lists_once (db.trees catalog_tree) db.schema stores.db.schema sound.lists lists in
    record {
      begins = subst IsOfficeSchema (sym schema) was.begins;
      sound = sound;
      holds = subst (Holds c) (sym stores.same) was.holds;
    }
