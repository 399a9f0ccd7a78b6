-- Creating the tables, one after another.
use Rattle.std.proofs.Common.{◌≡◌, inl, inr, ℕ, zero, suc, ◌+◌, ◌<◌, ◌≤◌, List, [], ◌∷◌, ◌++◌, append_assoc, map, drop, take, slice_get, Some, true, false, None, Ok, Err, Result, OnOk}
use Rattle.std.proofs.Common.{IsTrue, refl, sym, ap, subst, ◌∙◌, arith}
use Rattle.std.specs.List.{AllByRecursion}
use Rattle.std.specs.List.Sorted.{IsPermutation}
use Rattle.std.proofs.lemmas.Bool.{cases_lt}
use Rattle.std.proofs.lemmas.List.{map-append}
use Rattle.std.proofs.lemmas.List.Sorted.{IsPermutation-refl}
use Rattle.sqlite_rules.specs.Lists.{Has}
use Rattle.sqlite_rules.proofs.ListLemmas.{all_has}
use Rattle.sqlite.specs.Order.{Row}
use Rattle.sqlite.specs.Tree.{Trees}
use Rattle.sqlite.specs.Schema.{Schema}
use Rattle.sqlite.specs.Command.TheVariants.{CreateTable}
use Rattle.sqlite.specs.Compile.{table_defined_by}
use Rattle.sqlite.specs.Change.{created, next_tree}
use Rattle.sqlite.specs.Does.{Tally, lacks_sequence}
use Rattle.sqlite_trees.specs.Objects.{catalog_tree}
use Rattle.sqlite_catalog.specs.Listing.{Lists}
use Rattle.sqlite_catalog.proofs.ReadLemmas.{lists_once}
use Rattle.sqlite_trees.specs.declared.store.Store.{Ghosts}
use Rattle.sqlite.specs.Held.{Held, state}
use Rattle.sqlite.specs.Effect.{Database, IsDatabase}
use Rattle.sqlite.specs.Listing.{understood}
use Rattle.sqlite.specs.declared.error.Error.{Error}
use Rattle.sqlite.specs.State.{State, Writes, ExecutesInside}
use Rattle.sqlite.proofs.Callers.{IsPlain, command_of, statement_of, runs_as}
use Rattle.sqlite_tied.specs.Compute.{everything}
use Rattle.tables.specs.declared.table.Table.{Table}
use Rattle.tables.specs.declared.table.Table.TheVariants.{Office}
use Rattle.tables.specs.Texts.{create_text}
use Rattle.tables.specs.Schema.{Definition, BeginsTo, schema_from, no_schema, definition, shaped, shape, place_of, tree_of, all_tables, key_index}
use Rattle.tables.specs.Rows.{Keyed}
use Rattle.tables.specs.Contents.{Contents, HoldsTable, IsOffice, Sees}
use Rattle.tables.specs.Making.{HoldsFirst, FirstAt, HasFirstTables, RestsFirst, SeesMade, StoresFirst}
use Rattle.tables.proofs.ListLemmas.{mapped_has, front_has}
use Rattle.tables.proofs.TableLemmas.{same_place, place_below}
use Rattle.tables.proofs.WentLemmas.{went, same_value}

-- the schema with only the tables before the given one
abbrev before : Table → Schema
before t = schema_from (place_of t) [] [] []

-- the conditions on a table's CREATE TABLE
record MakesTable (t : Table) : Type 0 where
  is : command_of (understood (before t) (create_text t)) ≡ CreateTable
  plain : IsPlain (understood (before t) (create_text t))
  whole : statement_of (create_text t) (understood (before t) (create_text t)) ≡ create_text t
  defined : table_defined_by (create_text t) ≡ Ok (shaped (shape t) 0)
  uncounted : lacks_sequence (created (before t) (shaped (shape t) 0)) ≡ false
  next : created (before t) (shaped (shape t) 0) ≡ schema_from (place_of t + 1) [] [] []
  tree : next_tree (before t) ≡ tree_of t

makes_table : (t : Table) → MakesTable t
unfolding understood everything create_text
makes_table Office = record { is = refl; plain = (refl, refl); whole = refl; defined = refl; uncounted = refl; next = refl; tree = refl }
makes_table t = record { is = refl; plain = (refl, refl); whole = refl; defined = refl; uncounted = refl; next = refl; tree = refl }

-- ---- creating the next table

taken_has : {X : Type 0} (xs : List X) (n k : ℕ) (x : X) → k < n → slice_get xs k ≡ Some x → Has (take n xs) x
taken_has [] n k x low at = absurd cc
taken_has (y ∷ ys) zero k x low at = absurd (omega (arith, low))
taken_has (y ∷ ys) (suc n) zero x low at = inl cc
taken_has (y ∷ ys) (suc n) (suc k) x low at = inr (taken_has ys n k x (omega (arith, low)) at)

at_place : (t : Table) → slice_get all_tables (place_of t) ≡ Some t
at_place Office = refl
at_place t = refl

has_before : (n : ℕ) (u : Table) → place_of u < n → Has (schema_from n [] [] []).tables (definition u)
has_before n u low = front_has (map definition (take n all_tables)) [] (definition u) (mapped_has definition (take n all_tables) u (taken_has all_tables n (place_of u) u low (at_place u)))

empty_table : (t : Table) (trees : Trees) → trees (tree_of t) ≡ [] → HoldsTable t [] trees
empty_table t trees empty = record {
  same = subst (λ l. IsPermutation [] (map (drop 1) l)) (sym empty) (IsPermutation-refl []);
  keyed = λ _. subst Keyed (sym empty) (record { ints = λ r none. absurd none; once = λ a b none. absurd none });
  typed = refl;
}

kept_table : (t : Table) (rows : List Row) (old new : Trees) → new (tree_of t) ≡ old (tree_of t) → HoldsTable t rows old → HoldsTable t rows new
kept_table t rows old new same h = record { same = subst (λ l. IsPermutation rows (map (drop 1) l)) (sym same) h.same; keyed = λ changes. subst Keyed (sym same) (h.keyed changes); typed = h.typed }

-- the tables before the given one keep their rows, and that one is empty
one_more : (t : Table) (c : Contents) → c t ≡ [] → (old new : Trees) → ((u : Table) → place_of u < place_of t → new (tree_of u) ≡ old (tree_of u)) → new (tree_of t) ≡ []
    → HoldsFirst (place_of t) c old → HoldsFirst (place_of t + 1) c new
one_more t c none old new others empty holds u low = elim (cases_lt (place_of u) (place_of t)) [
  | inl less ↦ kept_table u (c u) old new (others u less) (holds u less)
  | inr past ↦ let there : u ≡ t = same_place u t (omega (arith, low, past)) in
      subst (λ v. HoldsTable v (c v) new) (sym there) (subst (λ rows. HoldsTable t rows new) (sym none) (empty_table t new empty))
]

makes : (t : Table) (c : Contents) → c t ≡ [] → (old new : State) (count : ℕ) → SeesMade (place_of t) c old → ExecutesInside 0 (create_text t) [] old new (Ok count) → SeesMade (place_of t + 1) c new
unfolding HasFirstTables
makes t c none old new count sees h =
    let it = makes_table t in
    let had = sees.first in
    let schema = before t in
    let table = shaped (shape t) 0 in
    let ran = runs_as (create_text t) [] old new schema had.schema CreateTable it.is it.plain count h.0 in
    let w = subst (λ text. Writes old new None CreateTable text [] count) it.whole ran in
    let all = went w.changed in
    let first = went all.1 in
    let step = first.1 in
    let same : step.table ≡ table = same_value (sym step.defined ∙ it.defined) in
    let after : first.0.schema ≡ created schema table = step.is ∙ ap (λ s. created s step.table) had.schema ∙ ap (created schema) same in
    let plain : lacks_sequence first.0.schema ≡ false = ap lacks_sequence after ∙ it.uncounted in
    let now : new.now ≡ first.0 = ap (λ (p : Tally × Database). p.1) (same_value all.2) ∙ same_value (rw plain at first.2) in
    let others = subst (λ s. AllByRecursion (λ d. first.0.trees d.tree ≡ old.now.trees d.tree) s.tables) had.schema step.others in
    let empty : first.0.trees (tree_of t) ≡ [] = subst (λ n. first.0.trees n ≡ []) it.tree (subst (λ s. first.0.trees (next_tree s) ≡ []) had.schema step.empty) in
    record {
      inside = h.1.mode;
      first = record {
        schema = ap (λ (d : Database). d.schema) now ∙ after ∙ it.next;
        sound = w.sound;
        holds = subst (λ (d : Database). HoldsFirst (place_of t + 1) c d.trees) (sym now)
            (one_more t c none old.now.trees first.0.trees (λ u less. all_has (λ (d : Definition). first.0.trees d.tree ≡ old.now.trees d.tree) schema.tables (definition u) others
            (has_before (place_of t) u less)) empty had.holds);
      };
    }

pub table_made : (t : Table) (c : Contents) → c t ≡ [] → (old new : State) (r : Result ℕ Error) → (IsTrue old.in_transaction → ExecutesInside 0 (create_text t) [] old new r)
    → SeesMade (place_of t) c old → OnOk r (SeesMade (place_of t + 1) c new)
table_made t c none old new (Ok count) runs sees = makes t c none old new count sees (runs sees.inside)
table_made t c none old new (Err e) runs sees = tt

-- no tables yet
pub none_made : (c : Contents) (s : State) → IsTrue s.in_transaction → s.now.schema ≡ no_schema → IsDatabase s.now → SeesMade 0 c s
unfolding HasFirstTables
none_made c s inside blank sound = record { inside = inside; first = record { schema = blank; sound = sound; holds = λ t low. absurd (omega (arith, low)) } }

-- a database with all tables is an office
pub all_made : (c : Contents) (s : State) → SeesMade 11 c s → Sees c s
unfolding HasFirstTables IsOffice
all_made c s sees = record {
  inside = sees.inside;
  office = record {
    begins = record { rest = []; others = []; views = []; free = tt; is = sees.first.schema };
    sound = sees.first.sound;
    holds = λ t. sees.first.holds t (place_below t);
  };
}

-- ---- an office with only the first tables

pub first_from : (n : ℕ) (c : Contents) (db : Database) → FirstAt n c db → HasFirstTables n c db
unfolding HasFirstTables
first_from n c db first = first

pub first_at : (n : ℕ) (c : Contents) (db : Database) → HasFirstTables n c db → FirstAt n c db
unfolding HasFirstTables
first_at n c db first = first

split : {X : Type 0} (xs : List X) (k n : ℕ) → k ≤ n → take n xs ≡ take k xs ++ drop k (take n xs)
split xs zero n low = refl
split xs (suc k) zero low = absurd (omega (arith, low))
split [] (suc k) (suc n) low = refl
split (x ∷ xs) (suc k) (suc n) low = ap (λ l. x ∷ l) (split xs k n (omega (arith, low)))

-- the first `n` tables begin with the first `k`, for any `k` up to `n`
parted : (k n : ℕ) → k ≤ n → schema_from n [] [] [] ≡ schema_from k (map definition (drop k (take n all_tables)) ++ []) (map key_index (drop k (take n all_tables)) ++ []) []
parted k n low = go (take n all_tables) (take k all_tables) (drop k (take n all_tables)) (split all_tables k n low)
  where
    go : (all front back : List Table) → all ≡ front ++ back
        → ◌≡◌ {A = Schema} (record { tables = map definition all ++ []; indexes = map key_index all ++ []; views = [] })
        (record { tables = map definition front ++ (map definition back ++ []); indexes = map key_index front ++ (map key_index back ++ []); views = [] })
    go all front back is =
        rw (
          is,
          map-append definition front back,
          map-append key_index front back,
          append_assoc (map definition front) (map definition back) [],
          append_assoc (map key_index front)
              (map key_index back) [],
        ) refl

pub first_begins : (n : ℕ) (s : Schema) → s ≡ schema_from n [] [] [] → (t : Table) → place_of t < n → BeginsTo t s
first_begins n s is t low =
    let k = 1 + place_of t in
    record { rest = map definition (drop k (take n all_tables)) ++ []; others = map key_index (drop k (take n all_tables)) ++ []; views = []; is = is ∙ parted k n (omega (arith, low)) }

-- if a connection is open, a stop leaves only the last commit, provided that the store guarantees it
pub first_leaves : (n : ℕ) (c : Contents) (s : State) → ((trees : Trees) → IsTrue s.is_open → s.may_leave trees → trees ≡ s.committed.trees) → RestsFirst n c s → (trees : Trees)
    → s.may_leave trees → StoresFirst n c trees
first_leaves n c s settled rests trees may = record { db = s.now; first = rests.first; same = settled trees rests.is_open may ∙ ap (λ (d : Database). d.trees) (sym rests.settled) }

-- What a stop has left is identified after reopening: the trees determine the schema.
pub first_found : (n : ℕ) (c : Contents) (db : Database) → IsDatabase db → StoresFirst n c db.trees → HasFirstTables n c db
unfolding HasFirstTables
first_found n c db sound stores =
    let was = stores.first in
    let lists : Lists (db.trees catalog_tree) stores.db.schema = subst (λ (t : Trees). Lists (t catalog_tree) stores.db.schema) (sym stores.same) was.sound.lists in
    record { schema = lists_once (db.trees catalog_tree) db.schema stores.db.schema sound.lists lists ∙ was.schema; sound = sound; holds = subst (HoldsFirst n c) (sym stores.same) was.holds }

-- a transaction begins in the state of its connection
pub begun_first : {S : Type 0} (g : Ghosts S) (n : ℕ) (c : Contents) (old : Held S) → RestsFirst n c (state g old) → SeesMade n c (state g (record old { in_transaction = true }))
begun_first g n c old rests = record { inside = refl; first = rests.first }
