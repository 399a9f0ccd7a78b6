-- A SELECT from one table.
use Rattle.std.proofs.Common.{◌≡◌, ℕ, zero, suc, pos, negsuc, List, [], ◌∷◌, ◌++◌, map, filter, drop, Bool, true, false, cond, None, length, Ok, Err, Result, refl, sym, ap, subst, ◌∙◌, Ordering, ◌&&◌}
use Rattle.std.specs.List.{list_all, flat_map}
use Rattle.std.specs.Ordering.{on}
use Rattle.std.specs.List.Sorted.{IsPermutation, IsSorted}
use Rattle.sqlite_trees.proofs.ListLemmas.{pull_back}
use Rattle.std.proofs.Math.Bool.{and-true}
use Rattle.sqlite.specs.declared.types.Value.{Value}
use Rattle.sqlite.specs.declared.types.Value.TheVariants.{Null, Int}
use Rattle.sqlite.specs.Collation.TheVariants.{Binary}
use Rattle.sqlite_sql.specs.declared.ops.BinaryOp.TheVariants.{Compare}
use Rattle.sqlite_sql.specs.declared.ops.CompareOp.TheVariants.{Eq}
use Rattle.sqlite.specs.Order.{Row, column}
use Rattle.sqlite_value.specs.declared.keys.Key.{Key}
use Rattle.sqlite_schema.specs.Rules.{equal}
use Rattle.sqlite_resolve.specs.declared.compiled.Compiled.{Compiled}
use Rattle.sqlite_resolve.specs.declared.error.CompileError.{CompileError}
use Rattle.sqlite_value.specs.Keys.{ascending}
use Rattle.sqlite.specs.Term.{Term, lit, col, op2, eval_all, holds}
use Rattle.sqlite.specs.Query.{Query, inner, end, IsAnswer, Output, output, output_cmp, key_cmp}
use Rattle.sqlite.specs.Program.{overlay}
use Rattle.sqlite.specs.Tree.{Trees}
use Rattle.sqlite.specs.Schema.{Schema}
use Rattle.sqlite.specs.Command.TheVariants.{Select}
use Rattle.sqlite.specs.Listing.{understood, reads_listing}
use Rattle.sqlite.specs.State.{State, Shown}
use Rattle.sqlite.proofs.Callers.{IsPlain, command_of, reads_as}
use Rattle.tables.specs.declared.table.Reference.{Reference}
use Rattle.tables.specs.Schema.{places_from, place_sought}
use Rattle.tables.specs.Rows.{at, agree_at, refers_to, ascending_keys}
use Rattle.tables.proofs.ListLemmas.{mapped_twice}

drop_none : {X : Type 0} (xs : List X) → drop 0 xs ≡ xs
drop_none [] = refl
drop_none (x ∷ xs) = refl

-- the query that `sqlite` parses from a text
abbrev pub query : ℕ → List Term → List Term → List (Term × Key) → Query
query tree tests project order = record {
  from = inner tree end;
  filter = tests;
  group = None;
  project = project;
  distinct = false;
  collations = [];
  order = order;
  limit = lit (Int (negsuc 0));
  offset = lit (Int (pos 0));
}

-- the rows that pass the test, in the order of their keys, each with the selected columns
pub record Selects (test : Row → Bool) (key show : Row → Row) (cmp : Row → Row → Ordering) (from rows : List Row) : Type 0 where
  pub ordered : List Row
  pub same : IsPermutation (filter test from) ordered
  pub sorted : IsSorted (on (λ (o : Row × Row). o.0) cmp) (map (λ t. (key t, show t)) ordered)
  pub shown : rows ≡ map show ordered

module _ (into : Row → Row) (tree : ℕ) (tests : List Term) (project : List Term) (order : List (Term × Key)) where
  abbrev asked : Query
  asked = query tree tests project order

  module _ (params : Row) (test : Row → Bool) (key show : Row → Row)
      (tested : (r : Row) → list_all (holds (params ∷ r ∷ [])) tests ≡ test (into r))
      (keyed : (r : Row) → eval_all (map (λ k. k.0) order) (params ∷ r ∷ []) ≡ key (into r))
      (shows : (r : Row) → eval_all project (params ∷ r ∷ []) ≡ show (into r))
    where
      abbrev pair : Row → Output
      pair t = (key t, show t)

      found : (rows : List Row) → map (output asked) (flat_map (λ r. cond (list_all (holds (params ∷ r ∷ [])) tests) ((params ∷ r ∷ []) ∷ []) []) rows) ≡ map pair (filter test (map into rows))
      found [] = refl
      found (r ∷ rows) = go (test (into r)) (tested r) (found rows)
        where
          go : (b : Bool) → list_all (holds (params ∷ r ∷ [])) tests ≡ b
              → map (output asked) (flat_map (λ x. cond (list_all (holds (params ∷ x ∷ [])) tests) ((params ∷ x ∷ []) ∷ []) []) rows) ≡ map pair (filter test (map into rows))
              → map (output asked) (cond (list_all (holds (params ∷ r ∷ [])) tests) ((params ∷ r ∷ []) ∷ []) []
              ++ flat_map (λ x. cond (list_all (holds (params ∷ x ∷ [])) tests) ((params ∷ x ∷ []) ∷ []) []) rows)
              ≡ map pair (cond b (into r ∷ filter test (map into rows)) (filter test (map into rows)))
          go true is later = rw (is, keyed r, shows r) (ap (λ l. pair (into r) ∷ l) later)
          go false is later = rw is later

      shown_pairs : (ts : List Row) → map (λ (o : Output). o.1) (map pair ts) ≡ map show ts
      shown_pairs [] = refl
      shown_pairs (t ∷ ts) = ap (λ l. show t ∷ l) (shown_pairs ts)

      pub selects : (db : Trees) (rows : List Row) → IsAnswer asked db params rows → Selects test key show (key_cmp 0 (map (λ k. k.1) order)) (map into (db tree)) rows
      selects db rows a =
          let all : a.kept ≡ map pair (filter test (map into (db tree))) = a.distinct ∙ ap (map (output asked)) a.grouped ∙ found (db tree) in
          let pulled = pull_back pair a.kept a.ordered a.same (filter test (map into (db tree))) all in
          record {
            ordered = pulled.0;
            same = pulled.1;
            sorted = subst (IsSorted (output_cmp asked)) pulled.2 a.sorted;
            shown = a.shown ∙ drop_none _ ∙ ap (map (λ (o : Output). o.1)) pulled.2 ∙ shown_pairs pulled.0;
          }

-- the position at which the statement ends, and its number of parameters
abbrev pub tail_of : Result Compiled CompileError → ℕ
tail_of (Ok c) = c.tail
tail_of (Err e) = 0

abbrev pub asked_of : Result Compiled CompileError → ℕ
asked_of (Ok c) = length c.names
asked_of (Err e) = 0

-- the conditions on a SELECT from one table
pub record IsSelect (schema : Schema) (sql : List ℕ) (tree : ℕ) (tests project : List Term) (order : List (Term × Key)) (names : List (List ℕ)) : Type 0 where
  pub is : command_of (understood schema sql) ≡ Select (record { lets = []; body = query tree tests project order }) names
  pub unlisted : reads_listing schema sql ≡ false
  pub plain : IsPlain (understood schema sql)
  pub low : (db : Trees) → overlay db [] tree ≡ db tree
  pub whole : tail_of (understood schema sql) ≡ length sql
  pub given : asked_of (understood schema sql) ≡ length tests

module _ (schema : Schema) (sql : List ℕ) (tree : ℕ) (tests project : List Term) (order : List (Term × Key)) (names : List (List ℕ)) (it : IsSelect schema sql tree tests project order names)
    (into : Row → Row) (params : Row) (test : Row → Bool) (key show : Row → Row)
    (tested : (r : Row) → list_all (holds (params ∷ r ∷ [])) tests ≡ test (into r))
    (keyed : (r : Row) → eval_all (map (λ k. k.0) order) (params ∷ r ∷ []) ≡ key (into r))
    (shows : (r : Row) → eval_all project (params ∷ r ∷ []) ≡ show (into r))
  where
    pub reads_rows : (old new : State) (rows : List Row) → old.now.schema ≡ schema → Shown sql params old new rows
        → Selects test key show (key_cmp 0 (map (λ k. k.1) order)) (map into (old.now.trees tree)) rows
    reads_rows old new rows has h =
        let read = reads_as sql params old new schema has _ it.is it.plain it.unlisted rows h in
        subst (λ l. Selects test key show (key_cmp 0 (map (λ k. k.1) order)) (map into l) rows) (it.low old.now.trees)
        (selects into tree tests project order params test key show tested keyed shows (overlay old.now.trees []) rows (read.answer Null))

-- ---- columns of a row that begins with its rowid

-- each column of the row is the preceding column of the row without its rowid
pub later : (k : ℕ) (r : Row) → column r (suc k) ≡ column (drop 1 r) k
later k [] = refl
later k (x ∷ xs) = refl

-- the given number of columns, starting at an index
abbrev pub columns_from : ℕ → ℕ → List Term
columns_from k n = map (col 1) (places_from (suc k) n)

pub shows_columns : (k n : ℕ) (params r : Row) → eval_all (columns_from k n) (params ∷ r ∷ []) ≡ at (places_from k n) (drop 1 r)
shows_columns k zero params r = refl
shows_columns k (suc n) params r = ap (λ v. v ∷ eval_all (columns_from (suc k) n) (params ∷ r ∷ [])) (later k r) ∙ ap (λ l. column (drop 1 r) k ∷ l) (shows_columns (suc k) n params r)

-- those columns, each in ascending order
abbrev pub ordered_from : ℕ → ℕ → List (Term × Key)
ordered_from k n = map (λ p. (col 1 p, ascending Binary)) (places_from (suc k) n)

pub ordered_terms : (k n : ℕ) → map (λ t. t.0) (ordered_from k n) ≡ columns_from k n
ordered_terms k n = mapped_twice (λ p. (col 1 p, ascending Binary)) (λ t. t.0) (places_from (suc k) n)

pub ordered_keys : (k n : ℕ) → map (λ t. t.1) (ordered_from k n) ≡ ascending_keys n
ordered_keys k zero = refl
ordered_keys k (suc n) = ap (λ l. ascending Binary ∷ l) (ordered_keys (suc k) n)

-- those columns equal the parameters
abbrev pub tests_from : ℕ → ℕ → List Term
tests_from k n = map (λ p. op2 (Compare Eq Binary) (col 1 (suc p)) (col 0 p)) (places_from k n)

pub tests_agree : (k n : ℕ) (params r : Row) → list_all (holds (params ∷ r ∷ [])) (tests_from k n) ≡ agree_at (places_from k n) (drop 1 r) params
tests_agree k zero params r = refl
tests_agree k (suc n) params r = rw (sym (later k r)) (ap (λ b. equal Binary (column r (suc k)) (column params k) && b) (tests_agree (suc k) n params r))

-- a column outside the key equals the parameter
pub refers : (r : Reference) (value : Value) (row : Row) → list_all (holds ((value ∷ []) ∷ row ∷ [])) (op2 (Compare Eq Binary) (col 1 (suc (place_sought r))) (col 0 0) ∷ [])
    ≡ refers_to r value (drop 1 row)
refers r value row = rw (later (place_sought r) row) (and-true _)
