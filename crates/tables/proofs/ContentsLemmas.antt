-- How a statement inside a transaction changes the contents.
use Rattle.std.proofs.Common.{◌≡◌, ◌≢◌, inl, inr, ℕ, List, [], ◌∷◌, true, false, Ok, Err, Result, OnOk, IsTrue, sym, ap, subst, ◌∙◌, map, drop, append-nil}
use Rattle.std.specs.List.{AllByRecursion}
use Rattle.std.specs.List.Sorted.{IsPermutation}
use Rattle.std.proofs.lemmas.List.Sorted.{IsPermutation-trans, IsPermutation-cons}
use Rattle.std.proofs.lemmas.Bool.{cases_Bool, and_from}
use Rattle.sqlite_rules.proofs.ListLemmas.{all_has}
use Rattle.sqlite.specs.declared.error.Error.{Error}
use Rattle.sqlite.specs.declared.types.Value.TheVariants.{Null}
use Rattle.sqlite.specs.Order.{Row}
use Rattle.sqlite.specs.Tree.{Trees}
use Rattle.sqlite.specs.State.{State, Executes, ExecutesInside, KeepsCommit}
use Rattle.sqlite_schema.specs.declared.schema.Index.{Index}
use Rattle.sqlite_schema.specs.declared.schema.View.{View}
use Rattle.tables.specs.declared.table.Table.{Table}
use Rattle.tables.specs.Texts.{insert_text}
use Rattle.tables.specs.Schema.{Definition, schema_from, definition, place_of, tree_of, shape, columns_of, checks_from, places_from, AreFree}
use Rattle.tables.specs.Rows.{is_row_of, Keyed}
use Rattle.tables.specs.Contents.{Contents, changed, added, HoldsTable, Holds, IsOffice, Sees}
use Rattle.tables.proofs.ColumnPlaceLemmas.{typed_at}
use Rattle.tables.proofs.TableLemmas.{which_table, has_table}
use Rattle.tables.proofs.InsertLemmas.{Changes, inserts}
use Rattle.tables.proofs.Inserts.{inserts_row, inserted, width_of}

table_kept : (t : Table) (rows : List Row) (old new : Trees) → new (tree_of t) ≡ old (tree_of t) → HoldsTable t rows old → HoldsTable t rows new
table_kept t rows old new same h = record { same = subst (λ l. IsPermutation rows (map (drop 1) l)) (sym same) h.same; keyed = λ changes. subst Keyed (sym same) (h.keyed changes); typed = h.typed }

-- one table changes, and the others don't
pub holds_changed : (t : Table) (f : List Row → List Row) (old new : Trees) → ((rows : List Row) → HoldsTable t rows old → HoldsTable t (f rows) new)
    → ((u : Table) → tree_of u ≢ tree_of t → new (tree_of u) ≡ old (tree_of u)) → (c : Contents) → Holds c old → Holds (changed t f c) new
holds_changed t f old new set others c h u = elim (which_table t u) [
  | inl same ↦ rw same.0 (subst (λ w. HoldsTable w (f (c w)) new) (sym same.1) (set (c t) (h t)))
  | inr other ↦ rw other.0 (table_kept u (c u) old new (others u other.1) (h u))
]

-- the trees of the office's other tables are unchanged if all other trees are unchanged
pub others_of : (rest : List Definition) (others : List Index) (views : List View) (t : Table) (old new : Trees)
    → AllByRecursion (λ d. d.tree ≢ tree_of t → new d.tree ≡ old d.tree) (schema_from 11 rest others views).tables → (u : Table) → tree_of u ≢ tree_of t → new (tree_of u) ≡ old (tree_of u)
others_of rest others views t old new all u =
    all_has (λ (d : Definition). d.tree ≢ tree_of t → new d.tree ≡ old d.tree) (schema_from 11 rest others views).tables (definition u) all (has_table rest others views u)

-- ---- the last commit

kept : (sql : List ℕ) (params : Row) (old new : State) (r : Result ℕ Error) → ExecutesInside 0 sql params old new r → KeepsCommit old new
kept sql params old new (Ok count) h = record { was_open = λ _. h.1.was_open; committed = λ _. h.1.committed_is }
kept sql params old new (Err e) (inl h) = elim h.1 [
  | inl same ↦ record { was_open = λ _. same.0.was_open; committed = λ _. same.0.committed_is }
  | inr undone ↦ record { was_open = undone.was_open; committed = λ is_open. (undone.undone is_open).1 }
]
kept sql params old new (Err e) (inr h) = record { was_open = λ _. h.2.0.was_open; committed = λ _. h.2.0.committed_is }

-- what a statement preserves of the last commit, even if the transaction has already ended
pub keeps : (sql : List ℕ) (params : Row) (old new : State) (r : Result ℕ Error) → (IsTrue old.in_transaction → ExecutesInside 0 sql params old new r)
    → (old.in_transaction ≡ false → new ≡ old) → KeepsCommit old new
keeps sql params old new r runs ended = elim (cases_Bool old.in_transaction) [
  | inl inside ↦ kept sql params old new r (runs inside)
  | inr outside ↦ let same = ended outside in record { was_open = λ h. subst (λ (s : State). IsTrue s.is_open) same h; committed = λ _. ap (λ (s : State). s.committed) same }
]

-- ---- a statement that changes one table

module _ (t : Table) (f : List Row → List Row) (sql : List ℕ) (params : Row) (old new : State)
    (changed_as : (rest : List Definition) (others : List Index) (views : List View) → AreFree rest → (count : ℕ) → old.now.schema ≡ schema_from 11 rest others views
    → Executes sql params old new (Ok count)
    → (rows : List Row) → HoldsTable t rows old.now.trees → Changes (schema_from 11 rest others views) (tree_of t) old.now new.now × HoldsTable t (f rows) new.now.trees)
  where
    -- the statement changes the table's rows, and no other table's
    pub table_changed : (r : Result ℕ Error) → (IsTrue old.in_transaction → ExecutesInside 0 sql params old new r) → (c : Contents) → Sees c old → OnOk r (Sees (changed t f c) new)
    unfolding IsOffice
    table_changed (Err e) runs c sees = tt
    table_changed (Ok count) runs c sees =
        let s = sees.office.begins in
        let ran = runs sees.inside in
        let at = λ (rows : List Row) (was : HoldsTable t rows old.now.trees). changed_as s.rest s.others s.views s.free count s.is ran.0 rows was in
        let change = (at (c t) (sees.office.holds t)).0 in
        record {
          inside = ran.1.mode;
          office = record {
            begins = record { rest = s.rest; others = s.others; views = s.views; free = s.free; is = change.is };
            sound = change.sound;
            holds = holds_changed t f old.now.trees new.now.trees (λ rows was. (at rows was).1) (others_of s.rest s.others s.views t old.now.trees new.now.trees change.others) c sees.office.holds;
          };
        }

-- ---- an INSERT

-- an INSERT adds the row
pub row_added : (t : Table) (params : Row) → is_row_of t params ≡ true → (old new : State) (r : Result ℕ Error) → (IsTrue old.in_transaction → ExecutesInside 0 (insert_text t) params old new r)
    → (c : Contents) → Sees c old → OnOk r (Sees (added t params c) new)
unfolding added
row_added t params kinds old new r runs c sees =
    table_changed t (λ rows. params ∷ rows) (insert_text t) params old new
    (λ rest others views free count has ran rows was.
    let it = inserts_row rest others views t in
    let change = inserts (places_from 1 (shape t).key) (shape t).name (tree_of t) (columns_of t) (checks_from 1 (shape t).fields) (schema_from 11 rest others views) (it.alone free)
    (place_of t) it.place (insert_text t) (inserted t) (width_of t) it.is it.plain
    params params (it.shows params ∙ ap (λ r. (Null ∷ r) ∷ []) (rw append-nil (typed_at (columns_of t) params kinds))) kinds old new count has ran in (
      change.changes,
      record {
        same = IsPermutation-trans _ _ _ (IsPermutation-cons params _ _ was.same) change.row;
        keyed = λ changes. change.keyed
            (was.keyed changes);
        typed = and_from _ _ kinds was.typed;
      },
    ))
    r runs c sees
