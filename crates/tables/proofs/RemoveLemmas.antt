-- A DELETE of the rows with a given key.
use Rattle.std.proofs.Common.{◌≡◌, ◌≢◌, ℕ, List, [], ◌∷◌, map, drop, filter, slice_get, Bool, not, Some, None, Ok, refl, sym, ap, subst, ◌∙◌}
use Rattle.std.specs.List.{AllByRecursion}
use Rattle.std.specs.List.Sorted.{IsPermutation}
use Rattle.sqlite_rules.specs.Action.{works}
use Rattle.sqlite_rules.specs.Calls.{ids_of}
use Rattle.sqlite_trees.proofs.ListLemmas.{filter-map}
use Rattle.sqlite.specs.declared.types.Value.TheVariants.{Null}
use Rattle.sqlite.specs.Order.{Row}
use Rattle.sqlite.specs.Term.{col}
use Rattle.sqlite.specs.Schema.{Schema}
use Rattle.sqlite.specs.Command.TheVariants.{Delete}
use Rattle.sqlite.specs.Edit.{edit_of, taken_by}
use Rattle.sqlite.specs.Listing.{understood}
use Rattle.sqlite.specs.Program.{overlay}
use Rattle.sqlite.specs.Rowids.TheVariants.{Given}
use Rattle.sqlite.specs.Tree.{Trees, rowid}
use Rattle.sqlite.specs.Effect.{Database, IsDatabase, Answers}
use Rattle.sqlite.specs.Does.{Does, AtPlace, OnRows}
use Rattle.sqlite.specs.Rows.{Task, Edited}
use Rattle.sqlite.specs.State.{State, mode_of, Executes}
use Rattle.sqlite.proofs.Callers.{IsPlain, command_of, statement_of, runs_as, one_step}
use Rattle.sqlite_schema.specs.declared.program.Program.{Program}
use Rattle.sqlite_schema.specs.declared.schema.Keys.TheVariants.{Enforced}
use Rattle.tables.specs.declared.table.Table.{Table}
use Rattle.tables.specs.Schema.{Definition, definition, place_of, tree_of, shape}
use Rattle.tables.specs.Rows.{tuples, has_key, Keyed}
use Rattle.tables.proofs.ListLemmas.{mapped_itself}
use Rattle.tables.proofs.InsertLemmas.{Changes}
use Rattle.tables.proofs.WentLemmas.{write_went, delete_went}
use Rattle.tables.proofs.PickLemmas.{picked_left, keyed_filtered}
use Rattle.tables.proofs.SelectLemmas.{query, selects, tests_from, tests_agree}

-- the rows with the given key are removed from a table
pub record Removes (schema : Schema) (t : Table) (key : Row) (old new : Database) : Type 0 where
  pub changes : Changes schema (tree_of t) old new
  pub rows : tuples t new.trees ≡ filter (λ r. not (has_key t key r)) (tuples t old.trees)
  pub keyed : Keyed (new.trees (tree_of t))

module _ (schema : Schema) (t : Table) (alone : (olds news : List Row) → works schema Enforced 0 (tree_of t) olds news ≡ []) (place : slice_get schema.tables (place_of t) ≡ Some (definition t))
    (sql : List ℕ) (is : command_of (understood schema sql) ≡ Delete (place_of t) (record { lets = []; body = query (tree_of t) (tests_from 0 (shape t).key) (col 1 0 ∷ []) [] }))
    (plain : IsPlain (understood schema sql)) (low : (db : Trees) → overlay db [] (tree_of t) ≡ db (tree_of t)) (params : Row)
  where
    abbrev program : Program
    program = record { lets = []; body = query (tree_of t) (tests_from 0 (shape t).key) (col 1 0 ∷ []) [] }

    -- once the rows that the query selected are removed, those that don't have the key remain
    finish : (old new : Database) → IsDatabase new → Keyed (old.trees (tree_of t)) → (trees : Trees) → new ≡ record { schema = schema; trees = trees } → (found : List Row)
        → Answers (record { schema = schema; trees = old.trees }) program params found
        → Edited schema Enforced old.trees (edit_of old.trees (definition t) (ids_of found) Given 0 []) (Ok trees) → Removes schema t params old new
    finish old new sound keyed trees now found answer edited =
        let db = old.trees in
        let rows = db (tree_of t) in
        let edit = edit_of db (definition t) (ids_of found) Given 0 [] in
        let step = one_step schema _ db trees edit (alone (taken_by db edit) edit.news) edited in
        let passes : Row → Bool = λ r. has_key t params (drop 1 r) in
        let shown : Row → Row = λ r. rowid r ∷ [] in
        let pick =
        selects (λ r. r) (tree_of t) (tests_from 0 (shape t).key) (col 1 0 ∷ []) [] params passes (λ r. []) shown (tests_agree 0 (shape t).key params) (λ r. refl) (λ r. refl)
        (overlay db []) found (answer.answer Null)
        in
        let from : IsPermutation (filter passes rows) pick.ordered = subst (λ l. IsPermutation (filter passes l) pick.ordered) (mapped_itself (overlay db [] (tree_of t)) ∙ low db) pick.same in
        let same : new.trees ≡ trees = ap (λ (d : Database). d.trees) now in
        let left : new.trees (tree_of t) ≡ filter (λ r. not (passes r)) rows =
        ap (λ (x : Trees). x (tree_of t)) same ∙ step.rows ∙ picked_left passes shown (λ r. refl) rows keyed pick.ordered found from pick.shown in
        record {
          changes = record {
            is = ap (λ (d : Database). d.schema) now;
            sound = sound;
            others = subst (λ (x : Trees). AllByRecursion (λ d. d.tree ≢ tree_of t → x d.tree ≡ db d.tree) schema.tables) (sym same) step.tables;
          };
          rows = ap (map (drop 1)) left ∙ sym (filter-map (λ r. not (has_key t params r)) (drop 1) rows);
          keyed = subst Keyed (sym left) (keyed_filtered (λ r. not (passes r)) rows keyed);
        }

    pub removes : (old new : State) (count : ℕ) → old.now.schema ≡ schema → Keyed (old.now.trees (tree_of t)) → Executes sql params old new (Ok count) → Removes schema t params old.now new.now
    removes old new count has keyed h =
        let db = old.now.trees in
        let command = Delete (place_of t) program in
        let w = runs_as sql params old new schema has command is plain count h in
        let text = statement_of sql (understood schema sql) in
        let task = λ (d : Definition). let it : Task = record { limit = old.step_limit; keys = Enforced; schema = schema; table = d; params = params } in it in
        let done0 = subst (λ s. Does old.step_limit (mode_of old) params (record old.now { schema = s }) text None command (Ok (w.tally, new.now))) has w.changed in
        let done1 = subst (λ o. AtPlace (λ d. OnRows (task d) (mode_of old) None command db) o (Ok (w.tally, new.now))) place done0 in
        let wrote = write_went (task (definition t)) (mode_of old) command db w.tally new.now done1 in
        let given = delete_went (task (definition t)) program db wrote.0 wrote.1 in
        finish old.now new.now w.sound keyed wrote.0.trees wrote.2 given.0 given.1 given.2
