-- An UPDATE of the row with a given key.
use Rattle.std.proofs.Common.{◌≡◌, ◌≢◌, ℕ, List, [], ◌∷◌, ◌++◌, map, drop, filter, slice_get, Bool, true, false, not, cond, Some, None, Ok, refl, sym, ap, subst, ◌∙◌}
use Rattle.std.specs.List.{list_all, AllByRecursion}
use Rattle.std.specs.List.Sorted.{IsPermutation}
use Rattle.std.proofs.lemmas.Bool.{and_parts, not-true}
use Rattle.std.proofs.lemmas.List.{map-append}
use Rattle.std.proofs.lemmas.List.Sorted.{IsPermutation-refl, IsPermutation-trans, IsPermutation-cons, IsPermutation-middle, IsPermutation-sym, IsPermutation-map, IsPermutation-append_left}
use Rattle.std.proofs.lemmas.List.Sorted.{IsPermutation-append_right}
use Rattle.sqlite_rules.specs.Lists.{Has}
use Rattle.sqlite_rules.specs.Action.{works}
use Rattle.sqlite_rules.specs.Calls.{ids_of}
use Rattle.sqlite_trees.proofs.ListLemmas.{filter-map}
use Rattle.sqlite_rules.proofs.ListLemmas.{test_has}
use Rattle.sqlite_rules.proofs.TableLemmas.{int_is}
use Rattle.sqlite.specs.declared.types.Value.TheVariants.{Null}
use Rattle.sqlite.specs.Order.{Row}
use Rattle.sqlite.specs.Term.{Term, col, eval_all}
use Rattle.sqlite.specs.Schema.{Schema}
use Rattle.sqlite.specs.Command.TheVariants.{Update}
use Rattle.sqlite.specs.Cast.{cast_row}
use Rattle.sqlite.specs.Edit.{id_in, without_all, put_all, are_fresh, numbered, edit_of, taken_by}
use Rattle.sqlite.specs.Listing.{understood}
use Rattle.sqlite.specs.Program.{overlay}
use Rattle.sqlite.specs.Rowids.TheVariants.{Given}
use Rattle.sqlite.specs.Tree.{Trees, rowid, put_row}
use Rattle.sqlite.specs.Effect.{Database, IsDatabase, Answers}
use Rattle.sqlite.specs.Does.{Does, AtPlace, OnRows}
use Rattle.sqlite.specs.Rows.{Task, Edited}
use Rattle.sqlite.specs.State.{State, mode_of, Executes}
use Rattle.sqlite.proofs.Callers.{IsPlain, command_of, statement_of, runs_as, one_step}
use Rattle.sqlite_schema.specs.declared.program.Program.{Program}
use Rattle.sqlite_schema.specs.declared.schema.Keys.TheVariants.{Enforced}
use Rattle.tables.specs.declared.table.Table.{Table}
use Rattle.tables.specs.Schema.{Definition, definition, place_of, places_from, tree_of, shape, columns_of}
use Rattle.tables.specs.Rows.{tuples, at, has_key, is_row_of, Keyed}
use Rattle.tables.proofs.Edits.{beyond_key, updated}
use Rattle.tables.proofs.InsertLemmas.{Changes, put_fresh, cast_int, cast_all_of}
use Rattle.tables.proofs.NewRowidLemmas.{keyed_put_all}
use Rattle.tables.proofs.ListLemmas.{mapped_has, mapped_same, mapped_twice, mapped_itself}
use Rattle.tables.proofs.WentLemmas.{write_went, update_went}
use Rattle.tables.proofs.PickLemmas.{picked, picked_left, keyed_filtered}
use Rattle.tables.proofs.SelectLemmas.{query, selects, tests_from, tests_agree, columns_from, shows_columns}

-- ---- lists

put_all_fresh : (news rows : List Row) → are_fresh rows news ≡ true → IsPermutation (news ++ rows) (put_all rows news)
put_all_fresh [] rows fresh = IsPermutation-refl rows
put_all_fresh (n ∷ news) rows fresh =
    let f = and_parts _ _ fresh in
    IsPermutation-trans _ _ _ (IsPermutation-sym _ _ (IsPermutation-middle news n rows))
    (IsPermutation-trans _ _ _ (IsPermutation-append_right news _ _ (put_fresh n rows (not-true _ f.0))) (put_all_fresh news (put_row n rows) f.1))

numbered_given : (rows news : List Row) → numbered Given rows news ≡ news
numbered_given rows [] = refl
numbered_given rows (n ∷ news) = ap (λ l. n ∷ l) (numbered_given (put_row n rows) news)

-- the elements that pass a test, each changed, and those that don't pass
parted : {X : Type 0} (p : X → Bool) (f : X → X) (xs : List X) → IsPermutation (map f (filter p xs) ++ filter (λ x. not (p x)) xs) (map (λ x. cond (p x) (f x) x) xs)
parted p f [] = IsPermutation-refl []
parted p f (x ∷ xs) = go (p x) (parted p f xs)
  where
    go : (b : Bool) → IsPermutation (map f (filter p xs) ++ filter (λ y. not (p y)) xs) (map (λ y. cond (p y) (f y) y) xs)
        → IsPermutation (map f (cond b (x ∷ filter p xs) (filter p xs)) ++ cond (not b) (x ∷ filter (λ y. not (p y)) xs) (filter (λ y. not (p y)) xs))
        (cond b (f x) x ∷ map (λ y. cond (p y) (f y) y) xs)
    go true later = IsPermutation-cons (f x) _ _ later
    go false later = IsPermutation-trans _ _ _ (IsPermutation-middle (map f (filter p xs)) x _) (IsPermutation-cons x _ _ later)

-- the row that an UPDATE of all columns computes: the key unchanged, followed by the parameters after it
pub shows_updated : (t : Table) (params r : Row) → eval_all (updated t) (params ∷ r ∷ []) ≡ rowid r ∷ rowid r ∷ at (places_from 0 (shape t).key) (drop 1 r)
    ++ at (places_from (shape t).key (beyond_key t)) params
shows_updated t params r =
    ap (λ l. rowid r ∷ rowid r ∷ l)
    (map-append _ (columns_from 0 (shape t).key) (map (col 0) (places_from (shape t).key (beyond_key t)))
    ∙ ap (λ l. l ++ eval_all (map (col 0) (places_from (shape t).key (beyond_key t))) (params ∷ r ∷ [])) (shows_columns 0 (shape t).key params r)
    ∙ ap (λ l. at (places_from 0 (shape t).key) (drop 1 r) ++ l) (mapped_twice (col 0) _ (places_from (shape t).key (beyond_key t))))

-- ---- the statement

-- each row of a table that has the key is replaced by the row computed from it
pub record Replaces (schema : Schema) (t : Table) (key : Row) (made : Row → Row) (old new : Database) : Type 0 where
  pub changes : Changes schema (tree_of t) old new
  pub rows : IsPermutation (map (λ r. cond (has_key t key r) (made r) r) (tuples t old.trees)) (tuples t new.trees)
  pub keyed : Keyed (new.trees (tree_of t))

module _ (schema : Schema) (t : Table) (alone : (olds news : List Row) → works schema Enforced 0 (tree_of t) olds news ≡ []) (place : slice_get schema.tables (place_of t) ≡ Some (definition t))
    (project : List Term) (sql : List ℕ) (is : command_of (understood schema sql) ≡ Update (place_of t) (record { lets = []; body = query (tree_of t) (tests_from 0 (shape t).key) project [] }))
    (plain : IsPlain (understood schema sql)) (low : (db : Trees) → overlay db [] (tree_of t) ≡ db (tree_of t)) (params : Row) (next made : Row → Row)
    (shows : (r : Row) → eval_all project (params ∷ r ∷ []) ≡ rowid r ∷ rowid r ∷ next (drop 1 r)) (makes : (x : Row) → is_row_of t x ≡ true → has_key t params x ≡ true → next x ≡ made x)
    (kinds : (x : Row) → is_row_of t x ≡ true → is_row_of t (made x) ≡ true)
  where
    abbrev program : Program
    program = record { lets = []; body = query (tree_of t) (tests_from 0 (shape t).key) project [] }

    -- the rows that the query selected are removed, and the row computed from each is inserted with its rowid
    finish : (old new : Database) → IsDatabase new → Keyed (old.trees (tree_of t)) → list_all (is_row_of t) (tuples t old.trees) ≡ true → (trees : Trees)
        → new ≡ record { schema = schema; trees = trees } → (found : List Row)
        → Answers (record { schema = schema; trees = old.trees }) program params found
        → Edited schema Enforced old.trees (edit_of old.trees (definition t) (ids_of found) Given 1 found) (Ok trees) → Replaces schema t params made old new
    finish old new sound keyed typed trees now found answer edited =
        let db = old.trees in
        let rows = db (tree_of t) in
        let edit = edit_of db (definition t) (ids_of found) Given 1 found in
        let step = one_step schema _ db trees edit (alone (taken_by db edit) edit.news) edited in
        let passes : Row → Bool = λ r. has_key t params (drop 1 r) in
        let shown : Row → Row = λ r. rowid r ∷ rowid r ∷ next (drop 1 r) in
        let heir : Row → Row = λ r. rowid r ∷ made (drop 1 r) in
        let pick =
        selects (λ r. r) (tree_of t) (tests_from 0 (shape t).key) project [] params passes (λ r. []) shown (tests_agree 0 (shape t).key params) (λ r. refl) shows (overlay db []) found
        (answer.answer Null)
        in
        let from : IsPermutation (filter passes rows) pick.ordered = subst (λ l. IsPermutation (filter passes l) pick.ordered) (mapped_itself (overlay db [] (tree_of t)) ∙ low db) pick.same in
        let kept = filter (λ r. not (passes r)) rows in
        let left : without_all rows (ids_of found) ≡ kept = picked_left passes shown (λ r. refl) rows keyed pick.ordered found from pick.shown in
        let casts : (r : Row) → Has pick.ordered r → cast_row (definition t) (drop 1 (shown r)) ≡ heir r =
        λ r there.
        let was = picked passes shown (λ x. refl) rows keyed pick.ordered found from pick.shown r there in
        let tuple = test_has (is_row_of t) (tuples t db) (drop 1 r) typed (mapped_has (drop 1) rows r was.0) in
        rw (makes (drop 1 r) tuple was.1, int_is (rowid r) (keyed.ints r was.0), cast_int (id_in (rowid r)), cast_all_of (columns_of t) (made (drop 1 r)) (kinds (drop 1 r) tuple)) refl in
        let news : edit.news ≡ map heir pick.ordered =
        numbered_given _ _ ∙ ap (map (λ s. cast_row (definition t) (drop 1 s))) pick.shown ∙ mapped_twice shown (λ s. cast_row (definition t) (drop 1 s)) pick.ordered
        ∙ mapped_same _ heir pick.ordered casts in
        let same : new.trees ≡ trees = ap (λ (d : Database). d.trees) now in
        let after : new.trees (tree_of t) ≡ put_all kept edit.news = ap (λ (x : Trees). x (tree_of t)) same ∙ step.rows ∙ ap (λ l. put_all l edit.news) left in
        let fresh : are_fresh kept edit.news ≡ true = subst (λ l. are_fresh l edit.news ≡ true) left step.fresh in
        let whole : IsPermutation (edit.news ++ kept) (new.trees (tree_of t)) = subst (IsPermutation _) (sym after) (put_all_fresh edit.news kept fresh) in
        let parts : map (drop 1) (edit.news ++ kept) ≡ map (λ r. made (drop 1 r)) pick.ordered ++ filter (λ x. not (has_key t params x)) (tuples t db) =
        ap (λ l. map (drop 1) (l ++ kept)) news ∙ map-append (drop 1) (map heir pick.ordered) kept
        ∙ ap (λ l. l ++ map (drop 1) kept) (mapped_twice heir (drop 1) pick.ordered)
        ∙ ap (λ l. map (λ r. made (drop 1 r)) pick.ordered ++ l) (sym (filter-map (λ x. not (has_key t params x)) (drop 1) rows)) in
        let chosen : IsPermutation (map made (filter (has_key t params) (tuples t db))) (map (λ r. made (drop 1 r)) pick.ordered) =
        subst (λ l. IsPermutation l (map (λ r. made (drop 1 r)) pick.ordered))
        (sym (mapped_twice (drop 1) made (filter passes rows)) ∙ ap (map made) (sym (filter-map (has_key t params) (drop 1) rows)))
        (IsPermutation-map (λ r. made (drop 1 r)) (filter passes rows) pick.ordered from) in
        record {
          changes = record {
            is = ap (λ (d : Database). d.schema) now;
            sound = sound;
            others = subst (λ (x : Trees). AllByRecursion (λ d. d.tree ≢ tree_of t → x d.tree ≡ db d.tree) schema.tables) (sym same) step.tables;
          };
          rows = IsPermutation-trans _ _ _ (IsPermutation-sym _ _ (parted (has_key t params) made (tuples t db)))
              (IsPermutation-trans _ _ _ (IsPermutation-append_left (filter (λ x. not (has_key t params x)) (tuples t db)) _ _ chosen)
              (subst (λ l. IsPermutation l (tuples t new.trees)) parts (IsPermutation-map (drop 1) _ _ whole)));
          keyed = subst Keyed (sym after) (keyed_put_all edit.news kept (keyed_filtered (λ r. not (passes r)) rows keyed) step.keyed fresh);
        }

    pub replaces : (old new : State) (count : ℕ) → old.now.schema ≡ schema → Keyed (old.now.trees (tree_of t)) → list_all (is_row_of t) (tuples t old.now.trees) ≡ true
        → Executes sql params old new (Ok count)
        → Replaces schema t params made old.now new.now
    replaces old new count has keyed typed h =
        let db = old.now.trees in
        let command = Update (place_of t) program in
        let w = runs_as sql params old new schema has command is plain count h in
        let text = statement_of sql (understood schema sql) in
        let task = λ (d : Definition). let it : Task = record { limit = old.step_limit; keys = Enforced; schema = schema; table = d; params = params } in it in
        let done0 = subst (λ s. Does old.step_limit (mode_of old) params (record old.now { schema = s }) text None command (Ok (w.tally, new.now))) has w.changed in
        let done1 = subst (λ o. AtPlace (λ d. OnRows (task d) (mode_of old) None command db) o (Ok (w.tally, new.now))) place done0 in
        let wrote = write_went (task (definition t)) (mode_of old) command db w.tally new.now done1 in
        let given = update_went (task (definition t)) program db wrote.0 wrote.1 in
        finish old.now new.now w.sound keyed typed wrote.0.trees wrote.2 given.0 given.1 given.2
