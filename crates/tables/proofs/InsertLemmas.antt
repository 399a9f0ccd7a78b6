-- One INSERT of one row.
use Rattle.std.proofs.Common.{◌≡◌, ◌≢◌, ℕ, ℤ, List, [], ◌∷◌, ◌++◌, map, drop, fold, Option, slice_get, Bool, true, false, cond, Some, None, Ok, refl, sym, ap, subst, ◌∙◌, Ordering, Less}
use Rattle.std.proofs.Common.{Equal, Greater, true≢false, length, ◌/◌}
use Rattle.std.specs.List.{AllByRecursion}
use Rattle.std.specs.List.Sorted.{IsPermutation}
use Rattle.std.specs.Ordering.{is_eq, match_ordering}
use Rattle.std.proofs.lemmas.List.Sorted.{IsPermutation-refl, IsPermutation-trans, IsPermutation-cons, IsPermutation-middle, IsPermutation-sym, IsPermutation-map}
use Rattle.std.proofs.lemmas.Bool.{and_parts, or_parts, not-true}
use Rattle.sqlite.specs.declared.types.Value.{Value}
use Rattle.sqlite.specs.declared.types.Value.TheVariants.{Null, Int, Text, Blob}
use Rattle.sqlite.specs.Order.{Row, value_cmp}
use Rattle.sqlite.specs.Term.{Term}
use Rattle.sqlite.specs.Ops.{unary}
use Rattle.sqlite.specs.Schema.{Schema}
use Rattle.sqlite.specs.Kind.{Kind}
use Rattle.sqlite.specs.Kind.TheVariants.{Integer, Text as Words, Blob as Bytes}
use Rattle.sqlite_schema.specs.declared.schema.Column.{Column}
use Rattle.sqlite_schema.specs.declared.schema.Keys.TheVariants.{Enforced}
use Rattle.sqlite.specs.Source.{Source}
use Rattle.sqlite.specs.Source.TheVariants.{Values}
use Rattle.sqlite.specs.Command.TheVariants.{Insert}
use Rattle.sqlite.specs.Edit.{edit_of, put_all, is_taken, are_fresh, with_rowid, taken_by}
use Rattle.sqlite.specs.Cast.{cast, cast_all}
use Rattle.sqlite.specs.Rowids.TheVariants.{Chosen}
use Rattle.sqlite.specs.Tree.{Trees, rowid, put_row}
use Rattle.sqlite.specs.Effect.{Database, IsDatabase, value_rows}
use Rattle.sqlite.specs.Does.{Does, AtPlace, OnRows}
use Rattle.sqlite.specs.Rows.{Part, Written, Task, Then, Gives, Sourced, Edited, Inserts, Counter, Counts, count_of, higher, last_id, stamped}
use Rattle.sqlite_rules.specs.Action.{works}
use Rattle.sqlite.specs.Listing.{understood}
use Rattle.sqlite.specs.State.{State, mode_of, Executes}
use Rattle.sqlite.proofs.Callers.{IsPlain, command_of, statement_of, runs_as, one_step}
use Rattle.tables.specs.Schema.{Definition, keyed_by}
use Rattle.tables.specs.Rows.{Keyed, is_of, are_of}
use Rattle.tables.proofs.NewRowidLemmas.{keyed_put_all}
use Rattle.tables.proofs.WentLemmas.{given, then_went, read, write_went}

-- ---- lists

-- a row with a free rowid is inserted among the others
pub put_fresh : (new : Row) (rows : List Row) → is_taken rows new ≡ false → IsPermutation (new ∷ rows) (put_row new rows)
put_fresh new [] free = IsPermutation-refl _
put_fresh new (r ∷ rows) free = go (value_cmp (rowid r) (rowid new)) (or_parts _ _ free).0 (put_fresh new rows (or_parts _ _ free).1)
  where
    go : (o : Ordering) → is_eq o ≡ false → IsPermutation (new ∷ rows) (put_row new rows) → IsPermutation (new ∷ r ∷ rows) (match_ordering o (r ∷ put_row new rows) (new ∷ rows) (new ∷ r ∷ rows))
    go Less other later = IsPermutation-trans _ _ _ (IsPermutation-sym _ _ (IsPermutation-middle (r ∷ []) new rows)) (IsPermutation-cons r _ _ later)
    go Equal other later = absurd (true≢false other)
    go Greater other later = IsPermutation-refl _

-- ---- how a column converts a value that has the column's kind

either : (b : Bool) (x : Value) → cond b x x ≡ x
either true x = refl
either false x = refl

pub cast_int : (n : ℤ) → cast Integer (Int n) ≡ Int n
unfolding unary
cast_int n = either _ (Int n)

cast_null : cast Integer Null ≡ Null
unfolding unary
cast_null = either _ Null

pub cast_all_of : (columns : List Column) (vs : Row) → are_of columns vs ≡ true → cast_all columns vs ≡ vs
cast_all_of [] [] h = refl
cast_all_of [] (v ∷ vs) h = absurd (true≢false (sym h))
cast_all_of (c ∷ cs) [] h = absurd (true≢false (sym h))
cast_all_of (c ∷ cs) (v ∷ vs) h = ap (λ x. x ∷ cast_all cs vs) (one c.kind v (and_parts _ _ h).0) ∙ ap (λ xs. v ∷ xs) (cast_all_of cs vs (and_parts _ _ h).1)
  where
    one : (k : Kind) (x : Value) → is_of k x ≡ true → cast k x ≡ x
    one Integer (Int n) h = cast_int n
    one Words (Text t) h = refl
    one Bytes (Blob b) h = refl
    one _ _ h = absurd (true≢false (sym h))

-- ---- the statement

-- one table's rows may have changed, and no other table's
pub record Changes (schema : Schema) (tree : ℕ) (old new : Database) : Type 0 where
  pub is : new.schema ≡ schema
  pub sound : IsDatabase new
  pub others : AllByRecursion (λ t. t.tree ≢ tree → new.trees t.tree ≡ old.trees t.tree) schema.tables

-- one table has an additional row
pub record Adds (schema : Schema) (tree : ℕ) (tuple : Row) (old new : Database) : Type 0 where
  pub changes : Changes schema tree old new
  pub row : IsPermutation (tuple ∷ map (drop 1) (old.trees tree)) (map (drop 1) (new.trees tree))
  pub keyed : Keyed (old.trees tree) → Keyed (new.trees tree)

module _ (key : List ℕ) (name : List ℕ) (tree : ℕ) (columns : List Column) (checks : List Term) where
  abbrev table : Definition
  table = keyed_by key name tree columns checks

  module _ (limit : Option ℕ) (schema : Schema) (params : Row) where
    abbrev task : Task
    task = record { limit = limit; keys = Enforced; schema = schema; table = table; params = params }

    -- what the statement itself wrote
    abbrev written : Trees → List Row → Trees → Written
    written db rows next = let news = (edit_of db table [] Chosen 0 rows).news in record { trees = next; rows = news; last = last_id news }

    -- how the statement ends, for a table without a counter
    abbrev ends : Trees → List Row → Option Row → Trees → Part Written
    ends db rows counter mid = Then (Counts task mid counter (fold higher (count_of counter) (edit_of db table [] Chosen 0 rows).news)) (λ next. Gives (written db rows next))

    ended : (db : Trees) (rows : List Row) (counter : Option Row) (mid : Trees) (w : Written) → ends db rows counter mid (Ok w) → mid ≡ w.trees
    ended db rows counter mid w h =
        let done = then_went (Counts task mid counter (fold higher (count_of counter) (edit_of db table [] Chosen 0 rows).news)) (λ next. Gives (written db rows next)) w h in
        subst (λ (x : Written). mid ≡ x.trees) (sym (given (written db rows done.0) w done.2)) (sym (given mid done.0 done.1))

    kept_as : (db : Trees) (rows : List Row) (mid next : Trees) → mid ≡ next → Edited schema Enforced db (edit_of db table [] Chosen 0 rows) (Ok mid)
        → Edited schema Enforced db (edit_of db table [] Chosen 0 rows) (Ok next)
    kept_as db rows mid next same edited = subst (λ (x : Trees). Edited schema Enforced db (edit_of db table [] Chosen 0 rows) (Ok x)) same edited

    insert_went : (from : Source) (db : Trees) (w : Written) → Inserts task from db (Ok w)
        → (rows : List Row) × Sourced limit (read task db) (stamped table params) from (Ok rows) × Edited schema Enforced db (edit_of db table [] Chosen 0 rows) (Ok w.trees)
    insert_went from db w h =
        let edits = λ (rows : List Row) (counter : Option Row). Then (Edited schema Enforced db (edit_of db table [] Chosen 0 rows)) (ends db rows counter) in
        let sourced = then_went (Sourced limit (read task db) (stamped table params) from) (λ rows. Then (Counter task db) (edits rows)) w h in
        let rows = sourced.0 in
        let counted = then_went (Counter task db) (edits rows) w sourced.2 in
        let edited = then_went (Edited schema Enforced db (edit_of db table [] Chosen 0 rows)) (ends db rows counted.0) w counted.2 in
        (rows, sourced.1, kept_as db rows edited.0 w.trees (ended db rows counted.0 edited.0 w edited.2) edited.1)

  module _ (schema : Schema) (alone : (olds news : List Row) → works schema Enforced 0 tree olds news ≡ []) (at : ℕ) (place : slice_get schema.tables at ≡ Some table)
      (sql : List ℕ) (terms : List Term) (width : ℕ) (is : command_of (understood schema sql) ≡ Insert at (Values terms width)) (plain : IsPlain (understood schema sql))
      (params tuple : Row) (source : value_rows (params ++ []) width (length terms / width) terms ≡ (Null ∷ tuple) ∷ []) (kinds : are_of columns tuple ≡ true)
    where
      -- the row is inserted, with a rowid that no other row has
      finish : (old new : Database) → IsDatabase new → (trees : Trees) → new ≡ record { schema = schema; trees = trees } → (rows : List Row) → rows ≡ (Null ∷ tuple) ∷ []
          → Edited schema Enforced old.trees (edit_of old.trees table [] Chosen 0 rows) (Ok trees)
          → Adds schema tree tuple old new
      finish old new sound trees now rows one edited =
          let db = old.trees in
          let edit = edit_of db table [] Chosen 0 rows in
          let step = one_step schema _ db trees edit (alone (taken_by db edit) edit.news) edited in
          let row = with_rowid Chosen (db tree) (Null ∷ tuple) in
          let news : edit.news ≡ row ∷ [] = ap (λ all. (edit_of db table [] Chosen 0 all).news) one ∙ rw (cast_null, cast_all_of columns tuple kinds) in
          let free : is_taken (db tree) row ≡ false = not-true _ (and_parts _ _ (subst (λ all. are_fresh (db tree) all ≡ true) news step.fresh)).0 in
          let same : new.trees ≡ trees = ap (λ (d : Database). d.trees) now in
          let after : new.trees tree ≡ put_all (db tree) edit.news = ap (λ (t : Trees). t tree) same ∙ step.rows in
          record {
            changes = record {
              is = ap (λ (d : Database). d.schema) now;
              sound = sound;
              others = subst (λ (t : Trees). AllByRecursion (λ u. u.tree ≢ tree → t u.tree ≡ db u.tree) schema.tables) (sym same) step.tables;
            };
            row =
                subst (λ l. IsPermutation (tuple ∷ map (drop 1) (db tree)) (map (drop 1) l)) (sym (after ∙ ap (put_all (db tree)) news))
                (IsPermutation-map (drop 1) _ _ (put_fresh row (db tree) free));
            keyed = λ keyed. subst Keyed (sym after) (keyed_put_all edit.news (db tree) keyed step.keyed step.fresh);
          }

      pub inserts : (old new : State) (count : ℕ) → old.now.schema ≡ schema → Executes sql params old new (Ok count) → Adds schema tree tuple old.now new.now
      inserts old new count has h =
          let db = old.now.trees in
          let command = Insert at (Values terms width) in
          let w = runs_as sql params old new schema has command is plain count h in
          let text = statement_of sql (understood schema sql) in
          let done0 = subst (λ s. Does old.step_limit (mode_of old) params (record old.now { schema = s }) text None command (Ok (w.tally, new.now))) has w.changed in
          let tasks = λ (t : Definition). let it : Task = record { limit = old.step_limit; keys = Enforced; schema = schema; table = t; params = params } in it in
          let done1 = subst (λ o. AtPlace (λ t. OnRows (tasks t) (mode_of old) None command db) o (Ok (w.tally, new.now))) place done0 in
          let wrote = write_went (tasks table) (mode_of old) command db w.tally new.now done1 in
          let given = insert_went old.step_limit schema params (Values terms width) db wrote.0 wrote.1 in
          finish old.now new.now w.sound wrote.0.trees wrote.2 given.0 (given.1.1 ∙ source) given.2
