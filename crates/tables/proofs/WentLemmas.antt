-- The parts of a statement that succeeded.
use Rattle.std.proofs.Common.{◌≡◌, ◌⊎◌, inl, inr, Result, Err, Bool, List, [], length, Some, None, Ok, sym, ap, subst}
use Rattle.sqlite_rules.specs.Calls.{ids_of}
use Rattle.sqlite_schema.specs.Rules.{Refers}
use Rattle.sqlite_schema.specs.declared.program.Program.{Program}
use Rattle.sqlite_schema.specs.declared.command.Command.{Command}
use Rattle.sqlite.specs.declared.run.Mode.{Mode}
use Rattle.sqlite.specs.Order.{Row}
use Rattle.sqlite.specs.Edit.{Edit, edit_of, taken_by}
use Rattle.sqlite.specs.Rowids.TheVariants.{Given}
use Rattle.sqlite.specs.Tree.{Trees}
use Rattle.sqlite.specs.Effect.{Database, Answers}
use Rattle.sqlite.specs.Does.{Tally, OnRows, WritesRows, Concludes, Tested, Returns}
use Rattle.sqlite.specs.Rows.{Part, Then, Gives, Queried, Written, Task, Edited, Updates, Deletes}

-- a part that returned a value didn't stop
pub went : {B E R : Type 0} {b : B} {Stops : E → Type 0} → ((stop : E) × Stops stop × (Ok b ≡ Err stop)) ⊎ R → R
went (inl stopped) = absurd (let e = stopped.2 in cc)
went (inr on) = on

pub same_value : {B E : Type 0} {a b : B} → ◌≡◌ {A = Result B E} (Ok a) (Ok b) → a ≡ b
same_value e = cc

-- if two parts in sequence returned a value, the first part returned one, and the second computed the result from it
pub then_went : {A B : Type 0} (First : Part A) (Next : A → Part B) (b : B) → Then First Next (Ok b) → (a : A) × First (Ok a) × Next a (Ok b)
then_went First Next b h = went h

pub given : {A : Type 0} (a b : A) → Gives a (Ok b) → b ≡ a
given a b h = same_value h

module _ (task : Task) where
  -- the database that a query reads
  abbrev pub read : Trees → Database
  read db = record { schema = task.schema; trees = db }

  pub write_went : (mode : Mode) (command : Command) (db : Trees) (tally : Tally) (after : Database) → OnRows task mode None command db (Ok (tally, after))
      → (w : Written) × WritesRows task db command (Ok w) × (after ≡ read w.trees)
  write_went mode command db tally after h =
      let done = then_went (WritesRows task db command) (Concludes task mode None) (tally, after) h in
      let w = done.0 in
      let end : Bool → List Row → Tally × Database = λ in_doubt rows. (record { rows = Some (length w.rows); last = w.last; shown = rows; in_doubt = in_doubt }, read w.trees) in
      let tested = then_went (Tested mode (λ among. Refers among task.schema w.trees)) (λ in_doubt. Then (Returns task w None) (λ rows. Gives (end in_doubt rows))) (tally, after) done.2 in
      let shown = then_went (Returns task w None) (λ rows. Gives (end tested.0 rows)) (tally, after) tested.2 in
      (w, done.1, ap (λ (p : Tally × Database). p.1) (given (end tested.0 shown.0) (tally, after) shown.2))

  -- an edit that results in these rows succeeded
  edit_went : (db : Trees) (edit : Edit) (rows : List Row) (w : Written)
      → Then (Edited task.schema task.keys db edit) (λ next. Gives (record { trees = next; rows = rows; last = None })) (Ok w) → Edited task.schema task.keys db edit (Ok w.trees)
  edit_went db edit rows w h =
      let done = then_went (Edited task.schema task.keys db edit) (λ next. Gives (record { trees = next; rows = rows; last = None })) w h in
      subst (λ (x : Trees). Edited task.schema task.keys db edit (Ok x)) (sym (ap (λ (x : Written). x.trees) (given (record { trees = done.0; rows = rows; last = None }) w done.2))) done.1

  pub delete_went : (q : Program) (db : Trees) (w : Written) → Deletes task q db (Ok w)
      → (rows : List Row) × Answers (read db) q task.params rows × Edited task.schema task.keys db (edit_of db task.table (ids_of rows) Given 0 []) (Ok w.trees)
  delete_went q db w h =
      let edit = λ (rows : List Row). edit_of db task.table (ids_of rows) Given 0 [] in
      let found =
      then_went (Queried task.limit (read db) q task.params) (λ rows. Then (Edited task.schema task.keys db (edit rows))
      (λ next. Gives (record { trees = next; rows = taken_by db (edit rows); last = None }))) w h
      in
      (found.0, found.1, edit_went db (edit found.0) (taken_by db (edit found.0)) w found.2)

  pub update_went : (q : Program) (db : Trees) (w : Written) → Updates task q task.params db (Ok w)
      → (rows : List Row) × Answers (read db) q task.params rows × Edited task.schema task.keys db (edit_of db task.table (ids_of rows) Given 1 rows) (Ok w.trees)
  update_went q db w h =
      let edit = λ (rows : List Row). edit_of db task.table (ids_of rows) Given 1 rows in
      let found =
      then_went (Queried task.limit (read db) q task.params) (λ rows. Then (Edited task.schema task.keys db (edit rows))
      (λ next. Gives (record { trees = next; rows = (edit rows).news; last = None }))) w h
      in
      (found.0, found.1, edit_went db (edit found.0) (edit found.0).news w found.2)
