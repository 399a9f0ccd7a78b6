-- How each UPDATE and DELETE is parsed, under a schema that begins with the tables.
use Rattle.std.proofs.Common.{◌≡◌, ℕ, suc, map, cond, ◌==◌, ◌-◌, List, [], ◌∷◌, ◌++◌, length, true, refl, sym, true≢false, slice_get, Some}
use Rattle.sqlite.specs.Order.{Row}
use Rattle.sqlite.specs.Tree.{Trees}
use Rattle.sqlite.specs.Term.{Term, col}
use Rattle.sqlite.specs.Schema.{Schema}
use Rattle.sqlite.specs.Program.{overlay}
use Rattle.sqlite.specs.Command.TheVariants.{Update, Delete}
use Rattle.sqlite.specs.Listing.{understood}
use Rattle.sqlite.proofs.Callers.{IsPlain, command_of}
use Rattle.sqlite_schema.specs.declared.schema.Index.{Index}
use Rattle.sqlite_schema.specs.declared.schema.View.{View}
use Rattle.sqlite_schema.specs.declared.schema.Keys.TheVariants.{Enforced}
use Rattle.sqlite_rules.specs.Action.{works}
use Rattle.sqlite_tied.specs.Compute.{everything}
use Rattle.tables.specs.declared.table.Table.{Table}
use Rattle.tables.specs.declared.table.Table.TheVariants.{Keying, Verdict, Lot, Receipt, Vote, Third}
use Rattle.tables.specs.declared.table.SettableColumn.{SettableColumn}
use Rattle.tables.specs.declared.table.SettableColumn.TheVariants.{VersionOfOffice}
use Rattle.tables.specs.Texts.{update_text, set_text, delete_text}
use Rattle.tables.specs.Schema.{Definition, schema_from, definition, place_of, tree_of, shape, columns_of, places_from, changes_rows, table_set, place_set, AreFree}
use Rattle.tables.proofs.SelectLemmas.{query, columns_from, tests_from}
use Rattle.tables.proofs.Inserts.{given, none_from}

-- the number of columns after the key
abbrev pub beyond_key : Table → ℕ
beyond_key t = length (columns_of t) - (shape t).key

-- the rowid twice, then the key's columns unchanged, then the parameters
abbrev pub updated : Table → List Term
updated t = col 1 0 ∷ col 1 0 ∷ (columns_from 0 (shape t).key ++ given (places_from (shape t).key (beyond_key t)))

-- the rowid twice, then every column unchanged except the one that is set, whose value is the parameter after the key
abbrev pub set_terms : SettableColumn → List Term
set_terms g = col 1 0 ∷ col 1 0 ∷ map (λ p. cond (p == place_set g) (col 0 (shape (table_set g)).key) (col 1 (suc p))) (places_from 0 (length (columns_of (table_set g))))

pub setting_changes : (g : SettableColumn) → changes_rows (table_set g) ≡ true
setting_changes VersionOfOffice = refl
setting_changes g = refl

module _ (rest : List Definition) (others : List Index) (views : List View) where
  abbrev schema : Schema
  schema = schema_from 11 rest others views

  -- the conditions on a table's UPDATE and DELETE, which find their row by its key
  pub record EditsRow (t : Table) : Type 0 where
    pub place : slice_get schema.tables (place_of t) ≡ Some (definition t)
    pub updates : command_of (understood schema (update_text t)) ≡ Update (place_of t) (record { lets = []; body = query (tree_of t) (tests_from 0 (shape t).key) (updated t) [] })
    pub plain_update : IsPlain (understood schema (update_text t))
    pub deletes : command_of (understood schema (delete_text t)) ≡ Delete (place_of t) (record { lets = []; body = query (tree_of t) (tests_from 0 (shape t).key) (col 1 0 ∷ []) [] })
    pub plain_delete : IsPlain (understood schema (delete_text t))
    pub low : (db : Trees) → overlay db [] (tree_of t) ≡ db (tree_of t)
    pub alone : AreFree rest → (olds news : List Row) → works schema Enforced 0 (tree_of t) olds news ≡ []

  pub edits_row : (t : Table) → changes_rows t ≡ true → EditsRow t
  unfolding understood everything update_text delete_text
  edits_row Keying changes = absurd (true≢false (sym changes))
  edits_row Verdict changes = absurd (true≢false (sym changes))
  edits_row Lot changes = absurd (true≢false (sym changes))
  edits_row Receipt changes = absurd (true≢false (sym changes))
  edits_row Vote changes = absurd (true≢false (sym changes))
  edits_row Third changes = absurd (true≢false (sym changes))
  edits_row t changes =
      record {
        place = refl;
        updates = refl;
        plain_update = (refl, refl);
        deletes = refl;
        plain_delete = (refl, refl);
        low = λ db. refl;
        alone = λ free olds news. none_from schema
            (tree_of t) olds news rest free;
      }

  -- the conditions on the statement that sets one column
  pub record SetsValue (g : SettableColumn) : Type 0 where
    pub sets : command_of (understood schema (set_text g)) ≡ Update (place_of (table_set g))
        (record { lets = []; body = query (tree_of (table_set g)) (tests_from 0 (shape (table_set g)).key) (set_terms g) [] })
    pub plain : IsPlain (understood schema (set_text g))

  pub sets_value : (g : SettableColumn) → SetsValue g
  unfolding understood everything set_text
  sets_value VersionOfOffice = record { sets = refl; plain = (refl, refl) }
  sets_value g = record { sets = refl; plain = (refl, refl) }
