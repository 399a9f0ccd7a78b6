-- How each INSERT is parsed, under a schema that begins with the tables.
use Rattle.std.proofs.Common.{◌≡◌, ℕ, ◌+◌, List, [], ◌∷◌, ◌++◌, length, ◌/◌, refl, slice_get, Some, map}
use Rattle.std.specs.List.{flat_map, filter_map}
use Rattle.sqlite.specs.declared.types.Value.TheVariants.{Null}
use Rattle.sqlite.specs.Order.{Row}
use Rattle.sqlite.specs.Term.{Term, lit, col}
use Rattle.sqlite.specs.Schema.{Schema}
use Rattle.sqlite.specs.Source.TheVariants.{Values}
use Rattle.sqlite.specs.Command.TheVariants.{Insert}
use Rattle.sqlite.specs.Listing.{understood}
use Rattle.sqlite.specs.Effect.{value_rows}
use Rattle.sqlite.proofs.Callers.{IsPlain, command_of}
use Rattle.sqlite_schema.specs.declared.schema.Index.{Index}
use Rattle.sqlite_schema.specs.declared.schema.View.{View}
use Rattle.sqlite_schema.specs.declared.schema.Keys.TheVariants.{Enforced}
use Rattle.sqlite_rules.specs.Action.{works, work_for}
use Rattle.sqlite_tied.specs.Compute.{everything}
use Rattle.tables.specs.declared.table.Table.{Table}
use Rattle.tables.specs.declared.table.Table.TheVariants.{Office}
use Rattle.tables.specs.Texts.{insert_text}
use Rattle.tables.specs.Schema.{Definition, schema_from, definition, place_of, tree_of, columns_of, AreFree}
use Rattle.tables.specs.Rows.{at, column_places}

pub none_from : (schema : Schema) (tree : ℕ) (olds news : List Row) (ts : List Definition) → AreFree ts
    → flat_map (λ child. filter_map (work_for schema Enforced 0 tree olds news child) child.references) ts ≡ []
none_from schema tree olds news [] h = refl
none_from schema tree olds news (t ∷ ts) h = rw h.0 (none_from schema tree olds news ts h.1)

-- the parameters with the given indices, in order
abbrev pub given : List ℕ → List Term
given = map (col 0)

-- NULL for the rowid, then the parameters
abbrev pub inserted : Table → List Term
inserted t = lit Null ∷ given (column_places t)

abbrev pub width_of : Table → ℕ
width_of t = 1 + length (columns_of t)

module _ (rest : List Definition) (others : List Index) (views : List View) where
  abbrev schema : Schema
  schema = schema_from 11 rest others views

  -- the conditions on a table's INSERT
  pub record InsertsRow (t : Table) : Type 0 where
    pub place : slice_get schema.tables (place_of t) ≡ Some (definition t)
    pub is : command_of (understood schema (insert_text t)) ≡ Insert (place_of t) (Values (inserted t) (width_of t))
    pub plain : IsPlain (understood schema (insert_text t))
    pub shows : (params : Row) → value_rows (params ++ []) (width_of t) (length (inserted t) / width_of t) (inserted t) ≡ (Null ∷ at (column_places t) (params ++ [])) ∷ []
    pub alone : AreFree rest → (olds news : List Row) → works schema Enforced 0 (tree_of t) olds news ≡ []

  pub inserts_row : (t : Table) → InsertsRow t
  unfolding understood everything insert_text
  inserts_row Office = record { place = refl; is = refl; plain = (refl, refl); shows = λ _. refl; alone = λ free olds news. none_from schema (tree_of Office) olds news rest free }
  inserts_row t = record { place = refl; is = refl; plain = (refl, refl); shows = λ _. refl; alone = λ free olds news. none_from schema (tree_of t) olds news rest free }
