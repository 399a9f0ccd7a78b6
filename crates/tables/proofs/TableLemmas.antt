-- The tables of an office as a list, and in a schema.
use Rattle.std.proofs.Common.{◌≡◌, ◌≢◌, ◌⊎◌, inl, inr, ℕ, suc, ◌*◌, ◌<◌, ◌==◌, List, slice_get, get_or, Some, true, false, refl, sym, ap, ◌∙◌, arith}
use Rattle.std.proofs.lemmas.Bool.Decides.{eqb_tells}
use Rattle.sqlite_rules.specs.Lists.{Has}
use Rattle.sqlite_schema.specs.declared.schema.Index.{Index}
use Rattle.sqlite_schema.specs.declared.schema.View.{View}
use Rattle.tables.specs.declared.table.Table.{Table}
use Rattle.tables.specs.declared.table.Table.TheVariants.{Office}
use Rattle.tables.specs.Schema.{Definition, schema_from, definition, place_of, tree_of, all_tables}
use Rattle.tables.proofs.ListLemmas.{has_place}

pub place_itself : (t : Table) → get_or all_tables (place_of t) Office ≡ t
place_itself Office = refl
place_itself t = refl

pub same_place : (t u : Table) → place_of t ≡ place_of u → t ≡ u
same_place t u same = sym (place_itself t) ∙ ap (λ n. get_or all_tables n Office) same ∙ place_itself u

pub place_there : (n : ℕ) → n < 11 → place_of (get_or all_tables n Office) ≡ n
place_there (suc (suc (suc (suc (suc (suc (suc (suc (suc (suc (suc n))))))))))) low = absurd (omega (arith, low))
place_there n low = refl

pub place_below : (t : Table) → place_of t < 11
place_below Office = omega arith
place_below t = omega arith

-- a table is the given one, or has a different position and a different tree
pub which_table : (t u : Table) → ((place_of u == place_of t) ≡ true) × (u ≡ t) ⊎ ((place_of u == place_of t) ≡ false) × (tree_of u ≢ tree_of t)
which_table t u = elim (eqb_tells (place_of u) (place_of t)) [
  | inl same ↦ inl (same.0, same_place u t same.1)
  | inr other ↦ inr (other.0, λ trees. other.1 (halves (place_of u) (place_of t) trees))
]
  where
    halves : (m n : ℕ) → 2 * m ≡ 2 * n → m ≡ n
    halves m n h = omega (arith, h)

module _ (rest : List Definition) (others : List Index) (views : List View) where
  pub listed : (t : Table) → slice_get (schema_from 11 rest others views).tables (place_of t) ≡ Some (definition t)
  listed Office = refl
  listed t = refl

  pub has_table : (t : Table) → Has (schema_from 11 rest others views).tables (definition t)
  has_table t = has_place (schema_from 11 rest others views).tables (place_of t) (definition t) (listed t)
