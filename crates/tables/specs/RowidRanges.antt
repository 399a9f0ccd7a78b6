-- Reading rows by rowid.
use Rattle.std.specs.Prelude.{◌≡◌, ℤ, List, map, filter, drop, Bool, true, ◌&&◌}
use Rattle.sqlite_rules.specs.Lists.{Has}
use Rattle.sqlite.specs.declared.types.Value.TheVariants.{Int}
use Rattle.sqlite.specs.Collation.TheVariants.{Binary}
use Rattle.sqlite_sql.specs.declared.ops.BinaryOp.TheVariants.{Compare}
use Rattle.sqlite_sql.specs.declared.ops.CompareOp.TheVariants.{Ge, Le}
use Rattle.sqlite.specs.Ops.{binary, is_true}
use Rattle.sqlite.specs.Order.{Row}
use Rattle.sqlite.specs.Tree.{Trees, rowid}
use Rattle.tables.specs.declared.table.Table.{Table}
use Rattle.tables.specs.Schema.{tree_of}
use Rattle.tables.specs.Rows.{begins_with}

-- whether the row's rowid is between two bounds, both included, as compared by SQL's >= and <=
abbrev pub lies_between : ℤ → ℤ → Row → Bool
lies_between low high r = is_true (binary (Compare Ge Binary) (rowid r) (Int low)) && is_true (binary (Compare Le Binary) (rowid r) (Int high))

-- the rows of the table whose rowids are between two bounds, both included, each without its rowid
abbrev pub run_of : Table → ℤ → ℤ → Trees → List Row
run_of t low high trees = map (drop 1) (filter (lies_between low high) (trees (tree_of t)))

-- the table has a row with the given rowid, and that row begins with the given values
abbrev pub StandsAt : Table → Row → Trees → ℤ → Type 0
StandsAt t key trees id = (r : Row) × Has (trees (tree_of t)) r × (rowid r ≡ Int id) × (begins_with key (drop 1 r) ≡ true)
