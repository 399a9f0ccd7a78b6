-- Which tables of an office a schema has, by name.
use Rattle.std.specs.Prelude.{◌≡◌, ℕ, Bool, true, not, ◌&&◌, if◌then◌else◌, take, drop, []}
use Rattle.std.specs.List.{list_any, list_all}
use Rattle.sqlite.specs.Schema.{Schema}
use Rattle.sqlite_schema.specs.Names.{same_name}
use Rattle.tables.specs.declared.table.Table.{Table}
use Rattle.tables.specs.declared.table.Table.TheVariants.{Office}
use Rattle.tables.specs.declared.presence.TablesPresent.{TablesPresent}
use Rattle.tables.specs.declared.presence.TablesPresent.TheVariants.{Whole, WithoutThird, WithoutCounts, Other}
use Rattle.tables.specs.Schema.{shape, all_tables, schema_from, BeginsTo, IsOfficeSchema}

-- whether any table has the given table's name, ignoring the case of ASCII letters
abbrev pub has_table : Table → Schema → Bool
has_table t s = list_any (λ d. same_name d.name (shape t).name) s.tables

-- whether any table of an office exists
abbrev pub has_some_table : Schema → Bool
has_some_table s = list_any (λ t. has_table t s) all_tables

-- whether every table of an office exists
abbrev pub has_every_table : Schema → Bool
has_every_table s = list_all (λ t. has_table t s) all_tables

-- whether exactly the first `n` of an office's tables exist
abbrev pub has_first : ℕ → Schema → Bool
has_first n s = list_all (λ t. has_table t s) (take n all_tables) && not (list_any (λ t. has_table t s) (drop n all_tables))

-- which tables of an office exist
abbrev pub tables_present : Schema → TablesPresent
tables_present s = if has_every_table s then Whole else if has_first 10 s then WithoutThird else if has_first 8 s then WithoutCounts else Other

-- The tables with our names are ours: if an office table exists, it is our first one, and if all eleven names exist, our eleven tables come first, in order.
pub record IsOurs (s : Schema) : Type 0 where
  pub office : has_table Office s ≡ true → BeginsTo Office s
  pub every : has_every_table s ≡ true → IsOfficeSchema s

-- The tables of an older office are also ours, and there are no others: their names show how many of the first tables exist.
pub record IsOlderSchema (s : Schema) : Type 0 where
  pub without_third : tables_present s ≡ WithoutThird → s ≡ schema_from 10 [] [] []
  pub without_counts : tables_present s ≡ WithoutCounts → s ≡ schema_from 8 [] [] []
