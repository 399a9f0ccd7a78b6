-- How the queries by rowid are parsed, under a schema that begins with the tables up to the query's own; and why they are accepted.
use Rattle.std.proofs.Common.{◌≡◌, ℤ, ◌+◌, List, [], ◌∷◌, codes, length, true, refl, arith}
use Rattle.sqlite.specs.declared.types.Value.TheVariants.{Int}
use Rattle.sqlite.specs.Collation.TheVariants.{Binary}
use Rattle.sqlite_sql.specs.declared.ops.BinaryOp.TheVariants.{Compare}
use Rattle.sqlite_sql.specs.declared.ops.CompareOp.TheVariants.{Ge, Le}
use Rattle.sqlite_typing.specs.Types.{accepts_program}
use Rattle.sqlite.specs.Term.{Term, col, op2}
use Rattle.sqlite.specs.Order.{Row}
use Rattle.sqlite.specs.Listing.{understood}
use Rattle.sqlite_schema.specs.declared.schema.Index.{Index}
use Rattle.sqlite_schema.specs.declared.schema.View.{View}
use Rattle.sqlite_resolve.specs.Compile.{first}
use Rattle.sqlite_tied.specs.Compute.{everything}
use Rattle.tables.specs.declared.table.Table.{Table}
use Rattle.tables.specs.declared.table.Table.TheVariants.{Office, Ward, Candidate, Batch, Keying, Verdict, Lot, Receipt, Bundle, Vote, Third}
use Rattle.tables.specs.Texts.{names_of, select_rowid_text, select_between_text}
use Rattle.tables.specs.Schema.{Definition, schema_from, place_of, tree_of, shape, columns_of}
use Rattle.tables.specs.Rows.{begins_key}
use Rattle.tables.specs.Reading.{is_query_text, IsQuery}
use Rattle.tables.proofs.QueryLemmas.{query_text}
use Rattle.tables.proofs.SelectLemmas.{IsSelect, query as one_select, columns_from, tests_from}
use Rattle.tables.proofs.CauseLemmas.{number_in, text_in, bytes_in, behind}

-- ---- the rowid of the row with a given key

-- the conditions on a SELECT of the rowid of the row with a given key
pub record ReadsRowid (t : Table) : Type 0 where
  pub query : is_query_text (first (select_rowid_text t)) ≡ true
  pub select : (rest : List Definition) (others : List Index) (views : List View)
      → IsSelect (schema_from (1 + place_of t) rest others views) (select_rowid_text t) (tree_of t) (tests_from 0 (shape t).key) (col 1 0 ∷ []) [] (codes "rowid" ∷ [])

pub selects_rowid : (t : Table) → ReadsRowid t
unfolding understood everything select_rowid_text
selects_rowid Office = record { query = refl; select = λ rest others views. record { is = refl; unlisted = refl; plain = (refl, refl); low = λ db. refl; whole = refl; given = refl } }
selects_rowid t = record { query = refl; select = λ rest others views. record { is = refl; unlisted = refl; plain = (refl, refl); low = λ db. refl; whole = refl; given = refl } }

pub rowid_query : (t : Table) → IsQuery (select_rowid_text t)
rowid_query t = query_text (select_rowid_text t) (selects_rowid t).query

-- the query is accepted if the key's values have the columns' kinds
pub accepts_rowid : (t : Table) (key : Row) → begins_key t key ≡ true → length key ≡ (shape t).key → (rest : List Definition) (others : List Index) (views : List View)
    → accepts_program (schema_from (1 + place_of t) rest others views) [] (one_select (tree_of t) (tests_from 0 (shape t).key) (col 1 0 ∷ []) []) key ≡ true
accepts_rowid Office [] kinds many rest others views = absurd (omega (arith, many))
accepts_rowid Office (a ∷ []) kinds many rest others views = rw (number_in a _ kinds).1 refl
accepts_rowid Office (a ∷ b ∷ more) kinds many rest others views = absurd (omega (arith, many))
accepts_rowid Ward [] kinds many rest others views = absurd (omega (arith, many))
accepts_rowid Ward (a ∷ []) kinds many rest others views = rw (number_in a _ kinds).1 refl
accepts_rowid Ward (a ∷ b ∷ more) kinds many rest others views = absurd (omega (arith, many))
accepts_rowid Candidate [] kinds many rest others views = absurd (omega (arith, many))
accepts_rowid Candidate (a ∷ []) kinds many rest others views = absurd (omega (arith, many))
accepts_rowid Candidate (a ∷ b ∷ []) kinds many rest others views =
    let after_a = behind a _ kinds in
    rw ((number_in a _ kinds).1, (number_in b _ after_a).1) refl
accepts_rowid Candidate (a ∷ b ∷ c ∷ more) kinds many rest others views = absurd (omega (arith, many))
accepts_rowid Batch [] kinds many rest others views = absurd (omega (arith, many))
accepts_rowid Batch (a ∷ []) kinds many rest others views = rw (number_in a _ kinds).1 refl
accepts_rowid Batch (a ∷ b ∷ more) kinds many rest others views = absurd (omega (arith, many))
accepts_rowid Keying [] kinds many rest others views = absurd (omega (arith, many))
accepts_rowid Keying (a ∷ []) kinds many rest others views = absurd (omega (arith, many))
accepts_rowid Keying (a ∷ b ∷ []) kinds many rest others views = absurd (omega (arith, many))
accepts_rowid Keying (a ∷ b ∷ c ∷ []) kinds many rest others views = absurd (omega (arith, many))
accepts_rowid Keying (a ∷ b ∷ c ∷ d ∷ []) kinds many rest others views =
    let after_a = behind a _ kinds in
    let after_b = behind b _ after_a in
    let after_c = behind c _ after_b in
    rw ((number_in a _ kinds).1, (number_in b _ after_a).1, (number_in c _ after_b).1, (number_in d _ after_c).1) refl
accepts_rowid Keying (a ∷ b ∷ c ∷ d ∷ e ∷ more) kinds many rest others views = absurd (omega (arith, many))
accepts_rowid Verdict [] kinds many rest others views = absurd (omega (arith, many))
accepts_rowid Verdict (a ∷ []) kinds many rest others views = absurd (omega (arith, many))
accepts_rowid Verdict (a ∷ b ∷ []) kinds many rest others views =
    let after_a = behind a _ kinds in
    rw ((number_in a _ kinds).1, (number_in b _ after_a).1) refl
accepts_rowid Verdict (a ∷ b ∷ c ∷ more) kinds many rest others views = absurd (omega (arith, many))
accepts_rowid Lot [] kinds many rest others views = absurd (omega (arith, many))
accepts_rowid Lot (a ∷ []) kinds many rest others views = absurd (omega (arith, many))
accepts_rowid Lot (a ∷ b ∷ []) kinds many rest others views =
    let after_a = behind a _ kinds in
    rw ((number_in a _ kinds).1, (number_in b _ after_a).1) refl
accepts_rowid Lot (a ∷ b ∷ c ∷ more) kinds many rest others views = absurd (omega (arith, many))
accepts_rowid Receipt [] kinds many rest others views = absurd (omega (arith, many))
accepts_rowid Receipt (a ∷ []) kinds many rest others views = absurd (omega (arith, many))
accepts_rowid Receipt (a ∷ b ∷ []) kinds many rest others views =
    let after_a = behind a _ kinds in
    rw ((number_in a _ kinds).1, (text_in b _ after_a).1) refl
accepts_rowid Receipt (a ∷ b ∷ c ∷ more) kinds many rest others views = absurd (omega (arith, many))
accepts_rowid Bundle [] kinds many rest others views = absurd (omega (arith, many))
accepts_rowid Bundle (a ∷ []) kinds many rest others views = absurd (omega (arith, many))
accepts_rowid Bundle (a ∷ b ∷ []) kinds many rest others views =
    let after_a = behind a _ kinds in
    rw ((number_in a _ kinds).1, (bytes_in b _ after_a).1) refl
accepts_rowid Bundle (a ∷ b ∷ c ∷ more) kinds many rest others views = absurd (omega (arith, many))
accepts_rowid Vote [] kinds many rest others views = absurd (omega (arith, many))
accepts_rowid Vote (a ∷ []) kinds many rest others views = absurd (omega (arith, many))
accepts_rowid Vote (a ∷ b ∷ []) kinds many rest others views = absurd (omega (arith, many))
accepts_rowid Vote (a ∷ b ∷ c ∷ []) kinds many rest others views =
    let after_a = behind a _ kinds in
    let after_b = behind b _ after_a in
    rw ((number_in a _ kinds).1, (number_in b _ after_a).1, (number_in c _ after_b).1) refl
accepts_rowid Vote (a ∷ b ∷ c ∷ d ∷ more) kinds many rest others views = absurd (omega (arith, many))
accepts_rowid Third [] kinds many rest others views = absurd (omega (arith, many))
accepts_rowid Third (a ∷ []) kinds many rest others views = rw (number_in a _ kinds).1 refl
accepts_rowid Third (a ∷ b ∷ more) kinds many rest others views = absurd (omega (arith, many))

-- ---- the rows whose rowids are between two bounds

-- the rowid is at least the first parameter and at most the second
abbrev pub between_tests : List Term
between_tests = op2 (Compare Ge Binary) (col 1 0) (col 0 0) ∷ op2 (Compare Le Binary) (col 1 0) (col 0 1) ∷ []

-- the conditions on a SELECT of those rows
pub record ReadsBetween (t : Table) : Type 0 where
  pub query : is_query_text (first (select_between_text t)) ≡ true
  pub select : (rest : List Definition) (others : List Index) (views : List View)
      → IsSelect (schema_from (1 + place_of t) rest others views) (select_between_text t) (tree_of t) between_tests (columns_from 0 (length (columns_of t))) [] (names_of t)

pub selects_between : (t : Table) → ReadsBetween t
unfolding understood everything select_between_text
selects_between Office = record { query = refl; select = λ rest others views. record { is = refl; unlisted = refl; plain = (refl, refl); low = λ db. refl; whole = refl; given = refl } }
selects_between t = record { query = refl; select = λ rest others views. record { is = refl; unlisted = refl; plain = (refl, refl); low = λ db. refl; whole = refl; given = refl } }

pub between_query : (t : Table) → IsQuery (select_between_text t)
between_query t = query_text (select_between_text t) (selects_between t).query

-- the query for those rows is accepted
pub accepts_between : (t : Table) (low high : ℤ) (rest : List Definition) (others : List Index) (views : List View)
    → accepts_program (schema_from (1 + place_of t) rest others views) [] (one_select (tree_of t) between_tests (columns_from 0 (length (columns_of t))) []) (Int low ∷ Int high ∷ []) ≡ true
accepts_between Office low high rest others views = refl
accepts_between t low high rest others views = refl
