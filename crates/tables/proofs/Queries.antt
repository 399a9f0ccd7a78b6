-- How each query is parsed, under a schema that begins with the tables up to the query's own.
use Rattle.std.proofs.Common.{◌≡◌, ℕ, suc, ◌+◌, ◌≤◌, List, [], ◌∷◌, codes, length, true, refl, sym, arith, true≢false}
use Rattle.sqlite.specs.Collation.TheVariants.{Binary}
use Rattle.sqlite_sql.specs.declared.ops.BinaryOp.TheVariants.{Compare}
use Rattle.sqlite_sql.specs.declared.ops.CompareOp.TheVariants.{Eq}
use Rattle.sqlite_value.specs.Keys.{ascending}
use Rattle.sqlite.specs.Term.{Term, col, op2}
use Rattle.sqlite.specs.Listing.{understood}
use Rattle.sqlite_schema.specs.declared.schema.Index.{Index}
use Rattle.sqlite_schema.specs.declared.schema.View.{View}
use Rattle.sqlite_resolve.specs.Compile.{first}
use Rattle.sqlite_tied.specs.Compute.{everything}
use Rattle.tables.specs.declared.table.Table.{Table}
use Rattle.tables.specs.declared.table.Table.TheVariants.{Office, Ward, Candidate, Batch, Keying, Verdict, Lot, Receipt, Bundle, Vote, Third}
use Rattle.tables.specs.declared.table.Reference.{Reference}
use Rattle.tables.specs.declared.table.Reference.TheVariants.{WardOfBatch}
use Rattle.tables.specs.Texts.{names_of, scan_text, select_text, select_by_reference_text, select_rowids_text}
use Rattle.tables.specs.Schema.{Definition, schema_from, place_of, tree_of, shape, columns_of, changes_rows, table_sought, place_sought}
use Rattle.tables.specs.Reading.{is_query_text, IsQuery}
use Rattle.tables.proofs.QueryLemmas.{query_text}
use Rattle.tables.proofs.SelectLemmas.{IsSelect, columns_from, ordered_from, tests_from}

-- the conditions on a SELECT of all columns in key order, under a schema that begins with the tables up to its own
pub record Reads (t : Table) (sql : List ℕ) (tests : List Term) : Type 0 where
  pub query : is_query_text (first sql) ≡ true
  pub select : (rest : List Definition) (others : List Index) (views : List View)
      → IsSelect (schema_from (1 + place_of t) rest others views) sql (tree_of t) tests (columns_from 0 (length (columns_of t))) (ordered_from 0 (shape t).key) (names_of t)

pub selects : (t : Table) (n : ℕ) → n ≤ (shape t).key → Reads t (select_text t n) (tests_from 0 n)
unfolding understood everything select_text
selects Office (suc (suc n)) low = absurd (omega (arith, low))
selects Ward (suc (suc n)) low = absurd (omega (arith, low))
selects Candidate (suc (suc (suc n))) low = absurd (omega (arith, low))
selects Batch (suc (suc n)) low = absurd (omega (arith, low))
selects Keying (suc (suc (suc (suc (suc n))))) low = absurd (omega (arith, low))
selects Verdict (suc (suc (suc n))) low = absurd (omega (arith, low))
selects Lot (suc (suc (suc n))) low = absurd (omega (arith, low))
selects Receipt (suc (suc (suc n))) low = absurd (omega (arith, low))
selects Bundle (suc (suc (suc n))) low = absurd (omega (arith, low))
selects Vote (suc (suc (suc (suc n)))) low = absurd (omega (arith, low))
selects Third (suc (suc n)) low = absurd (omega (arith, low))
selects t n low = record { query = refl; select = λ rest others views. record { is = refl; unlisted = refl; plain = (refl, refl); low = λ db. refl; whole = refl; given = refl } }

-- the conditions on a SELECT of all columns in any order
pub record Scans (t : Table) : Type 0 where
  pub query : is_query_text (first (scan_text t)) ≡ true
  pub select : (rest : List Definition) (others : List Index) (views : List View)
      → IsSelect (schema_from (1 + place_of t) rest others views) (scan_text t) (tree_of t) [] (columns_from 0 (length (columns_of t))) [] (names_of t)

pub scans : (t : Table) → Scans t
unfolding understood everything scan_text
scans Office = record { query = refl; select = λ rest others views. record { is = refl; unlisted = refl; plain = (refl, refl); low = λ db. refl; whole = refl; given = refl } }
scans t = record { query = refl; select = λ rest others views. record { is = refl; unlisted = refl; plain = (refl, refl); low = λ db. refl; whole = refl; given = refl } }

pub selects_by_reference : (r : Reference) → Reads (table_sought r) (select_by_reference_text r) (op2 (Compare Eq Binary) (col 1 (suc (place_sought r))) (col 0 0) ∷ [])
unfolding understood everything select_by_reference_text
selects_by_reference WardOfBatch = record { query = refl; select = λ rest others views. record { is = refl; unlisted = refl; plain = (refl, refl); low = λ db. refl; whole = refl; given = refl } }

-- the conditions on a SELECT of the rowids
pub record ReadsRowids (t : Table) : Type 0 where
  pub query : is_query_text (first (select_rowids_text t)) ≡ true
  pub select : (rest : List Definition) (others : List Index) (views : List View)
      → IsSelect (schema_from (1 + place_of t) rest others views) (select_rowids_text t) (tree_of t) [] (col 1 0 ∷ []) ((col 1 0, ascending Binary) ∷ []) (codes "rowid" ∷ [])

pub selects_rowids : (t : Table) → changes_rows t ≡ true → ReadsRowids t
unfolding understood everything select_rowids_text
selects_rowids Keying changes = absurd (true≢false (sym changes))
selects_rowids Verdict changes = absurd (true≢false (sym changes))
selects_rowids Lot changes = absurd (true≢false (sym changes))
selects_rowids Receipt changes = absurd (true≢false (sym changes))
selects_rowids Vote changes = absurd (true≢false (sym changes))
selects_rowids Third changes = absurd (true≢false (sym changes))
selects_rowids t changes = record { query = refl; select = λ rest others views. record { is = refl; unlisted = refl; plain = (refl, refl); low = λ db. refl; whole = refl; given = refl } }

pub selects_query : (t : Table) (n : ℕ) → n ≤ (shape t).key → IsQuery (select_text t n)
selects_query t n low = query_text (select_text t n) (selects t n low).query

pub scan_query : (t : Table) → IsQuery (scan_text t)
scan_query t = query_text (scan_text t) (scans t).query

pub reference_query : (r : Reference) → IsQuery (select_by_reference_text r)
reference_query r = query_text (select_by_reference_text r) (selects_by_reference r).query

pub rowids_query : (t : Table) → changes_rows t ≡ true → IsQuery (select_rowids_text t)
rowids_query t changes = query_text (select_rowids_text t) (selects_rowids t changes).query
