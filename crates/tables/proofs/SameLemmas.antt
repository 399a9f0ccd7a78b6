-- Contents are determined up to the order of each table's rows.
use Rattle.std.proofs.Common.{List, Bool, not, ◌++◌, ◌∙◌, true, false, ◌==◌, cond, ◌≡◌, ◌≢◌, inl, inr, [], ◌∷◌, refl, ap}
use Rattle.std.specs.List.{list_all}
use Rattle.std.specs.List.Sorted.{IsPermutation}
use Rattle.std.proofs.lemmas.Bool.{and_parts, not-true}
use Rattle.std.proofs.lemmas.List.Sorted.{IsPermutation-refl, IsPermutation-sym, IsPermutation-trans, IsPermutation-cons, IsPermutation-append_right}
use Rattle.sqlite.specs.Order.{Row}
use Rattle.sqlite.specs.Tree.{Trees}
use Rattle.sqlite.specs.Effect.{Database, IsDatabase}
use Rattle.sqlite.specs.State.{State}
use Rattle.tables.specs.declared.table.Table.{Table}
use Rattle.tables.specs.Schema.{place_of, IsOfficeSchema, tree_of}
use Rattle.tables.specs.Rows.{is_row_of}
use Rattle.tables.specs.Making.{no_contents}
use Rattle.tables.proofs.TableLemmas.{which_table}
use Rattle.tables.specs.Contents.{added, added_all, Contents, SameContents, changed, filled, HoldsTable, Holds, IsOffice, Stores, Rests, Sees, Leaves}
use Rattle.tables.proofs.ListLemmas.{permuted_all}

pub same_itself : (c : Contents) → SameContents c c
same_itself c t = IsPermutation-refl (c t)

pub same_back : (c d : Contents) → SameContents c d → SameContents d c
same_back c d same t = IsPermutation-sym (c t) (d t) (same t)

pub same_then : (a b c : Contents) → SameContents a b → SameContents b c → SameContents a c
same_then a b c first second t = IsPermutation-trans (a t) (b t) (c t) (first t) (second t)

-- a change to one table that preserves permutations maps equal contents to equal contents
pub same_changed : (t : Table) (f : List Row → List Row) → ((xs ys : List Row) → IsPermutation xs ys → IsPermutation (f xs) (f ys)) → (c d : Contents) → SameContents c d
    → SameContents (changed t f c) (changed t f d)
same_changed t f each c d same u = go (place_of u == place_of t)
  where
    go : (b : _) → IsPermutation (cond b (f (c u)) (c u)) (cond b (f (d u)) (d u))
    go true = each (c u) (d u) (same u)
    go false = same u

-- ---- one table changed, the others unchanged

-- one table has different rows; no table before it in the list is the same table
pub filled_changed : (front : List (Table × List Row)) (t : Table) (rows news : List Row) (back : List (Table × List Row)) (f : List Row → List Row)
    → list_all (λ (x : Table × List Row). not (place_of x.0 == place_of t)) front ≡ true
    → IsPermutation (f rows) news → SameContents (changed t f (filled (front ++ (t, rows) ∷ back))) (filled (front ++ (t, news) ∷ back))
filled_changed [] t rows news back f apart same u = go (place_of u == place_of t)
  where
    go : (b : Bool) → IsPermutation (cond b (f (cond b rows (filled back u))) (cond b rows (filled back u))) (cond b news (filled back u))
    go true = same
    go false = IsPermutation-refl _
filled_changed (one ∷ front) t rows news back f apart same u = elim (which_table one.0 u) [
  | inl here ↦
      let other : (place_of u == place_of t) ≡ false = ap (λ (x : Table). place_of x == place_of t) here.1 ∙ not-true _ (and_parts _ _ apart).0 in
      rw (other, here.0) (IsPermutation-refl _)
  | inr past ↦ rw past.0 (filled_changed front t rows news back f (and_parts _ _ apart).1 same u)
]

-- ---- what is true of contents is true of the same contents in a different order

holds_table_same : (t : Table) (xs ys : List Row) (trees : Trees) → IsPermutation xs ys → HoldsTable t xs trees → HoldsTable t ys trees
holds_table_same t xs ys trees same h = record {
  same = IsPermutation-trans _ _ _ (IsPermutation-sym xs ys same) h.same;
  keyed = h.keyed;
  typed = permuted_all (is_row_of t) xs ys same h.typed;
}

pub holds_same : (c d : Contents) (trees : Trees) → SameContents c d → Holds c trees → Holds d trees
holds_same c d trees same holds t = holds_table_same t (c t) (d t) trees (same t) (holds t)

pub office_same : (c d : Contents) (db : Database) → SameContents c d → IsOffice c db → IsOffice d db
unfolding IsOffice
office_same c d db same office = record { begins = office.begins; sound = office.sound; holds = holds_same c d db.trees same office.holds }

pub stores_same : (c d : Contents) (trees : Trees) → SameContents c d → Stores c trees → Stores d trees
stores_same c d trees same stores = record { db = stores.db; office = office_same c d stores.db same stores.office; same = stores.same }

pub rests_same : (c d : Contents) (s : State) → SameContents c d → Rests c s → Rests d s
rests_same c d s same rests = record { is_open = rests.is_open; outside = rests.outside; settled = rests.settled; office = office_same c d s.now same rests.office }

pub sees_same : (c d : Contents) (s : State) → SameContents c d → Sees c s → Sees d s
sees_same c d s same sees = record { inside = sees.inside; office = office_same c d s.now same sees.office }

-- contents of one kind always equal contents of another kind, up to the order of rows
pub leaves_same : (P Q : Contents → Type 0) (s : State) → ((c : Contents) → P c → (d : Contents) × Q d × SameContents c d) → Leaves s P → Leaves s Q
leaves_same P Q s each leaves trees may =
    let it = leaves trees may in
    let other = each it.0 it.1 in
    (other.0, other.1, stores_same it.0 other.0 trees other.2 it.2)

-- a database determines its contents
pub one_contents : (c d : Contents) (trees : Trees) → Holds c trees → Holds d trees → SameContents c d
one_contents c d trees first second t = IsPermutation-trans _ _ _ (first t).same (IsPermutation-sym _ _ (second t).same)

-- ---- an office is a sound database with the tables and their rows

pub office_from : (c : Contents) (db : Database) → IsOfficeSchema db.schema → IsDatabase db → Holds c db.trees → IsOffice c db
unfolding IsOffice
office_from c db begins sound holds = record { begins = begins; sound = sound; holds = holds }

pub office_begins : (c : Contents) (db : Database) → IsOffice c db → IsOfficeSchema db.schema
unfolding IsOffice
office_begins c db office = office.begins

pub office_sound : (c : Contents) (db : Database) → IsOffice c db → IsDatabase db
unfolding IsOffice
office_sound c db office = office.sound

pub office_holds : (c : Contents) (db : Database) → IsOffice c db → Holds c db.trees
unfolding IsOffice
office_holds c db office = office.holds

-- ---- adding a row

pub added_there : (t : Table) (row : Row) (c : Contents) → added t row c t ≡ row ∷ c t
unfolding added
added_there t row c = elim (which_table t t) [ inl same ↦ rw same.0 refl | inr other ↦ absurd (other.1 refl) ]

pub added_elsewhere : (t : Table) (row : Row) (c : Contents) (u : Table) → tree_of u ≢ tree_of t → added t row c u ≡ c u
unfolding added
added_elsewhere t row c u apart = elim (which_table t u) [ inl same ↦ absurd (apart (ap tree_of same.1)) | inr other ↦ rw other.0 refl ]

pub same_added : (t : Table) (row : Row) (c d : Contents) → SameContents c d → SameContents (added t row c) (added t row d)
unfolding added
same_added t row c d same = same_changed t (λ rows. row ∷ rows) (λ xs ys h. IsPermutation-cons row xs ys h) c d same

-- ---- adding several rows

pub same_added_all : (t : Table) (news : List Row) (c d : Contents) → SameContents c d → SameContents (added_all t news c) (added_all t news d)
unfolding added_all
same_added_all t news c d same = same_changed t (λ rows. news ++ rows) (λ xs ys h. IsPermutation-append_right news xs ys h) c d same

pub no_rows : (t : Table) → no_contents t ≡ []
unfolding no_contents
no_rows t = refl
