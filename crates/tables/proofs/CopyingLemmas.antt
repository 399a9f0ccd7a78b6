-- What is known while a query's rows are copied one at a time.
use Rattle.std.proofs.Common.{◌≡◌, ◌⊎◌, inl, inr, ℕ, List, [], ◌∷◌, ◌++◌, map, true, false, Ok, Err, IsTrue, refl, sym, subst}
use Rattle.std.specs.List.Sorted.{IsPermutation}
use Rattle.sqlite_trees.specs.declared.store.Store.{Ghosts}
use Rattle.sqlite.specs.Order.{Row}
use Rattle.sqlite.specs.Effect.{Database}
use Rattle.sqlite.specs.Given.{HasGiven, HasBegun}
use Rattle.sqlite.specs.Held.{Held, state}
use Rattle.sqlite.specs.State.{HasCleanDisk, Shown, Survives, CommitsShowing}
use Rattle.tables.specs.declared.fault.Fault.{Fault}
use Rattle.tables.specs.declared.table.Table.{Table}
use Rattle.tables.specs.Texts.{scan_text}
use Rattle.tables.specs.Schema.{BeginsTo}
use Rattle.tables.specs.Rows.{at, column_places, tuples}
use Rattle.tables.specs.Contents.{RestsAt}
use Rattle.tables.specs.Reading.{OnlyReads, FailsBy}
use Rattle.tables.specs.Copying.{Copies, FailsToCopy, IsShownAfter, FailsAfter}
use Rattle.tables.proofs.FaultLemmas.{query_cause}
use Rattle.tables.proofs.CauseLemmas.{failed_sooner, fails_later, all_fails}
use Rattle.tables.proofs.ListingLemmas.{if_scanned}
use Rattle.tables.proofs.Queries.{scan_query}
use Rattle.tables.proofs.ReadLemmas.{only_reads_then}
use Rattle.tables.proofs.WalkLemmas.{begun_query, begun_reads}

module _ {S : Type 0} (g : Ghosts S) (old now next : Held S) (was is : List Row) (sql : List ℕ) (params : Row) (given : HasGiven g sql params now was) where
  pub next_given : Copies g now next was is true → HasGiven g sql params next is
  next_given step = subst (HasGiven g sql params next) (sym step.2) (step.1 sql params was given)

  module _ (first : OnlyReads (state g old) (state g now)) (second : OnlyReads (state g now) (state g next)) where
    pub all_shown : HasCleanDisk (state g now) → IsTrue (state g now).is_open → Copies g now next was is false → IsShownAfter g sql params old next is
    all_shown clean is_open end = (now, first, clean, is_open, subst (Shown sql params (state g now) (state g next)) (sym end.1) (end.0 sql params was given))

    pub copy_fails : (f : Fault) → FailsToCopy g now next f → FailsAfter g sql params old next f
    copy_fails f (inl tells) = inr (now, first, second, (tells.0, tells.1, λ _. tells.2 sql params was given))
    copy_fails f (inr memory) = inl memory

module _ {S : Type 0} (g : Ghosts S) (t : Table) (old begun last : Held S) (begin : HasCleanDisk (state g begun) → HasBegun g (scan_text t) [] old begun)
    (survives : Survives (state g old) (state g begun) (CommitsShowing (scan_text t) [] (state g old))) (rest : OnlyReads (state g begun) (state g last))
  where
    start : OnlyReads (state g old) (state g begun)
    start = begun_reads g (scan_text t) [] old begun (scan_query t) begin survives

    given : HasCleanDisk (state g last) → HasGiven g (scan_text t) [] begun []
    given clean = (begun_query g (scan_text t) [] old begun (scan_query t) (begin (rest.clean clean))).0

    pub scan_reads : OnlyReads (state g old) (state g last)
    scan_reads = only_reads_then (state g old) (state g begun) (state g last) start rest

    module _ (clean : HasCleanDisk (state g last)) (db : Database) (begins : BeginsTo t db.schema) (rests : RestsAt db (state g old)) where
      pub all_scanned : (rows : List Row) → ((sql : List ℕ) → (params : Row) → HasGiven g sql params begun [] → IsShownAfter g sql params begun last rows)
          → IsPermutation (map (at (column_places t)) (tuples t db.trees)) rows
      all_scanned rows shows =
          let shown = shows (scan_text t) [] (given clean) in
          let before = only_reads_then (state g old) (state g begun) (state g shown.0) start shown.1 in
          if_scanned {F = Fault} t db begins (state g shown.0) (state g last) (λ (r : List Row). r) (Ok rows) (before.rests shown.2 shown.3 db rests) shown.4

      pub scan_fails : (f : Fault) → ((sql : List ℕ) → (params : Row) → HasGiven g sql params begun [] → FailsAfter g sql params begun last f)
          → FailsBy (state g old) (state g last) f
      scan_fails f fails = go (fails (scan_text t) [] (given clean))
        where
          go : FailsAfter g (scan_text t) [] begun last f → FailsBy (state g old) (state g last) f
          go (inl memory) = inl memory
          go (inr late) =
              let before = only_reads_then (state g old) (state g begun) (state g late.0) start late.1 in
              let mid = late.2.clean clean in
              elim (before.closes mid rests.is_open) [
                | inl is_open ↦ fails_later (state g old) (state g late.0) (state g last) f before late.2 clean
                    (all_fails {X = ℕ} t db begins (state g late.0) (state g last) (Err f) clean (before.rests mid is_open db rests) late.3)
                | inr more ↦ elim (query_cause (scan_text t) [] (state g late.0) (state g last) f late.3) [
                  | inl memory ↦ inl memory
                  | inr store ↦ inr (store, failed_sooner (state g old) (state g late.0) (state g last) late.2.counts (inl more))
                ]
              ]
