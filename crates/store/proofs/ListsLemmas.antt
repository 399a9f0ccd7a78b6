-- The entries that are read, table by table.
use Rattle.std.proofs.Common.{List, [], map, refl, sym, subst, true≢false, ◌≡◌, true, arith, Ordering}
use Rattle.std.specs.List.Sorted.{IsStrictlySortedBy}
use Rattle.sqlite.specs.Order.{Row}
use Rattle.sqlite.specs.Effect.{Database}
use Rattle.register.specs.declared.wards.Ward.{Ward as WardValue}
use Rattle.register.specs.declared.candidates.Candidate.{Candidate as CandidateValue}
use Rattle.register.specs.declared.batches.ThirdClerk.{ThirdClerk}
use Rattle.register.specs.declared.counts.DrawnLot.{DrawnLot}
use Rattle.register.specs.declared.receipt.Receipt.{Receipt as ReceiptValue}
use Rattle.register.specs.declared.tabulations.PlacedBundle.{PlacedBundle}
use Rattle.register.specs.declared.tabulations.StageFigure.{StageFigure}
use Rattle.register.specs.Offices.{OfficeState, MapsAreSorted, third_cmp, ward_entry, candidate_entry, batch_entry, third_entry, keyed_entry, judged_entry, lot_entry, receipt_entry}
use Rattle.register.specs.Tabulated.{TabulationEntries, placed_entry, figure_entry}
use Rattle.tables.specs.declared.table.Table.{Table}
use Rattle.tables.specs.declared.table.Table.TheVariants.{Office, Ward, Candidate, Batch, Keying, Verdict, Lot, Receipt, Bundle, Vote, Third}
use Rattle.tables.specs.Rows.{row_cmp}
use Rattle.tables.specs.Reading.{ListsEntries}
use Rattle.store.specs.declared.listing.Papers.{Papers}
use Rattle.store.specs.EntryRows.{row_of_ward, row_of_candidate, row_of_batch, row_of_third, row_of_keyed, row_of_judged, row_of_lot, row_of_receipt, row_of_placed, row_of_figure}
use Rattle.store.specs.StateTables.{no_tabulation, tables_with}
use Rattle.store.specs.Openings.{has_entries, ListsMaps}
use Rattle.store.specs.Listings.{ListsFirst, ListsPapers, PapersRise}
use Rattle.tables.proofs.ListLemmas.{mapped_twice}
use Rattle.store.proofs.RowLemmas.{entries_rise}
use Rattle.store.proofs.StateLemmas.{maps_rise, thirds_alike}

pub none_rises : (by : Row → Row → Ordering) → IsStrictlySortedBy by []
unfolding IsStrictlySortedBy
none_rises by = tt

module _ (wards : List WardValue) (candidates : List CandidateValue) (papers : Papers) (lots : List DrawnLot) (receipts : List ReceiptValue) where
  -- the maps of the values that were read, without third clerks
  abbrev maps : OfficeState
  maps = record {
    wards = map ward_entry wards;
    candidates = map candidate_entry candidates;
    batches = map batch_entry papers.batches.items;
    thirds = [];
    keyings = map keyed_entry papers.keyings.items;
    verdicts = map judged_entry papers.verdicts.items;
    lots = map lot_entry lots;
    receipts = map receipt_entry receipts;
  }

  pub lists_first : (db : Database) → ListsEntries Ward db (map (λ (w : WardValue). row_of_ward (ward_entry w)) wards)
      → ListsEntries Candidate db (map (λ (c : CandidateValue). row_of_candidate (candidate_entry c)) candidates)
      → ListsPapers db papers → ListsEntries Lot db (map (λ (l : DrawnLot). row_of_lot (lot_entry l)) lots)
      → ListsEntries Receipt db (map (λ (r : ReceiptValue). row_of_receipt (receipt_entry r)) receipts) → ListsFirst 8 db maps no_tabulation
  unfolding tables_with
  lists_first db own standing read drawn kept Ward has low = subst (ListsEntries Ward db) (sym (mapped_twice ward_entry row_of_ward wards)) own
  lists_first db own standing read drawn kept Candidate has low = subst (ListsEntries Candidate db) (sym (mapped_twice candidate_entry row_of_candidate candidates)) standing
  lists_first db own standing read drawn kept Batch has low = subst (ListsEntries Batch db) (sym (mapped_twice batch_entry row_of_batch papers.batches.items)) read.batches
  lists_first db own standing read drawn kept Keying has low = subst (ListsEntries Keying db) (sym (mapped_twice keyed_entry row_of_keyed papers.keyings.items)) read.keyings
  lists_first db own standing read drawn kept Verdict has low = subst (ListsEntries Verdict db) (sym (mapped_twice judged_entry row_of_judged papers.verdicts.items)) read.verdicts
  lists_first db own standing read drawn kept Lot has low = subst (ListsEntries Lot db) (sym (mapped_twice lot_entry row_of_lot lots)) drawn
  lists_first db own standing read drawn kept Receipt has low = subst (ListsEntries Receipt db) (sym (mapped_twice receipt_entry row_of_receipt receipts)) kept
  lists_first db own standing read drawn kept Bundle has low = absurd (omega (arith, low))
  lists_first db own standing read drawn kept Vote has low = absurd (omega (arith, low))
  lists_first db own standing read drawn kept Third has low = absurd (omega (arith, low))
  lists_first db own standing read drawn kept Office has low = absurd (true≢false (sym has))

  pub first_rise : IsStrictlySortedBy (row_cmp Ward) (map (λ (w : WardValue). row_of_ward (ward_entry w)) wards)
      → IsStrictlySortedBy (row_cmp Candidate) (map (λ (c : CandidateValue). row_of_candidate (candidate_entry c)) candidates)
      → PapersRise papers → IsStrictlySortedBy (row_cmp Lot) (map (λ (l : DrawnLot). row_of_lot (lot_entry l)) lots)
      → IsStrictlySortedBy (row_cmp Receipt) (map (λ (r : ReceiptValue). row_of_receipt (receipt_entry r)) receipts) → MapsAreSorted maps
  unfolding tables_with
  first_rise own standing read drawn kept = maps_rise maps no_tabulation each
    where
      each : (t : Table) → has_entries t ≡ true → IsStrictlySortedBy (row_cmp t) (tables_with maps no_tabulation t)
      each Ward has = subst (IsStrictlySortedBy (row_cmp Ward)) (sym (mapped_twice ward_entry row_of_ward wards)) own
      each Candidate has = subst (IsStrictlySortedBy (row_cmp Candidate)) (sym (mapped_twice candidate_entry row_of_candidate candidates)) standing
      each Batch has = subst (IsStrictlySortedBy (row_cmp Batch)) (sym (mapped_twice batch_entry row_of_batch papers.batches.items)) read.batches
      each Keying has = subst (IsStrictlySortedBy (row_cmp Keying)) (sym (mapped_twice keyed_entry row_of_keyed papers.keyings.items)) read.keyings
      each Verdict has = subst (IsStrictlySortedBy (row_cmp Verdict)) (sym (mapped_twice judged_entry row_of_judged papers.verdicts.items)) read.verdicts
      each Lot has = subst (IsStrictlySortedBy (row_cmp Lot)) (sym (mapped_twice lot_entry row_of_lot lots)) drawn
      each Receipt has = subst (IsStrictlySortedBy (row_cmp Receipt)) (sym (mapped_twice receipt_entry row_of_receipt receipts)) kept
      each Bundle has = none_rises (row_cmp Bundle)
      each Vote has = none_rises (row_cmp Vote)
      each Third has = none_rises (row_cmp Third)
      each Office has = absurd (true≢false (sym has))

-- the first tables, and the tables of the tabulation
pub lists_counted : (db : Database) (s : OfficeState) (t : TabulationEntries) (bundles : List PlacedBundle) (figures : List StageFigure) → ListsFirst 8 db s t
    → ListsEntries Bundle db (map (λ (b : PlacedBundle). row_of_placed (placed_entry b)) bundles)
    → ListsEntries Vote db (map (λ (f : StageFigure). row_of_figure (figure_entry f)) figures) → ListsFirst 10 db s (record { bundles = map placed_entry bundles; figures = map figure_entry figures })
unfolding tables_with
lists_counted db s t bundles figures first placed shown Ward has low = first Ward refl (omega arith)
lists_counted db s t bundles figures first placed shown Candidate has low = first Candidate refl (omega arith)
lists_counted db s t bundles figures first placed shown Batch has low = first Batch refl (omega arith)
lists_counted db s t bundles figures first placed shown Keying has low = first Keying refl (omega arith)
lists_counted db s t bundles figures first placed shown Verdict has low = first Verdict refl (omega arith)
lists_counted db s t bundles figures first placed shown Lot has low = first Lot refl (omega arith)
lists_counted db s t bundles figures first placed shown Receipt has low = first Receipt refl (omega arith)
lists_counted db s t bundles figures first placed shown Bundle has low = subst (ListsEntries Bundle db) (sym (mapped_twice placed_entry row_of_placed bundles)) placed
lists_counted db s t bundles figures first placed shown Vote has low = subst (ListsEntries Vote db) (sym (mapped_twice figure_entry row_of_figure figures)) shown
lists_counted db s t bundles figures first placed shown Third has low = absurd (omega (arith, low))
lists_counted db s t bundles figures first placed shown Office has low = absurd (true≢false (sym has))

-- those maps with the third clerks that were read
abbrev with_thirds : List ThirdClerk → OfficeState → OfficeState
with_thirds thirds s = record s { thirds = map third_entry thirds }

-- the tables listed so far, and that of third clerks
pub lists_maps : (db : Database) (s : OfficeState) (t : TabulationEntries) (thirds : List ThirdClerk) → ListsFirst 10 db s t
    → ListsEntries Third db (map (λ (x : ThirdClerk). row_of_third (third_entry x)) thirds) → ListsMaps db (with_thirds thirds s) t
unfolding tables_with
lists_maps db s t thirds first second Ward has = first Ward refl (omega arith)
lists_maps db s t thirds first second Candidate has = first Candidate refl (omega arith)
lists_maps db s t thirds first second Batch has = first Batch refl (omega arith)
lists_maps db s t thirds first second Keying has = first Keying refl (omega arith)
lists_maps db s t thirds first second Verdict has = first Verdict refl (omega arith)
lists_maps db s t thirds first second Lot has = first Lot refl (omega arith)
lists_maps db s t thirds first second Receipt has = first Receipt refl (omega arith)
lists_maps db s t thirds first second Bundle has = first Bundle refl (omega arith)
lists_maps db s t thirds first second Vote has = first Vote refl (omega arith)
lists_maps db s t thirds first second Third has = subst (ListsEntries Third db) (sym (mapped_twice third_entry row_of_third thirds)) second
lists_maps db s t thirds first second Office has = absurd (true≢false (sym has))

pub thirds_rise : (s : OfficeState) (thirds : List ThirdClerk) → MapsAreSorted s → IsStrictlySortedBy (row_cmp Third) (map (λ (x : ThirdClerk). row_of_third (third_entry x)) thirds)
    → MapsAreSorted (with_thirds thirds s)
thirds_rise s thirds rise up = record {
  wards = rise.wards;
  candidates = rise.candidates;
  batches = rise.batches;
  thirds = entries_rise row_of_third (row_cmp Third) third_cmp thirds_alike (map third_entry thirds)
      (subst (IsStrictlySortedBy (row_cmp Third)) (sym (mapped_twice third_entry row_of_third thirds)) up);
  keyings = rise.keyings;
  verdicts = rise.verdicts;
  lots = rise.lots;
  receipts = rise.receipts;
}
