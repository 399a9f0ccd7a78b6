-- The effect of each write on the tables of a state.
use Rattle.std.proofs.Common.{◌≡◌, ℕ, pos, List, [], ◌∷◌, ◌++◌, map, fold, not, cond, refl, sym, ap, ◌∙◌, subst}
use Rattle.std.specs.Ordering.{is_eq}
use Rattle.std.specs.List.{filter}
use Rattle.std.specs.List.Sorted.{IsPermutation}
use Rattle.std.proofs.lemmas.List.Sorted.{IsPermutation-refl, IsPermutation-sym, IsPermutation-trans, IsPermutation-map, IsPermutation-middle, IsPermutation-append_right}
use Rattle.std.proofs.lemmas.List.{map-append}
use Rattle.std.specs.declared.cmp.Ordering.{Ordering}
use Rattle.sqlite.specs.declared.types.Value.TheVariants.{Int}
use Rattle.sqlite.specs.Order.{Row}
use Rattle.register.specs.declared.phase.Phase.{Phase}
use Rattle.register.specs.Phases.{phase_number}
use Rattle.register.specs.Offices.{WardEntry, CandidateEntry, BatchEntry, ThirdEntry, KeyedEntry, JudgedEntry, LotEntry, ReceiptEntry, OfficeState, empty_office, put, put_each, without}
use Rattle.register.specs.Offices.{changed, ward_cmp, candidate_cmp, batch_cmp, third_cmp, keyed_cmp, judged_cmp, lot_cmp, receipt_cmp, ward_compared, candidate_compared, batch_compared}
use Rattle.register.specs.Effects.{ward_added, ward_moved, candidate_added, candidate_withdrawn, batch_added, batch_reopened, third_set, papers_keyed}
use Rattle.register.specs.Effects.{paper_judged, stage_counted, lot_drawn, in_phase, at_stage, in_round, with_effect, with_receipt}
use Rattle.register.specs.declared.tabulations.PlacedBundle.{PlacedBundle}
use Rattle.register.specs.declared.tabulations.StageFigure.{StageFigure}
use Rattle.register.specs.Tabulated.{PlacedEntry, TabulationEntries, tabulation_of, placed_cmp, moved_to, placed_entry, figure_entry}
use Rattle.register.proofs.MapLemmas.{put_same}
use Rattle.tables.specs.declared.table.Table.{Table}
use Rattle.tables.specs.declared.table.Table.TheVariants.{Office, Ward, Candidate, Batch, Keying, Verdict, Lot, Receipt, Bundle, Vote, Third}
use Rattle.tables.specs.declared.table.SettableColumn.TheVariants.{PhaseOfWard, DoneOfWard, RoundOfBatch}
use Rattle.tables.specs.Rows.{has_key, value_set, with_value}
use Rattle.tables.specs.Contents.{Contents, SameContents, added, added_all, replaced_all, value_put, removed}
use Rattle.tables.specs.Making.{no_contents}
use Rattle.store.specs.EntryRows.{this_version, office_row, row_of_ward, row_of_candidate, row_of_batch, row_of_third}
use Rattle.store.specs.EntryRows.{row_of_keyed, row_of_judged, row_of_lot, row_of_receipt, row_of_placed, row_of_figure}
use Rattle.store.specs.StateTables.{tables_of, tables_with}
use Rattle.tables.proofs.ListLemmas.{mapped_twice}
use Rattle.tables.proofs.OrderLemmas.{key_of_number, key_of_two_numbers, key_of_number_and_bytes}
use Rattle.tables.proofs.ChangeLemmas.{rows_set, removed_rows, all_replaced, replaced_all_there, replaced_each}
use Rattle.tables.proofs.SameLemmas.{same_then, same_added_all, filled_changed}

-- ---- the rows of each table

abbrev office_rows : Table × List Row
office_rows = (Office, office_row this_version ∷ [])

abbrev ward_rows : OfficeState → Table × List Row
ward_rows s = (Ward, map row_of_ward s.wards)

abbrev candidate_rows : OfficeState → Table × List Row
candidate_rows s = (Candidate, map row_of_candidate s.candidates)

abbrev batch_rows : OfficeState → Table × List Row
batch_rows s = (Batch, map row_of_batch s.batches)

abbrev keying_rows : OfficeState → Table × List Row
keying_rows s = (Keying, map row_of_keyed s.keyings)

abbrev verdict_rows : OfficeState → Table × List Row
verdict_rows s = (Verdict, map row_of_judged s.verdicts)

abbrev lot_rows : OfficeState → Table × List Row
lot_rows s = (Lot, map row_of_lot s.lots)

abbrev receipt_rows : OfficeState → Table × List Row
receipt_rows s = (Receipt, map row_of_receipt s.receipts)

abbrev bundle_rows : TabulationEntries → Table × List Row
bundle_rows t = (Bundle, map row_of_placed t.bundles)

abbrev vote_rows : TabulationEntries → Table × List Row
vote_rows t = (Vote, map row_of_figure t.figures)

abbrev third_rows : OfficeState → Table × List Row
third_rows s = (Third, map row_of_third s.thirds)

equal_rows : (rows news : List Row) → rows ≡ news → IsPermutation rows news
equal_rows rows news same = subst (IsPermutation rows) same (IsPermutation-refl rows)

-- ---- wards

-- adding a ward
pub ward_put : (s : OfficeState) (t : TabulationEntries) (w : WardEntry) → SameContents (added Ward (row_of_ward w) (tables_with s t)) (tables_with (with_effect (ward_added w) s) t)
unfolding added tables_with
ward_put s t w = filled_changed (office_rows ∷ []) Ward (map row_of_ward s.wards) (map row_of_ward (put ward_cmp w s.wards))
    (candidate_rows s ∷ batch_rows s ∷ keying_rows s ∷ verdict_rows s ∷ lot_rows s ∷ receipt_rows s ∷ bundle_rows t ∷ vote_rows t ∷ third_rows s ∷ []) (λ rows. row_of_ward w ∷ rows) refl
    (IsPermutation-map row_of_ward (w ∷ s.wards) (put ward_cmp w s.wards) (put_same ward_cmp w s.wards))

-- setting a ward's phase
pub phase_put : (s : OfficeState) (t : TabulationEntries) (number : ℕ) (phase : Phase)
    → SameContents (value_put PhaseOfWard (Int (pos number) ∷ Int (pos (phase_number phase)) ∷ []) (tables_with s t)) (tables_with (with_effect (ward_moved number phase) s) t)
unfolding value_put tables_with
phase_put s t number phase =
    let values : Row = Int (pos number) ∷ Int (pos (phase_number phase)) ∷ [] in
    filled_changed (office_rows ∷ []) Ward (map row_of_ward s.wards) (map row_of_ward (changed (ward_compared number) (in_phase phase) s.wards))
    (candidate_rows s ∷ batch_rows s ∷ keying_rows s ∷ verdict_rows s ∷ lot_rows s ∷ receipt_rows s ∷ bundle_rows t ∷ vote_rows t ∷ third_rows s ∷ [])
    (map (λ r. cond (has_key Ward values r) (with_value PhaseOfWard (value_set PhaseOfWard values) r) r)) refl
    (equal_rows _ _ (rows_set PhaseOfWard values row_of_ward (λ w. is_eq (ward_compared number w)) (in_phase phase) (λ w. key_of_number number w.number) (λ w. refl) s.wards))

-- setting a ward's number of stages done
pub done_put : (s : OfficeState) (t : TabulationEntries) (number done : ℕ) → SameContents (value_put DoneOfWard (Int (pos number) ∷ Int (pos done) ∷ []) (tables_with s t))
    (tables_with (with_effect (stage_counted number done) s) t)
unfolding value_put tables_with
done_put s t number done =
    let values : Row = Int (pos number) ∷ Int (pos done) ∷ [] in
    filled_changed (office_rows ∷ []) Ward (map row_of_ward s.wards) (map row_of_ward (changed (ward_compared number) (at_stage done) s.wards))
    (candidate_rows s ∷ batch_rows s ∷ keying_rows s ∷ verdict_rows s ∷ lot_rows s ∷ receipt_rows s ∷ bundle_rows t ∷ vote_rows t ∷ third_rows s ∷ [])
    (map (λ r. cond (has_key Ward values r) (with_value DoneOfWard (value_set DoneOfWard values) r) r)) refl
    (equal_rows _ _ (rows_set DoneOfWard values row_of_ward (λ w. is_eq (ward_compared number w)) (at_stage done) (λ w. key_of_number number w.number) (λ w. refl) s.wards))

-- ---- candidates

-- adding a candidate
pub candidate_put : (s : OfficeState) (t : TabulationEntries) (c : CandidateEntry) → SameContents (added Candidate (row_of_candidate c) (tables_with s t))
    (tables_with (with_effect (candidate_added c) s) t)
unfolding added tables_with
candidate_put s t c = filled_changed (office_rows ∷ ward_rows s ∷ []) Candidate (map row_of_candidate s.candidates) (map row_of_candidate (put candidate_cmp c s.candidates))
    (batch_rows s ∷ keying_rows s ∷ verdict_rows s ∷ lot_rows s ∷ receipt_rows s ∷ bundle_rows t ∷ vote_rows t ∷ third_rows s ∷ []) (λ rows. row_of_candidate c ∷ rows) refl
    (IsPermutation-map row_of_candidate (c ∷ s.candidates) (put candidate_cmp c s.candidates) (put_same candidate_cmp c s.candidates))

-- removing a candidate
pub candidate_gone : (s : OfficeState) (t : TabulationEntries) (ward number : ℕ)
    → SameContents (removed Candidate (Int (pos ward) ∷ Int (pos number) ∷ []) (tables_with s t)) (tables_with (with_effect (candidate_withdrawn ward number) s) t)
unfolding removed tables_with
candidate_gone s t ward number =
    let key : Row = Int (pos ward) ∷ Int (pos number) ∷ [] in
    filled_changed (office_rows ∷ ward_rows s ∷ []) Candidate (map row_of_candidate s.candidates) (map row_of_candidate (without (candidate_compared ward number) s.candidates))
    (batch_rows s ∷ keying_rows s ∷ verdict_rows s ∷ lot_rows s ∷ receipt_rows s ∷ bundle_rows t ∷ vote_rows t ∷ third_rows s ∷ [])
    (filter (λ r. not (has_key Candidate key r))) refl
    (equal_rows _ _ (removed_rows Candidate key row_of_candidate (λ c. is_eq (candidate_compared ward number c)) (λ c. key_of_two_numbers ward number c.ward c.number) s.candidates))

-- ---- batches

-- adding a batch
pub batch_put : (s : OfficeState) (t : TabulationEntries) (b : BatchEntry) → SameContents (added Batch (row_of_batch b) (tables_with s t)) (tables_with (with_effect (batch_added b) s) t)
unfolding added tables_with
batch_put s t b =
    filled_changed (office_rows ∷ ward_rows s ∷ candidate_rows s ∷ []) Batch (map row_of_batch s.batches) (map row_of_batch (put batch_cmp b s.batches))
    (keying_rows s ∷ verdict_rows s ∷ lot_rows s ∷ receipt_rows s ∷ bundle_rows t ∷ vote_rows t ∷ third_rows s ∷ []) (λ rows. row_of_batch b ∷ rows) refl
    (IsPermutation-map row_of_batch (b ∷ s.batches) (put batch_cmp b s.batches) (put_same batch_cmp b s.batches))

-- setting a batch's round
pub round_put : (s : OfficeState) (t : TabulationEntries) (number round : ℕ)
    → SameContents (value_put RoundOfBatch (Int (pos number) ∷ Int (pos round) ∷ []) (tables_with s t)) (tables_with (with_effect (batch_reopened number round) s) t)
unfolding value_put tables_with
round_put s t number round =
    let values : Row = Int (pos number) ∷ Int (pos round) ∷ [] in
    filled_changed (office_rows ∷ ward_rows s ∷ candidate_rows s ∷ []) Batch (map row_of_batch s.batches) (map row_of_batch (changed (batch_compared number) (in_round round) s.batches))
    (keying_rows s ∷ verdict_rows s ∷ lot_rows s ∷ receipt_rows s ∷ bundle_rows t ∷ vote_rows t ∷ third_rows s ∷ [])
    (map (λ r. cond (has_key Batch values r) (with_value RoundOfBatch (value_set RoundOfBatch values) r) r)) refl
    (equal_rows _ _ (rows_set RoundOfBatch values row_of_batch (λ b. is_eq (batch_compared number b)) (in_round round) (λ b. key_of_number number b.number) (λ b. refl) s.batches))

-- adding a third clerk
pub third_put : (s : OfficeState) (t : TabulationEntries) (e : ThirdEntry) → SameContents (added Third (row_of_third e) (tables_with s t)) (tables_with (with_effect (third_set e) s) t)
unfolding added tables_with
third_put s t e =
    filled_changed (office_rows ∷ ward_rows s ∷ candidate_rows s ∷ batch_rows s ∷ keying_rows s ∷ verdict_rows s ∷ lot_rows s ∷ receipt_rows s ∷ bundle_rows t ∷ vote_rows t ∷ []) Third
    (map row_of_third s.thirds) (map row_of_third (put third_cmp e s.thirds)) [] (λ rows. row_of_third e ∷ rows) refl
    (IsPermutation-map row_of_third (e ∷ s.thirds) (put third_cmp e s.thirds) (put_same third_cmp e s.thirds))

-- ---- papers

-- inserting entries adds exactly those entries
put_each_same : {X : Type 0} (cmp : X → X → Ordering) (xs ys : List X) → IsPermutation (xs ++ ys) (put_each cmp xs ys)
put_each_same cmp [] ys = IsPermutation-refl ys
put_each_same cmp (x ∷ xs) ys =
    IsPermutation-trans _ _ _ (IsPermutation-sym _ _ (IsPermutation-middle xs x ys))
    (IsPermutation-trans _ _ _ (IsPermutation-append_right xs (x ∷ ys) (put cmp x ys) (put_same cmp x ys)) (put_each_same cmp xs (put cmp x ys)))

-- adding keyed papers
pub papers_put : (s : OfficeState) (t : TabulationEntries) (papers : List KeyedEntry)
    → SameContents (added_all Keying (map row_of_keyed papers) (tables_with s t)) (tables_with (with_effect (papers_keyed papers) s) t)
unfolding added_all tables_with
papers_put s t papers =
    filled_changed (office_rows ∷ ward_rows s ∷ candidate_rows s ∷ batch_rows s ∷ []) Keying (map row_of_keyed s.keyings) (map row_of_keyed (put_each keyed_cmp papers s.keyings))
    (verdict_rows s ∷ lot_rows s ∷ receipt_rows s ∷ bundle_rows t ∷ vote_rows t ∷ third_rows s ∷ [])
    (λ rows. map row_of_keyed papers ++ rows) refl
    (subst (λ rows. IsPermutation rows (map row_of_keyed (put_each keyed_cmp papers s.keyings))) (map-append row_of_keyed papers s.keyings)
    (IsPermutation-map row_of_keyed (papers ++ s.keyings) (put_each keyed_cmp papers s.keyings) (put_each_same keyed_cmp papers s.keyings)))

-- adding a verdict
pub verdict_put : (s : OfficeState) (t : TabulationEntries) (v : JudgedEntry) → SameContents (added Verdict (row_of_judged v) (tables_with s t)) (tables_with (with_effect (paper_judged v) s) t)
unfolding added tables_with
verdict_put s t v =
    filled_changed (office_rows ∷ ward_rows s ∷ candidate_rows s ∷ batch_rows s ∷ keying_rows s ∷ []) Verdict (map row_of_judged s.verdicts)
    (map row_of_judged (put judged_cmp v s.verdicts)) (lot_rows s ∷ receipt_rows s ∷ bundle_rows t ∷ vote_rows t ∷ third_rows s ∷ []) (λ rows. row_of_judged v ∷ rows) refl
    (IsPermutation-map row_of_judged (v ∷ s.verdicts) (put judged_cmp v s.verdicts) (put_same judged_cmp v s.verdicts))

-- ---- lots

-- adding a lot
pub lot_put : (s : OfficeState) (t : TabulationEntries) (l : LotEntry) → SameContents (added Lot (row_of_lot l) (tables_with s t)) (tables_with (with_effect (lot_drawn l) s) t)
unfolding added tables_with
lot_put s t l =
    filled_changed (office_rows ∷ ward_rows s ∷ candidate_rows s ∷ batch_rows s ∷ keying_rows s ∷ verdict_rows s ∷ []) Lot (map row_of_lot s.lots)
    (map row_of_lot (put lot_cmp l s.lots)) (receipt_rows s ∷ bundle_rows t ∷ vote_rows t ∷ third_rows s ∷ []) (λ rows. row_of_lot l ∷ rows) refl
    (IsPermutation-map row_of_lot (l ∷ s.lots) (put lot_cmp l s.lots) (put_same lot_cmp l s.lots))

-- ---- receipts

-- adding a receipt
pub receipt_put : (s : OfficeState) (t : TabulationEntries) (r : ReceiptEntry) → SameContents (added Receipt (row_of_receipt r) (tables_with s t)) (tables_with (with_receipt r s) t)
unfolding added tables_with
receipt_put s t r = filled_changed (office_rows ∷ ward_rows s ∷ candidate_rows s ∷ batch_rows s ∷ keying_rows s ∷ verdict_rows s ∷ lot_rows s ∷ []) Receipt
    (map row_of_receipt s.receipts) (map row_of_receipt (put receipt_cmp r s.receipts)) (bundle_rows t ∷ vote_rows t ∷ third_rows s ∷ []) (λ rows. row_of_receipt r ∷ rows) refl
    (IsPermutation-map row_of_receipt (r ∷ s.receipts) (put receipt_cmp r s.receipts) (put_same receipt_cmp r s.receipts))

-- ---- the tabulation

-- the tables other than those of the tabulation
abbrev state_rows : OfficeState → List (Table × List Row)
state_rows s = office_rows ∷ ward_rows s ∷ candidate_rows s ∷ batch_rows s ∷ keying_rows s ∷ verdict_rows s ∷ lot_rows s ∷ receipt_rows s ∷ []

-- a tabulation with the moved bundles in their new places
abbrev pub with_moved : List PlacedBundle → TabulationEntries → TabulationEntries
with_moved moved t = record t { bundles = fold (λ bundles b. moved_to b bundles) t.bundles (map placed_entry moved) }

-- moving bundles
pub bundles_moved : (s : OfficeState) (t : TabulationEntries) (moved : List PlacedBundle)
    → SameContents (replaced_all Bundle (map (λ b. row_of_placed (placed_entry b)) moved) (tables_with s t)) (tables_with s (with_moved moved t))
unfolding tables_with
bundles_moved s t moved u =
    let entries : List PlacedEntry = map placed_entry moved in
    let after : List PlacedEntry = fold (λ bundles b. moved_to b bundles) t.bundles entries in
    let rows : List Row = map (λ b. row_of_placed (placed_entry b)) moved in
    let made : all_replaced Bundle (map row_of_placed t.bundles) rows ≡ map row_of_placed after =
    ap (all_replaced Bundle (map row_of_placed t.bundles)) (sym (mapped_twice placed_entry row_of_placed moved))
    ∙ replaced_each Bundle row_of_placed (λ y x. is_eq (placed_cmp y x)) (λ y x. key_of_number_and_bytes y.ward x.ward y.list x.list) entries t.bundles in
    subst (λ l. IsPermutation l (tables_with s (record t { bundles = after }) u)) (sym (replaced_all_there Bundle rows (tables_with s t) u))
    (filled_changed (state_rows s) Bundle (map row_of_placed t.bundles) (map row_of_placed after) (vote_rows t ∷ third_rows s ∷ []) (λ l. all_replaced Bundle l rows) refl (equal_rows _ _ made) u)

-- the rows of new entries, followed by those of existing ones
rows_before : {V X : Type 0} (entry : V → X) (row : X → Row) (news : List V) (xs : List X) → map (λ v. row (entry v)) news ++ map row xs ≡ map row (map entry news ++ xs)
rows_before entry row news xs = ap (λ l. l ++ map row xs) (sym (mapped_twice entry row news)) ∙ sym (map-append row (map entry news) xs)

-- adding bundles
pub bundles_put : (s : OfficeState) (t : TabulationEntries) (placed : List PlacedBundle)
    → SameContents (added_all Bundle (map (λ b. row_of_placed (placed_entry b)) placed) (tables_with s t)) (tables_with s (record t { bundles = map placed_entry placed ++ t.bundles }))
unfolding added_all tables_with
bundles_put s t placed =
    let rows : List Row = map (λ b. row_of_placed (placed_entry b)) placed in
    filled_changed (state_rows s) Bundle (map row_of_placed t.bundles) (map row_of_placed (map placed_entry placed ++ t.bundles)) (vote_rows t ∷ third_rows s ∷ [])
    (λ l. rows ++ l) refl (equal_rows _ _ (rows_before placed_entry row_of_placed placed t.bundles))

-- adding figures
pub figures_put : (s : OfficeState) (t : TabulationEntries) (figures : List StageFigure)
    → SameContents (added_all Vote (map (λ f. row_of_figure (figure_entry f)) figures) (tables_with s t)) (tables_with s (record t { figures = map figure_entry figures ++ t.figures }))
unfolding added_all tables_with
figures_put s t figures =
    let rows : List Row = map (λ f. row_of_figure (figure_entry f)) figures in
    filled_changed (state_rows s ++ bundle_rows t ∷ []) Vote (map row_of_figure t.figures) (map row_of_figure (map figure_entry figures ++ t.figures))
    (third_rows s ∷ []) (λ l. rows ++ l) refl (equal_rows _ _ (rows_before figure_entry row_of_figure figures t.figures))

-- adding bundles and figures
pub both_put : (s : OfficeState) (t : TabulationEntries) (placed : List PlacedBundle) (figures : List StageFigure)
    → SameContents (added_all Vote (map (λ f. row_of_figure (figure_entry f)) figures) (added_all Bundle (map (λ b. row_of_placed (placed_entry b)) placed) (tables_with s t)))
    (tables_with s (record { bundles = map placed_entry placed ++ t.bundles; figures = map figure_entry figures ++ t.figures }))
both_put s t placed figures =
    same_then _ _ _ (same_added_all Vote _ _ _ (bundles_put s t placed)) (figures_put s (record t { bundles = map placed_entry placed ++ t.bundles }) figures)

-- ---- a new office

-- the office row
pub office_put : SameContents (added Office (office_row this_version) no_contents) (tables_of empty_office)
unfolding added no_contents tables_of tables_with tabulation_of
office_put Office = IsPermutation-refl _
office_put Ward = IsPermutation-refl _
office_put Candidate = IsPermutation-refl _
office_put Batch = IsPermutation-refl _
office_put Keying = IsPermutation-refl _
office_put Verdict = IsPermutation-refl _
office_put Lot = IsPermutation-refl _
office_put Receipt = IsPermutation-refl _
office_put Bundle = IsPermutation-refl _
office_put Vote = IsPermutation-refl _
office_put Third = IsPermutation-refl _
