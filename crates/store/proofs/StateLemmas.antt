-- Rows determine their entries, so states with equal tables are equal.
use Rattle.std.proofs.Common.{◌≡◌, ℕ, zero, suc, pos, List, [], Bool, true, false, refl, sym, ap, ◌∙◌, true≢false}
use Rattle.std.specs.List.Sorted.{IsStrictlySortedBy}
use Rattle.sqlite.specs.declared.types.Value.{Value}
use Rattle.sqlite.specs.declared.types.Value.TheVariants.{Int, Text, Blob}
use Rattle.sqlite.specs.Order.{Row, column}
use Rattle.sqlite.specs.Effect.{Database}
use Rattle.register.specs.declared.phase.Phase.{Phase}
use Rattle.register.specs.declared.phase.Phase.TheVariants.{Nominations, Keying as Keyed, Sealed, Declared}
use Rattle.register.specs.Phases.{phase_number}
use Rattle.register.specs.Offices.{WardEntry, CandidateEntry, BatchEntry, ThirdEntry, KeyedEntry, JudgedEntry, LotEntry, ReceiptEntry, OfficeState}
use Rattle.register.specs.Offices.{MapsAreSorted, ward_cmp, candidate_cmp, batch_cmp, third_cmp, keyed_cmp, judged_cmp, lot_cmp, receipt_cmp}
use Rattle.register.specs.StateConditions.{IsState}
use Rattle.register.specs.Tabulated.{PlacedEntry, FigureEntry, TabulationEntries, tabulation_of, placed_cmp, figure_cmp}
use Rattle.register.proofs.TabulatedLemmas.{tabulation_rises}
use Rattle.tables.specs.declared.table.Table.{Table}
use Rattle.tables.specs.declared.table.Table.TheVariants.{Office, Ward, Candidate, Batch, Keying, Verdict, Lot, Receipt, Bundle, Vote, Third}
use Rattle.tables.specs.Rows.{row_cmp}
use Rattle.tables.specs.Contents.{SameContents, IsOffice}
use Rattle.store.specs.EntryRows.{row_of_ward, row_of_candidate, row_of_batch, row_of_third, row_of_keyed, row_of_judged, row_of_lot, row_of_receipt, row_of_placed, row_of_figure}
use Rattle.store.specs.StateTables.{tables_of, tables_with, HoldsState}
use Rattle.store.specs.Openings.{has_entries}
use Rattle.tables.proofs.OrderLemmas.{one_number, two_numbers, three_numbers, four_numbers, number_and_text, number_and_bytes, rows_rise}
use Rattle.tables.proofs.SameLemmas.{one_contents}
use Rattle.store.proofs.RowLemmas.{entries_rise, entries_same}

-- ---- a row determines its entry

abbrev number_in : Value → ℕ
number_in (Int (pos n)) = n
number_in _ = 0

abbrev text_in : Value → List ℕ
text_in (Text t) = t
text_in _ = []

abbrev bytes_in : Value → List ℕ
bytes_in (Blob b) = b
bytes_in _ = []

abbrev phase_of : ℕ → Phase
phase_of (suc (suc zero)) = Keyed
phase_of (suc (suc (suc zero))) = Sealed
phase_of (suc (suc (suc (suc zero)))) = Declared
phase_of _ = Nominations

phase_back : (p : Phase) → phase_of (phase_number p) ≡ p
phase_back Nominations = refl
phase_back Keyed = refl
phase_back Sealed = refl
phase_back Declared = refl

abbrev pub ward_in : Row → WardEntry
ward_in r = record { number = number_in (column r 0); seats = number_in (column r 1); phase = phase_of (number_in (column r 2)); done = number_in (column r 3); name = text_in (column r 4) }

pub ward_back : (w : WardEntry) → ward_in (row_of_ward w) ≡ w
ward_back w = ap (λ p. let x : WardEntry = record { number = w.number; seats = w.seats; phase = p; done = w.done; name = w.name } in x) (phase_back w.phase)

abbrev pub candidate_in : Row → CandidateEntry
candidate_in r = record { ward = number_in (column r 0); number = number_in (column r 1); name = text_in (column r 2) }

pub candidate_back : (c : CandidateEntry) → candidate_in (row_of_candidate c) ≡ c
candidate_back c = refl

abbrev pub batch_in : Row → BatchEntry
batch_in r = record {
  number = number_in (column r 0);
  ward = number_in (column r 1);
  size = number_in (column r 2);
  first_clerk = number_in (column r 3);
  second_clerk
      = number_in (column r 4);
  round = number_in (column r 5);
}

pub batch_back : (b : BatchEntry) → batch_in (row_of_batch b) ≡ b
batch_back b = refl

abbrev pub third_in : Row → ThirdEntry
third_in r = record { batch = number_in (column r 0); clerk = number_in (column r 1) }

pub third_back : (t : ThirdEntry) → third_in (row_of_third t) ≡ t
third_back t = refl

abbrev pub keyed_in : Row → KeyedEntry
keyed_in r = record { batch = number_in (column r 0); round = number_in (column r 1); clerk = number_in (column r 2); paper = number_in (column r 3); marks = text_in (column r 4) }

pub keyed_back : (k : KeyedEntry) → keyed_in (row_of_keyed k) ≡ k
keyed_back k = refl

abbrev pub judged_in : Row → JudgedEntry
judged_in r = record { batch = number_in (column r 0); paper = number_in (column r 1); code = number_in (column r 2); marks = text_in (column r 3) }

pub judged_back : (j : JudgedEntry) → judged_in (row_of_judged j) ≡ j
judged_back j = refl

abbrev pub lot_in : Row → LotEntry
lot_in r = record { ward = number_in (column r 0); stage = number_in (column r 1); candidate = number_in (column r 2) }

pub lot_back : (l : LotEntry) → lot_in (row_of_lot l) ≡ l
lot_back l = refl

abbrev pub receipt_in : Row → ReceiptEntry
receipt_in r = record { actor = number_in (column r 0); id = text_in (column r 1); subject = text_in (column r 2); reply = text_in (column r 3) }

pub receipt_back : (r : ReceiptEntry) → receipt_in (row_of_receipt r) ≡ r
receipt_back r = refl

abbrev pub bundle_in : Row → PlacedEntry
bundle_in r = record { ward = number_in (column r 0); list = bytes_in (column r 1); papers = number_in (column r 2); holder = number_in (column r 3); value = number_in (column r 4) }

pub bundle_back : (b : PlacedEntry) → bundle_in (row_of_placed b) ≡ b
bundle_back b = refl

abbrev pub figure_in : Row → FigureEntry
figure_in r = record { ward = number_in (column r 0); stage = number_in (column r 1); candidate = number_in (column r 2); units = number_in (column r 3); mark = number_in (column r 4) }

pub figure_back : (f : FigureEntry) → figure_in (row_of_figure f) ≡ f
figure_back f = refl

-- ---- the order of the keys

wards_alike : (a b : WardEntry) → row_cmp Ward (row_of_ward a) (row_of_ward b) ≡ ward_cmp a b
wards_alike a b = one_number a.number b.number

candidates_alike : (a b : CandidateEntry) → row_cmp Candidate (row_of_candidate a) (row_of_candidate b) ≡ candidate_cmp a b
candidates_alike a b = two_numbers a.ward a.number b.ward b.number

batches_alike : (a b : BatchEntry) → row_cmp Batch (row_of_batch a) (row_of_batch b) ≡ batch_cmp a b
batches_alike a b = one_number a.number b.number

pub thirds_alike : (a b : ThirdEntry) → row_cmp Third (row_of_third a) (row_of_third b) ≡ third_cmp a b
thirds_alike a b = one_number a.batch b.batch

keyings_alike : (a b : KeyedEntry) → row_cmp Keying (row_of_keyed a) (row_of_keyed b) ≡ keyed_cmp a b
keyings_alike a b = four_numbers a.batch a.round a.clerk a.paper b.batch b.round b.clerk b.paper

verdicts_alike : (a b : JudgedEntry) → row_cmp Verdict (row_of_judged a) (row_of_judged b) ≡ judged_cmp a b
verdicts_alike a b = two_numbers a.batch a.paper b.batch b.paper

lots_alike : (a b : LotEntry) → row_cmp Lot (row_of_lot a) (row_of_lot b) ≡ lot_cmp a b
lots_alike a b = two_numbers a.ward a.stage b.ward b.stage

receipts_alike : (a b : ReceiptEntry) → row_cmp Receipt (row_of_receipt a) (row_of_receipt b) ≡ receipt_cmp a b
receipts_alike a b = number_and_text a.actor b.actor a.id b.id

bundles_alike : (a b : PlacedEntry) → row_cmp Bundle (row_of_placed a) (row_of_placed b) ≡ placed_cmp a b
bundles_alike a b = number_and_bytes a.ward b.ward a.list b.list

figures_alike : (a b : FigureEntry) → row_cmp Vote (row_of_figure a) (row_of_figure b) ≡ figure_cmp a b
figures_alike a b = three_numbers a.ward a.stage a.candidate b.ward b.stage b.candidate

-- the tables that represent maps of a state
abbrev has_map : Table → Bool
has_map Office = false
has_map Bundle = false
has_map Vote = false
has_map _ = true

-- if maps are in ascending order, so are their rows
maps_up : (s : OfficeState) (t : TabulationEntries) → MapsAreSorted s → (u : Table) → has_map u ≡ true → IsStrictlySortedBy (row_cmp u) (tables_with s t u)
unfolding tables_with
maps_up s t rise Ward has = rows_rise row_of_ward (row_cmp Ward) ward_cmp wards_alike s.wards rise.wards
maps_up s t rise Candidate has = rows_rise row_of_candidate (row_cmp Candidate) candidate_cmp candidates_alike s.candidates rise.candidates
maps_up s t rise Batch has = rows_rise row_of_batch (row_cmp Batch) batch_cmp batches_alike s.batches rise.batches
maps_up s t rise Third has = rows_rise row_of_third (row_cmp Third) third_cmp thirds_alike s.thirds rise.thirds
maps_up s t rise Keying has = rows_rise row_of_keyed (row_cmp Keying) keyed_cmp keyings_alike s.keyings rise.keyings
maps_up s t rise Verdict has = rows_rise row_of_judged (row_cmp Verdict) judged_cmp verdicts_alike s.verdicts rise.verdicts
maps_up s t rise Lot has = rows_rise row_of_lot (row_cmp Lot) lot_cmp lots_alike s.lots rise.lots
maps_up s t rise Receipt has = rows_rise row_of_receipt (row_cmp Receipt) receipt_cmp receipts_alike s.receipts rise.receipts
maps_up s t rise Office has = absurd (true≢false (sym has))
maps_up s t rise Bundle has = absurd (true≢false (sym has))
maps_up s t rise Vote has = absurd (true≢false (sym has))

-- the rows of a state are in ascending order, and so are those of the tabulation of its counts
pub tables_rise : (s : OfficeState) → IsState s → (u : Table) → has_entries u ≡ true → IsStrictlySortedBy (row_cmp u) (tables_of s u)
unfolding tables_of tables_with
tables_rise s is Bundle has = rows_rise row_of_placed (row_cmp Bundle) placed_cmp bundles_alike (tabulation_of s).bundles (tabulation_rises s is).bundles
tables_rise s is Vote has = rows_rise row_of_figure (row_cmp Vote) figure_cmp figures_alike (tabulation_of s).figures (tabulation_rises s is).figures
tables_rise s is Office has = absurd (true≢false (sym has))
tables_rise s is Ward has = maps_up s (tabulation_of s) is.rise Ward refl
tables_rise s is Candidate has = maps_up s (tabulation_of s) is.rise Candidate refl
tables_rise s is Batch has = maps_up s (tabulation_of s) is.rise Batch refl
tables_rise s is Third has = maps_up s (tabulation_of s) is.rise Third refl
tables_rise s is Keying has = maps_up s (tabulation_of s) is.rise Keying refl
tables_rise s is Verdict has = maps_up s (tabulation_of s) is.rise Verdict refl
tables_rise s is Lot has = maps_up s (tabulation_of s) is.rise Lot refl
tables_rise s is Receipt has = maps_up s (tabulation_of s) is.rise Receipt refl

-- maps are in ascending order if their rows are
pub maps_rise : (s : OfficeState) (t : TabulationEntries) → ((u : Table) → has_entries u ≡ true → IsStrictlySortedBy (row_cmp u) (tables_with s t u)) → MapsAreSorted s
unfolding tables_with
maps_rise s t each = record {
  wards = entries_rise row_of_ward (row_cmp Ward) ward_cmp wards_alike s.wards (each Ward refl);
  candidates = entries_rise row_of_candidate (row_cmp Candidate) candidate_cmp candidates_alike s.candidates (each Candidate refl);
  batches = entries_rise row_of_batch (row_cmp Batch) batch_cmp batches_alike s.batches (each Batch refl);
  thirds = entries_rise row_of_third (row_cmp Third) third_cmp thirds_alike s.thirds (each Third refl);
  keyings = entries_rise row_of_keyed (row_cmp Keying) keyed_cmp keyings_alike s.keyings (each Keying refl);
  verdicts = entries_rise row_of_judged (row_cmp Verdict) judged_cmp verdicts_alike s.verdicts (each Verdict refl);
  lots = entries_rise row_of_lot (row_cmp Lot) lot_cmp lots_alike s.lots (each Lot refl);
  receipts = entries_rise row_of_receipt (row_cmp Receipt) receipt_cmp receipts_alike s.receipts (each Receipt refl);
}

-- ---- states

-- maps in ascending order with the same rows are equal, whichever tabulation accompanies them
pub equal_maps : (s x : OfficeState) (t u : TabulationEntries) → MapsAreSorted s → MapsAreSorted x → SameContents (tables_with s t) (tables_with x u) → s ≡ x
unfolding tables_with
equal_maps s x t u rise also same =
    let wards = entries_same Ward row_of_ward ward_in ward_back s.wards x.wards (maps_up s t rise Ward refl) (maps_up x u also Ward refl) (same Ward) in
    let candidates = entries_same Candidate row_of_candidate candidate_in candidate_back s.candidates x.candidates (maps_up s t rise Candidate refl)
    (maps_up x u also Candidate refl) (same Candidate) in
    let batches = entries_same Batch row_of_batch batch_in batch_back s.batches x.batches (maps_up s t rise Batch refl) (maps_up x u also Batch refl) (same Batch) in
    let thirds = entries_same Third row_of_third third_in third_back s.thirds x.thirds (maps_up s t rise Third refl) (maps_up x u also Third refl) (same Third) in
    let keyings = entries_same Keying row_of_keyed keyed_in keyed_back s.keyings x.keyings (maps_up s t rise Keying refl) (maps_up x u also Keying refl) (same Keying) in
    let verdicts = entries_same Verdict row_of_judged judged_in judged_back s.verdicts x.verdicts (maps_up s t rise Verdict refl) (maps_up x u also Verdict refl) (same Verdict) in
    let lots = entries_same Lot row_of_lot lot_in lot_back s.lots x.lots (maps_up s t rise Lot refl) (maps_up x u also Lot refl) (same Lot) in
    let receipts = entries_same Receipt row_of_receipt receipt_in receipt_back s.receipts x.receipts (maps_up s t rise Receipt refl) (maps_up x u also Receipt refl) (same Receipt) in
    ap (λ l. record s { wards = l }) wards
    ∙ ap (λ l. record s { wards = x.wards; candidates = l }) candidates
    ∙ ap (λ l. record s { wards = x.wards; candidates = x.candidates; batches = l }) batches
    ∙ ap (λ l. record s { wards = x.wards; candidates = x.candidates; batches = x.batches; thirds = l }) thirds
    ∙ ap (λ l. record x { keyings = l; verdicts = s.verdicts; lots = s.lots; receipts = s.receipts }) keyings
    ∙ ap (λ l. record x { verdicts = l; lots = s.lots; receipts = s.receipts }) verdicts
    ∙ ap (λ l. record x { lots = l; receipts = s.receipts }) lots
    ∙ ap (λ l. record x { receipts = l }) receipts

-- states with the same tables are equal
pub equal_states : (s t : OfficeState) → IsState s → IsState t → SameContents (tables_of s) (tables_of t) → s ≡ t
unfolding tables_of
equal_states s t is also same = equal_maps s t (tabulation_of s) (tabulation_of t) is.rise also.rise same

-- a database represents at most one state
pub one_state : (db : Database) (s t : OfficeState) → HoldsState db s → HoldsState db t → s ≡ t
unfolding IsOffice
one_state db s t first second = equal_states s t first.is second.is (one_contents (tables_of s) (tables_of t) db.trees first.office.holds second.office.holds)

-- if the rows of a tabulation are in ascending order and equal those of a state, it is the tabulation of the state's counts
pub tabulated_same : (s x : OfficeState) (t : TabulationEntries) → IsState x → ((u : Table) → has_entries u ≡ true → IsStrictlySortedBy (row_cmp u) (tables_with s t u))
    → SameContents (tables_of x) (tables_with s t) → t ≡ tabulation_of x
unfolding tables_of tables_with
tabulated_same s x t is each same =
    let bundles = entries_same Bundle row_of_placed bundle_in bundle_back (tabulation_of x).bundles t.bundles (tables_rise x is Bundle refl) (each Bundle refl) (same Bundle) in
    let figures = entries_same Vote row_of_figure figure_in figure_back (tabulation_of x).figures t.figures (tables_rise x is Vote refl) (each Vote refl) (same Vote) in
    ap (λ l. record t { bundles = l }) (sym bundles) ∙ ap (λ l. record (tabulation_of x) { figures = l }) (sym figures)
