-- The row with a given key is that of the state's entry with that key.
use Rattle.std.proofs.Common.{◌≡◌, ◌==◌, ◌&&◌, map, ℕ, pos, List, [], ◌∷◌, true, filter, Some, option_map, IfSome, refl, sym, ap, ◌∙◌, nat_cmp, Ordering, Less, Equal, Greater}
use Rattle.std.specs.Option.{option_to_list}
use Rattle.std.specs.Ordering.{ordering_then, is_eq}
use Rattle.std.specs.Cmp.Lexicographic.{slice_cmp}
use Rattle.std.proofs.lemmas.Cmp.{nat_cmp_total, nat_list_cmp_total}
use Rattle.std.proofs.Math.Bool.{and-true}
use Rattle.sqlite_schema.specs.Rules.{equal}
use Rattle.sqlite.specs.Collation.TheVariants.{Binary}
use Rattle.sqlite.specs.Order.{Row}
use Rattle.sqlite.specs.declared.types.Value.TheVariants.{Int, Text}
use Rattle.register.specs.Offices.{OfficeState, KeyedEntry, entry_at, ward_at, candidate_compared, candidate_at, candidates_of, keyed_cmp, batch_compared}
use Rattle.register.specs.Offices.{batch_at, third_compared, third_at, keying_of, judged_compared, verdict_at, verdicts_of, lots_of, receipt_at}
use Rattle.register.specs.Agreement.{batches_of}
use Rattle.register.specs.StateConditions.{IsState}
use Rattle.register.specs.Tabulated.{tabulation_of}
use Rattle.tables.specs.declared.table.Table.TheVariants.{Ward, Candidate, Batch, Keying, Verdict, Lot, Receipt, Bundle, Vote, Third}
use Rattle.tables.specs.declared.table.Reference.TheVariants.{WardOfBatch}
use Rattle.tables.specs.Rows.{begins_with, refers_to}
use Rattle.tables.specs.Reading.{Finds}
use Rattle.store.specs.EntryRows.{row_of_ward, IsWardRow, row_of_candidate, IsCandidateRow, row_of_batch, IsBatchRow, row_of_third, IsThirdRow, row_of_keyed}
use Rattle.store.specs.EntryRows.{IsKeyedRow, row_of_judged, IsJudgedRow, row_of_lot, row_of_receipt, IsReceiptRow, row_of_placed, row_of_figure}
use Rattle.store.specs.Elections.{bundles_at, figures_at}
use Rattle.store.specs.StateTables.{tables_of, tables_with}
use Rattle.store.specs.Overviews.{receipts_of}
use Rattle.tables.proofs.OrderLemmas.{equal-number, key_of_number, key_of_two_numbers, key_of_three_numbers, key_of_number_and_text, same_number, same_three_numbers}
use Rattle.store.proofs.StateLemmas.{tables_rise}
use Rattle.store.proofs.FitLemmas.{wards_fit, candidates_fit, batches_fit, thirds_fit, keyings_fit, verdicts_fit, receipts_fit}
use Rattle.store.proofs.RowLemmas.{listed_as, row_found, found_fits}

-- ---- keys

-- entries that compare as equal to the same key have equal keys
pub numbers_apart : (n a b : ℕ) → nat_cmp n a ≡ Equal → nat_cmp n b ≡ Equal → nat_cmp a b ≡ Equal
numbers_apart n a b first second = sym (nat_cmp_total.congr n a b first) ∙ second

texts_apart : (n a b : List ℕ) → slice_cmp nat_cmp n a ≡ Equal → slice_cmp nat_cmp n b ≡ Equal → slice_cmp nat_cmp a b ≡ Equal
texts_apart n a b first second = sym (nat_list_cmp_total.congr n a b first) ∙ second

both_equal : (a b : Ordering) → ordering_then a b ≡ Equal → (a ≡ Equal) × (b ≡ Equal)
both_equal Equal b h = (refl, h)
both_equal Less b h = absurd cc
both_equal Greater b h = absurd cc

-- filtering by a test that all elements pass removes none
all_kept : {X : Type 0} (xs : List X) → filter (λ x. true) xs ≡ xs
all_kept [] = refl
all_kept (x ∷ xs) = ap (λ l. x ∷ l) (all_kept xs)

-- ---- wards and candidates

pub ward_found : (s : OfficeState) → IsState s → (number : ℕ) → filter (begins_with (Int (pos number) ∷ [])) (tables_of s Ward) ≡ option_to_list (option_map row_of_ward (ward_at s number))
unfolding tables_of tables_with
ward_found s is number =
    row_found row_of_ward (Int (pos number) ∷ []) (λ w. nat_cmp number w.number) (λ w. key_of_number number w.number) (λ a b. numbers_apart number a.number b.number) s.wards is.rise.wards

pub ward_fits : (s : OfficeState) → IsState s → (number : ℕ) → IfSome (option_map row_of_ward (ward_at s number)) IsWardRow
unfolding tables_of tables_with
ward_fits s is number = found_fits IsWardRow row_of_ward _ s.wards (wards_fit s is)

-- all rows of the table are those of all wards, ordered by number
pub all_wards_listed : (s : OfficeState) → IsState s → (rows : List Row) → Finds Ward (begins_with []) (tables_of s) rows → rows ≡ map row_of_ward s.wards
unfolding tables_of tables_with
all_wards_listed s is rows finds =
    listed_as Ward row_of_ward (begins_with []) (λ w. true) (λ w. refl) s.wards (tables_rise s is Ward refl) rows finds.same finds.sorted ∙ ap (map row_of_ward) (all_kept s.wards)

pub candidate_found : (s : OfficeState) → IsState s → (ward number : ℕ)
    → filter (begins_with (Int (pos ward) ∷ Int (pos number) ∷ [])) (tables_of s Candidate) ≡ option_to_list (option_map row_of_candidate (candidate_at s ward number))
unfolding tables_of tables_with
candidate_found s is ward number =
    row_found row_of_candidate (Int (pos ward) ∷ Int (pos number) ∷ []) (candidate_compared ward number) (λ c. key_of_two_numbers ward number c.ward c.number)
    (λ a b first second.
    let f = both_equal (nat_cmp ward a.ward) (nat_cmp number a.number) first in
    let g = both_equal (nat_cmp ward b.ward) (nat_cmp number b.number) second in
    rw (numbers_apart ward a.ward b.ward f.0 g.0) (numbers_apart number a.number b.number f.1 g.1))
    s.candidates is.rise.candidates

pub candidate_fits : (s : OfficeState) → IsState s → (ward number : ℕ) → IfSome (option_map row_of_candidate (candidate_at s ward number)) IsCandidateRow
unfolding tables_of tables_with
candidate_fits s is ward number = found_fits IsCandidateRow row_of_candidate _ s.candidates (candidates_fit s is)

-- the rows that begin with a ward's number are those of its candidates, ordered by number
pub candidates_listed : (s : OfficeState) → IsState s → (ward : ℕ) (rows : List Row) → Finds Candidate (begins_with (Int (pos ward) ∷ [])) (tables_of s) rows
    → rows ≡ map row_of_candidate (candidates_of s ward)
unfolding tables_of tables_with
candidates_listed s is ward rows finds =
    listed_as Candidate row_of_candidate (begins_with (Int (pos ward) ∷ [])) (λ c. c.ward == ward) (λ c. same_number ward c.ward) s.candidates
    (tables_rise s is Candidate refl) rows finds.same finds.sorted

-- ---- batches and their papers

pub batch_found : (s : OfficeState) → IsState s → (number : ℕ) → filter (begins_with (Int (pos number) ∷ [])) (tables_of s Batch) ≡ option_to_list (option_map row_of_batch (batch_at s number))
unfolding tables_of tables_with
batch_found s is number =
    row_found row_of_batch (Int (pos number) ∷ []) (batch_compared number) (λ b. key_of_number number b.number) (λ a b. numbers_apart number a.number b.number) s.batches is.rise.batches

pub batch_fits : (s : OfficeState) → IsState s → (number : ℕ) → IfSome (option_map row_of_batch (batch_at s number)) IsBatchRow
unfolding tables_of tables_with
batch_fits s is number = found_fits IsBatchRow row_of_batch _ s.batches (batches_fit s is)

pub third_found : (s : OfficeState) → IsState s → (batch : ℕ) → filter (begins_with (Int (pos batch) ∷ [])) (tables_of s Third) ≡ option_to_list (option_map row_of_third (third_at s batch))
unfolding tables_of tables_with
third_found s is batch =
    row_found row_of_third (Int (pos batch) ∷ []) (third_compared batch) (λ t. key_of_number batch t.batch) (λ a b. numbers_apart batch a.batch b.batch) s.thirds is.rise.thirds

pub third_fits : (s : OfficeState) → IsState s → (batch : ℕ) → IfSome (option_map row_of_third (third_at s batch)) IsThirdRow
unfolding tables_of tables_with
third_fits s is batch = found_fits IsThirdRow row_of_third _ s.thirds (thirds_fit s is)

-- all rows of the table are those of all batches, ordered by number
pub all_batches_listed : (s : OfficeState) → IsState s → (rows : List Row) → Finds Batch (begins_with []) (tables_of s) rows → rows ≡ map row_of_batch s.batches
unfolding tables_of tables_with
all_batches_listed s is rows finds =
    listed_as Batch row_of_batch (begins_with []) (λ b. true) (λ b. refl) s.batches (tables_rise s is Batch refl) rows finds.same finds.sorted ∙ ap (map row_of_batch) (all_kept s.batches)

-- the rows that refer to a ward are those of its batches, ordered by number
pub batches_listed : (s : OfficeState) → IsState s → (ward : ℕ) (rows : List Row) → Finds Batch (refers_to WardOfBatch (Int (pos ward))) (tables_of s) rows
    → rows ≡ map row_of_batch (batches_of s ward)
unfolding tables_of tables_with
batches_listed s is ward rows finds =
    listed_as Batch row_of_batch (refers_to WardOfBatch (Int (pos ward))) (λ b. b.ward == ward) (λ b. equal-number b.ward ward) s.batches (tables_rise s is Batch refl) rows finds.same finds.sorted

-- the rows that begin with a batch, a round and a clerk are those of the clerk's keying, ordered by paper
pub keying_listed : (s : OfficeState) → IsState s → (batch round clerk : ℕ) (rows : List Row)
    → Finds Keying (begins_with (Int (pos batch) ∷ Int (pos round) ∷ Int (pos clerk) ∷ [])) (tables_of s) rows → rows ≡ map row_of_keyed (keying_of s batch round clerk)
unfolding tables_of tables_with
keying_listed s is batch round clerk rows finds =
    listed_as Keying row_of_keyed (begins_with (Int (pos batch) ∷ Int (pos round) ∷ Int (pos clerk) ∷ [])) (λ k. (k.batch == batch) && ((k.round == round) && (k.clerk == clerk)))
    (λ k. same_three_numbers batch round clerk k.batch k.round k.clerk) s.keyings (tables_rise s is Keying refl) rows finds.same finds.sorted

-- how a keyed paper compares with a given batch, round, clerk and paper number
abbrev pub keyed_compared : ℕ → ℕ → ℕ → ℕ → KeyedEntry → Ordering
keyed_compared batch round clerk paper k = ordering_then (nat_cmp batch k.batch) (ordering_then (nat_cmp round k.round) (ordering_then (nat_cmp clerk k.clerk) (nat_cmp paper k.paper)))

key_of_four_numbers : (a b c d k l m n : ℕ)
    → (equal Binary (Int (pos k)) (Int (pos a)) && (equal Binary (Int (pos l)) (Int (pos b)) && (equal Binary (Int (pos m)) (Int (pos c)) && (equal Binary (Int (pos n)) (Int (pos d)) && true))))
    ≡ is_eq (ordering_then (nat_cmp a k) (ordering_then (nat_cmp b l) (ordering_then (nat_cmp c m) (nat_cmp d n))))
key_of_four_numbers a b c d k l m n =
    ap (λ x. x && (equal Binary (Int (pos l)) (Int (pos b)) && (equal Binary (Int (pos m)) (Int (pos c)) && (equal Binary (Int (pos n)) (Int (pos d)) && true)))) (sym (and-true _) ∙ key_of_number a k)
    ∙ ap (λ x. is_eq (nat_cmp a k) && x) (key_of_three_numbers b c d l m n) ∙ both (nat_cmp a k) (ordering_then (nat_cmp b l) (ordering_then (nat_cmp c m) (nat_cmp d n)))
  where
    both : (x y : Ordering) → (is_eq x && is_eq y) ≡ is_eq (ordering_then x y)
    both Less y = refl
    both Equal y = refl
    both Greater y = refl

pub keyed_found : (s : OfficeState) → IsState s → (batch round clerk paper : ℕ)
    → filter (begins_with (Int (pos batch) ∷ Int (pos round) ∷ Int (pos clerk) ∷ Int (pos paper) ∷ [])) (tables_of s Keying) ≡ option_to_list
    (option_map row_of_keyed (entry_at (keyed_compared batch round clerk paper) s.keyings))
unfolding tables_of tables_with
keyed_found s is batch round clerk paper =
    row_found row_of_keyed (Int (pos batch) ∷ Int (pos round) ∷ Int (pos clerk) ∷ Int (pos paper) ∷ []) (keyed_compared batch round clerk paper)
    (λ k. key_of_four_numbers batch round clerk paper k.batch k.round k.clerk k.paper) apart s.keyings is.rise.keyings
  where
    apart : (a b : KeyedEntry) → keyed_compared batch round clerk paper a ≡ Equal → keyed_compared batch round clerk paper b ≡ Equal → keyed_cmp a b ≡ Equal
    apart a b first second =
        let f = both_equal (nat_cmp batch a.batch) _ first in
        let g = both_equal (nat_cmp batch b.batch) _ second in
        let h = both_equal (nat_cmp round a.round) _ f.1 in
        let i = both_equal (nat_cmp round b.round) _ g.1 in
        let j = both_equal (nat_cmp clerk a.clerk) _ h.1 in
        let k = both_equal (nat_cmp clerk b.clerk) _ i.1 in
        rw (numbers_apart batch a.batch b.batch f.0 g.0, numbers_apart round a.round b.round h.0 i.0, numbers_apart clerk a.clerk b.clerk j.0 k.0) (numbers_apart paper a.paper b.paper j.1 k.1)

pub keyed_fits : (s : OfficeState) → IsState s → (batch round clerk paper : ℕ) → IfSome (option_map row_of_keyed (entry_at (keyed_compared batch round clerk paper) s.keyings)) IsKeyedRow
unfolding tables_of tables_with
keyed_fits s is batch round clerk paper = found_fits IsKeyedRow row_of_keyed _ s.keyings (keyings_fit s is)

pub verdict_found : (s : OfficeState) → IsState s → (batch paper : ℕ)
    → filter (begins_with (Int (pos batch) ∷ Int (pos paper) ∷ [])) (tables_of s Verdict) ≡ option_to_list (option_map row_of_judged (verdict_at s batch paper))
unfolding tables_of tables_with
verdict_found s is batch paper =
    row_found row_of_judged (Int (pos batch) ∷ Int (pos paper) ∷ []) (judged_compared batch paper) (λ v. key_of_two_numbers batch paper v.batch v.paper)
    (λ a b first second.
    let f = both_equal (nat_cmp batch a.batch) (nat_cmp paper a.paper) first in
    let g = both_equal (nat_cmp batch b.batch) (nat_cmp paper b.paper) second in
    rw (numbers_apart batch a.batch b.batch f.0 g.0) (numbers_apart paper a.paper b.paper f.1 g.1))
    s.verdicts is.rise.verdicts

pub verdict_fits : (s : OfficeState) → IsState s → (batch paper : ℕ) → IfSome (option_map row_of_judged (verdict_at s batch paper)) IsJudgedRow
unfolding tables_of tables_with
verdict_fits s is batch paper = found_fits IsJudgedRow row_of_judged _ s.verdicts (verdicts_fit s is)

-- the rows that begin with a batch are those of the verdicts on its papers, ordered by paper
pub verdicts_listed : (s : OfficeState) → IsState s → (batch : ℕ) (rows : List Row) → Finds Verdict (begins_with (Int (pos batch) ∷ [])) (tables_of s) rows
    → rows ≡ map row_of_judged (verdicts_of s batch)
unfolding tables_of tables_with
verdicts_listed s is batch rows finds =
    listed_as Verdict row_of_judged (begins_with (Int (pos batch) ∷ [])) (λ v. v.batch == batch) (λ v. same_number batch v.batch) s.verdicts
    (tables_rise s is Verdict refl) rows finds.same finds.sorted

-- ---- lots

-- the rows that begin with a ward are those of the lots for its count, ordered by stage
pub lots_listed : (s : OfficeState) → IsState s → (ward : ℕ) (rows : List Row) → Finds Lot (begins_with (Int (pos ward) ∷ [])) (tables_of s) rows → rows ≡ map row_of_lot (lots_of s ward)
unfolding tables_of tables_with
lots_listed s is ward rows finds =
    listed_as Lot row_of_lot (begins_with (Int (pos ward) ∷ [])) (λ l. l.ward == ward) (λ l. same_number ward l.ward) s.lots (tables_rise s is Lot refl) rows finds.same finds.sorted

-- ---- the tabulation

-- the rows that begin with a ward are those of its bundles, ordered by list
pub bundles_listed : (s : OfficeState) → IsState s → (ward : ℕ) (rows : List Row) → Finds Bundle (begins_with (Int (pos ward) ∷ [])) (tables_of s) rows → rows ≡ map row_of_placed (bundles_at s ward)
unfolding tables_of tables_with
bundles_listed s is ward rows finds =
    listed_as Bundle row_of_placed (begins_with (Int (pos ward) ∷ [])) (λ b. b.ward == ward) (λ b. same_number ward b.ward) (tabulation_of s).bundles
    (tables_rise s is Bundle refl) rows finds.same finds.sorted

-- the rows that begin with a ward are those of its figures, ordered by stage and candidate
pub figures_listed : (s : OfficeState) → IsState s → (ward : ℕ) (rows : List Row) → Finds Vote (begins_with (Int (pos ward) ∷ [])) (tables_of s) rows → rows ≡ map row_of_figure (figures_at s ward)
unfolding tables_of tables_with
figures_listed s is ward rows finds =
    listed_as Vote row_of_figure (begins_with (Int (pos ward) ∷ [])) (λ f. f.ward == ward) (λ f. same_number ward f.ward) (tabulation_of s).figures
    (tables_rise s is Vote refl) rows finds.same finds.sorted

-- ---- receipts

pub receipt_found : (s : OfficeState) → IsState s → (actor : ℕ) (id : List ℕ)
    → filter (begins_with (Int (pos actor) ∷ Text id ∷ [])) (tables_of s Receipt) ≡ option_to_list (option_map row_of_receipt (receipt_at s actor id))
unfolding tables_of tables_with
receipt_found s is actor id =
    row_found row_of_receipt (Int (pos actor) ∷ Text id ∷ []) (λ r. ordering_then (nat_cmp actor r.actor) (slice_cmp nat_cmp id r.id)) (λ r. key_of_number_and_text actor r.actor id r.id)
    (λ a b first second.
    let f = both_equal (nat_cmp actor a.actor) (slice_cmp nat_cmp id a.id) first in
    let g = both_equal (nat_cmp actor b.actor) (slice_cmp nat_cmp id b.id) second in
    rw (numbers_apart actor a.actor b.actor f.0 g.0) (texts_apart id a.id b.id f.1 g.1))
    s.receipts is.rise.receipts

pub receipt_fits : (s : OfficeState) → IsState s → (actor : ℕ) (id : List ℕ) → IfSome (option_map row_of_receipt (receipt_at s actor id)) IsReceiptRow
unfolding tables_of tables_with
receipt_fits s is actor id = found_fits IsReceiptRow row_of_receipt _ s.receipts (receipts_fit s is)

-- all rows of the table are those of all receipts, ordered by actor and id
pub all_receipts_listed : (s : OfficeState) → IsState s → (rows : List Row) → Finds Receipt (begins_with []) (tables_of s) rows → rows ≡ map row_of_receipt s.receipts
unfolding tables_of tables_with
all_receipts_listed s is rows finds =
    listed_as Receipt row_of_receipt (begins_with []) (λ r. true) (λ r. refl) s.receipts (tables_rise s is Receipt refl) rows finds.same finds.sorted ∙ ap (map row_of_receipt) (all_kept s.receipts)

-- the rows that begin with an actor are those of the actor's receipts, ordered by id
pub receipts_listed : (s : OfficeState) → IsState s → (actor : ℕ) (rows : List Row) → Finds Receipt (begins_with (Int (pos actor) ∷ [])) (tables_of s) rows
    → rows ≡ map row_of_receipt (receipts_of s (Some actor))
unfolding tables_of tables_with
receipts_listed s is actor rows finds =
    listed_as Receipt row_of_receipt (begins_with (Int (pos actor) ∷ [])) (λ r. r.actor == actor) (λ r. same_number actor r.actor) s.receipts
    (tables_rise s is Receipt refl) rows finds.same finds.sorted
