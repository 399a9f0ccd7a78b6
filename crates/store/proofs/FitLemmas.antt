-- Values that are in range fit the columns of a row, so the row can be read.
use Rattle.std.proofs.Common.{◌≡◌, inl, inr, ℕ, zero, suc, ◌<◌, ◌^◌, List, [], ◌∷◌, map, Bool, true, ◌&&◌, nat_le, refl, arith}
use Rattle.std.specs.Str.{IsAscii}
use Rattle.std.specs.List.{AllByRecursion, list_all}
use Rattle.std.proofs.lemmas.Bool.{and_parts, leb-true}
use Rattle.std.proofs.lemmas.Bool.Decides.{eqb_tells, nat_tests}
use Rattle.std.proofs.lemmas.Str.{IsUtf8-from_is_utf8, IsUtf8-from_ascii}
use Rattle.sqlite.specs.Order.{Row}
use Rattle.votes.specs.Units.{max_seats}
use Rattle.paper.specs.Columns.{max_candidates}
use Rattle.register.specs.Ranges.{is_between, last_ward, last_clerk, last_batch, most_papers, last_round, first_lot_stage, last_lot_stage, is_name, is_id, is_reply, is_id_byte}
use Rattle.register.specs.Offices.{WardEntry, CandidateEntry, BatchEntry, ThirdEntry, KeyedEntry, JudgedEntry, LotEntry, ReceiptEntry, OfficeState}
use Rattle.register.specs.StateConditions.{is_ward, is_candidate, is_batch, is_third, is_keyed_paper, is_judged_paper, is_lot, is_receipt, is_about, IsState}
use Rattle.tables.specs.declared.table.Table.TheVariants.{Ward, Candidate, Batch, Keying, Verdict, Lot, Receipt, Third}
use Rattle.store.specs.EntryRows.{row_of_ward, IsWardRow, row_of_candidate, IsCandidateRow, row_of_batch, IsBatchRow, row_of_third, IsThirdRow}
use Rattle.store.specs.EntryRows.{row_of_keyed, IsKeyedRow, row_of_judged, IsJudgedRow, row_of_lot, IsLotRow, row_of_receipt, IsReceiptRow}
use Rattle.store.specs.StateTables.{tables_of, tables_with}
use Rattle.store.proofs.DoneLemmas.{wards_few}

pub small : (low high n : ℕ) → high < 2 ^ 32 → is_between low high n ≡ true → n < 2 ^ 32
small low high n below h = let upper = leb-true n high (and_parts (nat_le low n) (nat_le n high) h).1 in omega (arith, upper, below)

-- if all elements of a list pass a test that implies a property of their rows, all rows have it
all_passed : {X : Type 0} (p : X → Bool) (P : Row → Type 0) (row : X → Row) → ((x : X) → p x ≡ true → P (row x)) → (xs : List X) → list_all p xs ≡ true → AllByRecursion P (map row xs)
all_passed p P row each [] all = tt
all_passed p P row each (x ∷ xs) all = (each x (and_parts _ _ all).0, all_passed p P row each xs (and_parts _ _ all).1)

-- ---- wards

ward_fits : (w : WardEntry) → is_ward w ≡ true → w.done < 2 ^ 32 → IsWardRow (row_of_ward w)
unfolding is_ward is_name
ward_fits w good few =
    let a = and_parts _ _ good in
    let b = and_parts _ _ a.1 in (
      (w.number, small 1 last_ward w.number (omega arith) a.0, refl),
      (w.seats, small 1 max_seats w.seats (omega arith) b.0, refl),
      (w.phase, refl),
      (w.done, few, refl),
      (w.name, IsUtf8-from_is_utf8 w.name (and_parts _ _ b.1).0, refl),
    )

each_ward_fits : (ws : List WardEntry) → list_all is_ward ws ≡ true → AllByRecursion (λ (w : WardEntry). w.done < 2 ^ 32) ws → AllByRecursion IsWardRow (map row_of_ward ws)
each_ward_fits [] good few = tt
each_ward_fits (w ∷ ws) good few = let both = and_parts _ _ good in (ward_fits w both.0 few.0, each_ward_fits ws both.1 few.1)

-- ---- candidates

candidate_fits : (c : CandidateEntry) → is_candidate c ≡ true → IsCandidateRow (row_of_candidate c)
unfolding is_candidate is_name
candidate_fits c good =
    let a = and_parts _ _ good in
    let b = and_parts _ _ a.1 in (
      (c.ward, small 1 last_ward c.ward (omega arith) a.0, refl),
      (c.number, small 1 max_candidates c.number (omega arith) b.0, refl),
      (c.name, IsUtf8-from_is_utf8 c.name (and_parts _ _ b.1).0, refl),
    )

-- ---- batches and their papers

batch_fits : (b : BatchEntry) → is_batch b ≡ true → IsBatchRow (row_of_batch b)
unfolding is_batch
batch_fits b good =
    let ward = and_parts _ _ good in
    let size = and_parts _ _ ward.1 in
    let first = and_parts _ _ size.1 in
    let second = and_parts _ _ first.1 in
    let round = and_parts _ _ second.1 in (
      (b.number, small 1 last_batch b.number (omega arith) ward.0, refl),
      (b.ward, small 1 last_ward b.ward (omega arith) size.0, refl),
      (b.size, small 1 most_papers b.size (omega arith) first.0, refl),
      (b.first_clerk, small 1 last_clerk b.first_clerk (omega arith) second.0, refl),
      (b.second_clerk, small 1 last_clerk b.second_clerk (omega arith) round.0, refl),
      (b.round, small 1 last_round b.round (omega arith) round.1, refl),
    )

third_fits : (t : ThirdEntry) → is_third t ≡ true → IsThirdRow (row_of_third t)
unfolding is_third
third_fits t good = let both = and_parts _ _ good in ((t.batch, small 1 last_batch t.batch (omega arith) both.0, refl), (t.clerk, small 1 last_clerk t.clerk (omega arith) both.1, refl))

keyed_fits : (k : KeyedEntry) → is_keyed_paper k ≡ true → IsKeyedRow (row_of_keyed k)
unfolding is_keyed_paper
keyed_fits k good =
    let round = and_parts _ _ good in
    let clerk = and_parts _ _ round.1 in
    let paper = and_parts _ _ clerk.1 in
    let marks = and_parts _ _ paper.1 in (
      (k.batch, small 1 last_batch k.batch (omega arith) round.0, refl),
      (k.round, small 1 last_round k.round (omega arith) clerk.0, refl),
      (k.clerk, small 1 last_clerk k.clerk (omega arith) paper.0, refl),
      (k.paper, small 1 most_papers k.paper (omega arith) marks.0, refl),
      (k.marks, IsUtf8-from_is_utf8 k.marks marks.1, refl),
    )

judged_fits : (v : JudgedEntry) → is_judged_paper v ≡ true → IsJudgedRow (row_of_judged v)
unfolding is_judged_paper
judged_fits v good =
    let paper = and_parts _ _ good in
    let code = and_parts _ _ paper.1 in
    let marks = and_parts _ _ code.1 in
    let low = leb-true v.code 5 marks.0 in (
      (v.batch, small 1 last_batch v.batch (omega arith) paper.0, refl),
      (v.paper, small 1 most_papers v.paper (omega arith) code.0, refl),
      (v.code, omega (arith, low), refl),
      (v.marks, IsUtf8-from_is_utf8 v.marks marks.1, refl),
    )

-- ---- lots

lot_fits : (l : LotEntry) → is_lot l ≡ true → IsLotRow (row_of_lot l)
unfolding is_lot
lot_fits l good =
    let stage = and_parts _ _ good in
    let candidate = and_parts _ _ stage.1 in (
      (l.ward, small 1 last_ward l.ward (omega arith) stage.0, refl),
      (l.stage, small first_lot_stage last_lot_stage l.stage (omega arith) candidate.0, refl),
      (l.candidate, small 1 max_candidates l.candidate (omega arith) candidate.1, refl),
    )

-- ---- receipts

byte_small : (b : ℕ) → is_id_byte b ≡ true → b < 128
byte_small b h = grind (arith, nat_tests)

id_ascii : (bs : List ℕ) → list_all is_id_byte bs ≡ true → IsAscii bs
id_ascii [] h i = omega arith
id_ascii (b ∷ bs) h zero = byte_small b (and_parts _ _ h).0
id_ascii (b ∷ bs) h (suc i) = id_ascii bs (and_parts _ _ h).1 i

actor_small : (actor : ℕ) (subject : List ℕ) → is_about actor subject ≡ true → actor < 2 ^ 32
actor_small actor subject h = elim (eqb_tells actor 0) [
  | inl office ↦ let none = office.1 in omega (arith, none)
  | inr other ↦ let clerk = rw other.0 at h in small 1 last_clerk actor (omega arith) (and_parts _ _ clerk).0
]

receipt_fits : (r : ReceiptEntry) → is_receipt r ≡ true → IsReceiptRow (row_of_receipt r)
unfolding is_receipt is_id is_reply
receipt_fits r h =
    let a = and_parts _ _ h in
    let b = and_parts _ _ a.1 in
    let d = and_parts _ _ b.1 in (
      (r.actor, actor_small r.actor r.subject a.0, refl),
      (r.id, IsUtf8-from_ascii r.id (id_ascii r.id (and_parts _ _ d.0).1), refl),
      (r.subject, IsUtf8-from_is_utf8 r.subject b.0, refl),
      (r.reply, IsUtf8-from_is_utf8 r.reply (and_parts _ _ d.1).0, refl),
    )

-- ---- the rows of a state can be read as entries

pub wards_fit : (s : OfficeState) → IsState s → AllByRecursion IsWardRow (tables_of s Ward)
unfolding tables_of tables_with
wards_fit s is = each_ward_fits s.wards (and_parts _ _ is.in_range).0 (wards_few s is)

pub candidates_fit : (s : OfficeState) → IsState s → AllByRecursion IsCandidateRow (tables_of s Candidate)
unfolding tables_of tables_with
candidates_fit s is = all_passed is_candidate IsCandidateRow row_of_candidate candidate_fits s.candidates (and_parts _ _ (and_parts _ _ is.in_range).1).0

-- the batches are in range, and so are the entries of all later tables
beyond_candidates : (s : OfficeState) → IsState s
    → (list_all is_batch s.batches && (list_all is_third s.thirds &&
    (list_all is_keyed_paper s.keyings && (list_all is_judged_paper s.verdicts && (list_all is_lot s.lots && list_all is_receipt s.receipts))))) ≡ true
beyond_candidates s is = (and_parts _ _ (and_parts _ _ is.in_range).1).1

pub batches_fit : (s : OfficeState) → IsState s → AllByRecursion IsBatchRow (tables_of s Batch)
unfolding tables_of tables_with
batches_fit s is = all_passed is_batch IsBatchRow row_of_batch batch_fits s.batches (and_parts _ _ (beyond_candidates s is)).0

beyond_batches : (s : OfficeState) → IsState s → (list_all is_third s.thirds &&
    (list_all is_keyed_paper s.keyings && (list_all is_judged_paper s.verdicts && (list_all is_lot s.lots && list_all is_receipt s.receipts)))) ≡ true
beyond_batches s is = (and_parts _ _ (beyond_candidates s is)).1

pub thirds_fit : (s : OfficeState) → IsState s → AllByRecursion IsThirdRow (tables_of s Third)
unfolding tables_of tables_with
thirds_fit s is = all_passed is_third IsThirdRow row_of_third third_fits s.thirds (and_parts _ _ (beyond_batches s is)).0

beyond_thirds : (s : OfficeState) → IsState s → (list_all is_keyed_paper s.keyings && (list_all is_judged_paper s.verdicts && (list_all is_lot s.lots && list_all is_receipt s.receipts))) ≡ true
beyond_thirds s is = (and_parts _ _ (beyond_batches s is)).1

beyond_keyings : (s : OfficeState) → IsState s → (list_all is_judged_paper s.verdicts && (list_all is_lot s.lots && list_all is_receipt s.receipts)) ≡ true
beyond_keyings s is = (and_parts _ _ (beyond_thirds s is)).1

pub keyings_in_range : (s : OfficeState) → IsState s → list_all is_keyed_paper s.keyings ≡ true
keyings_in_range s is = (and_parts _ _ (beyond_thirds s is)).0

pub keyings_fit : (s : OfficeState) → IsState s → AllByRecursion IsKeyedRow (tables_of s Keying)
unfolding tables_of tables_with
keyings_fit s is = all_passed is_keyed_paper IsKeyedRow row_of_keyed keyed_fits s.keyings (keyings_in_range s is)

pub verdicts_fit : (s : OfficeState) → IsState s → AllByRecursion IsJudgedRow (tables_of s Verdict)
unfolding tables_of tables_with
verdicts_fit s is = all_passed is_judged_paper IsJudgedRow row_of_judged judged_fits s.verdicts (and_parts _ _ (beyond_keyings s is)).0

beyond_verdicts : (s : OfficeState) → IsState s → (list_all is_lot s.lots && list_all is_receipt s.receipts) ≡ true
beyond_verdicts s is = (and_parts _ _ (beyond_keyings s is)).1

pub lots_in_range : (s : OfficeState) → IsState s → list_all is_lot s.lots ≡ true
lots_in_range s is = (and_parts _ _ (beyond_verdicts s is)).0

pub lots_fit : (s : OfficeState) → IsState s → AllByRecursion IsLotRow (tables_of s Lot)
unfolding tables_of tables_with
lots_fit s is = all_passed is_lot IsLotRow row_of_lot lot_fits s.lots (and_parts _ _ (beyond_verdicts s is)).0

pub receipts_fit : (s : OfficeState) → IsState s → AllByRecursion IsReceiptRow (tables_of s Receipt)
unfolding tables_of tables_with
receipts_fit s is = all_passed is_receipt IsReceiptRow row_of_receipt receipt_fits s.receipts (and_parts _ _ (beyond_verdicts s is)).1
