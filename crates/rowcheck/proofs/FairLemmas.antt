-- The wards of an office whose rows are in key order, each found by its number; and the office's lots.
use Rattle.std.proofs.Common.{◌≡◌, true, false, List, [], ◌∷◌, map, Some, is_some, refl, ◌∙◌, eq-eqb}
use Rattle.std.specs.List.{AllByRecursion, list_all}
use Rattle.std.specs.List.Sorted.{IsStrictlySortedBy}
use Rattle.std.specs.declared.cmp.Ordering.TheVariants.{Less}
use Rattle.std.specs.Ordering.{nat_cmp, is_eq}
use Rattle.std.specs.Cmp.{unsigned_tied}
use Rattle.std.proofs.lemmas.Bool.{and_parts}
use Rattle.std.proofs.lemmas.List.Folds.{list_all-map}
use Rattle.count.specs.Law.Contest.{IsContest}
use Rattle.register.specs.declared.wards.Ward.{Ward}
use Rattle.register.specs.declared.counts.DrawnLot.{DrawnLot}
use Rattle.register.specs.Offices.{WardEntry, LotEntry, OfficeState, ward_entry, lot_entry, ward_cmp, ward_compared, entry_at, ward_at, candidates_of}
use Rattle.register.specs.Nominations.{is_contested}
use Rattle.register.specs.Elections.{election_of, contest_of, is_counted_right}
use Rattle.register.specs.StateConditions.{is_ward, is_candidate, is_batch, is_third, is_keyed_paper, is_judged_paper, is_lot, is_receipt, all_in_range, all_counted}
use Rattle.register.proofs.MapLemmas.{each_weaker}
use Rattle.rowcheck.specs.declared.rows.Rows.{Rows}
use Rattle.rowcheck.specs.States.{state_of}
use Rattle.rowcheck.specs.Walks.Counts.{IsFair}
use Rattle.rowcheck.proofs.SideBySideLemmas.{below_from, more_differs}

-- if rows are in range, their lots are in range
pub lots_in_range : (s : OfficeState) → all_in_range s ≡ true → list_all is_lot s.lots ≡ true
lots_in_range s in_range =
    let candidates = (and_parts (list_all is_ward s.wards) _ in_range).1 in
    let batches = (and_parts (list_all is_candidate s.candidates) _ candidates).1 in
    let thirds = (and_parts (list_all is_batch s.batches) _ batches).1 in
    let keyings = (and_parts (list_all is_third s.thirds) _ thirds).1 in
    let verdicts = (and_parts (list_all is_keyed_paper s.keyings) _ keyings).1 in
    let lots = (and_parts (list_all is_judged_paper s.verdicts) _ verdicts).1 in
    (and_parts (list_all is_lot s.lots) (list_all is_receipt s.receipts) lots).0

-- a ward is found by its number
abbrev IsFound : List WardEntry → WardEntry → Type 0
IsFound ws w = entry_at (ward_compared w.number) ws ≡ Some w

found_first : (w : WardEntry) (ws : List WardEntry) → IsFound (w ∷ ws) w
found_first w ws = rw (unsigned_tied w.number w.number ∙ eq-eqb w.number w.number refl) refl

-- in a list of wards ordered by number, every ward is found
each_found : (ws : List WardEntry) → IsStrictlySortedBy ward_cmp ws → AllByRecursion (IsFound ws) ws
unfolding IsStrictlySortedBy
each_found [] up = tt
each_found (w ∷ ws) up = (found_first w ws, go ws (each_found ws up.1) up.0)
  where
    go : (vs : List WardEntry) → AllByRecursion (IsFound ws) vs → AllByRecursion (λ v. ward_cmp w v ≡ Less) vs → AllByRecursion (IsFound (w ∷ ws)) vs
    go [] found above = tt
    go (v ∷ vs) found above =
        let later : is_eq (nat_cmp v.number w.number) ≡ false = unsigned_tied v.number w.number ∙ more_differs v.number w.number (below_from w.number v.number above.0) in
        (rw later found.0, go vs found.1 above.1)

each_of : {X Y : Type 0} (P : Y → Type 0) (f : X → Y) (xs : List X) → AllByRecursion P (map f xs) → AllByRecursion (λ x. P (f x)) xs
each_of P f [] all = tt
each_of P f (x ∷ xs) all = (all.0, each_of P f xs all.1)

-- if a count can be held for every contested ward that is found by its number, one can be held for every ward
-- in the rows
pub all_fair : (rows : Rows) → IsStrictlySortedBy ward_cmp (state_of rows).wards
    → ((w : WardEntry) → ward_at (state_of rows) w.number ≡ Some w → is_contested w (candidates_of (state_of rows) w.number) ≡ true → IsContest (contest_of (election_of (state_of rows) w)))
    → AllByRecursion (λ w. IsFair (state_of rows) (ward_entry w)) rows.wards.items
all_fair rows rise fair =
    each_of (IsFair (state_of rows)) ward_entry rows.wards.items (
    each_weaker (IsFound (state_of rows).wards) (IsFair (state_of rows)) (state_of rows).wards (λ w found contested. fair w found contested) (each_found (state_of rows).wards rise)
    )

-- if every lot belongs to an existing ward, the condition on the counts can be checked for each ward in the
-- rows
pub by_ward : (rows : Rows) → list_all (λ (l : DrawnLot). is_some (ward_at (state_of rows) l.ward)) rows.lots.items ≡ true
    → all_counted (state_of rows) ≡ list_all (λ (w : Ward). is_counted_right (election_of (state_of rows) (ward_entry w))) rows.wards.items
unfolding all_counted
by_ward rows placed =
    let s = state_of rows in
    rw (list_all-map (λ (l : LotEntry). is_some (ward_at s l.ward)) lot_entry rows.lots.items, placed)
    (list_all-map (λ (w : WardEntry). is_counted_right (election_of s w)) ward_entry rows.wards.items)
