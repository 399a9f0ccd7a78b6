-- The ballots of each ward of a state can be read back.
use Rattle.std.proofs.Common.{◌≡◌, ℕ, ◌≤◌, ◌==◌, ◌&&◌, Bool, true, false, cond, List, [], ◌∷◌, length, map, fold, Some, None, refl, sym, ap, subst, ◌∙◌, arith}
use Rattle.std.specs.List.{AllByRecursion, list_all}
use Rattle.std.specs.List.Sorted.{IsStrictlySortedBy}
use Rattle.std.proofs.lemmas.Bool.{and_parts, ltb-false}
use Rattle.std.proofs.lemmas.List.{length-map}
use Rattle.std.proofs.lemmas.List.Kept.{IsStrictlySortedBy-filter}
use Rattle.votes.specs.Units.{max_papers}
use Rattle.paper.specs.Columns.{IsCandidateSet}
use Rattle.count.specs.Books.{AreRankings}
use Rattle.count.specs.Bundles.{AreBundles, Bundle, bundled, papers_of, with_papers}
use Rattle.count.specs.Law.Contest.{AreForCandidates, In, IsContest}
use Rattle.count.proofs.BundleLemmas.{bundles-with_papers}
use Rattle.count.proofs.OrderLemmas.{bundled-length, lists-from}
use Rattle.sheet.specs.Entries.{SheetEntry}
use Rattle.checker.specs.BallotsRoundTrip.{AreCodes, AreOnce, AreSmall, CanBeReadBack, IsName}
use Rattle.register.specs.Ranges.{is_name, is_seat_number, is_ward_number}
use Rattle.register.specs.Offices.{BatchEntry, CandidateEntry, LotEntry, OfficeState, WardEntry, batch_cmp, candidates_of, lot_cmp, lots_of, ward_at, ward_compared}
use Rattle.register.specs.Marks.{columns_of}
use Rattle.register.specs.Agreement.{batches_of}
use Rattle.register.specs.BatchConditions.{are_rounds_to}
use Rattle.register.specs.Polls.{judgements, piles_of}
use Rattle.register.specs.Elections.{contest_of, election_of, has_count, lot_pair}
use Rattle.register.specs.StateConditions.{IsState, is_batch, is_candidate, is_judged_paper, is_keyed_paper, is_lot, is_receipt, is_third, is_ward, all_in_range}
use Rattle.register.proofs.MapLemmas.{found_passes, kept_all}
use Rattle.register.proofs.ContestLemmas.{columns_are_set, few_among, few_batches, papers_are_rankings, papers_have_some}
use Rattle.office.specs.Sheets.{IsTextual, bundles_shown, candidate_shown, election_shown, lots_shown, shown_with}
use Rattle.sheet_round_trip.proofs.RangeLemmas.{few_rejected, kept_pass, lots_once, lots_small, name_is, names_are}

-- the numbers of the candidates, as shown
pub numbers_shown : (cs : List CandidateEntry) → map (λ (candidate : ℕ × List ℕ). candidate.0) (map candidate_shown cs) ≡ map (λ (c : CandidateEntry). c.number) cs
numbers_shown [] = refl
numbers_shown (c ∷ cs) = ap (λ (ns : List ℕ). c.number ∷ ns) (numbers_shown cs)

-- ---- bundles

-- papers that each rank at least one candidate, without repetition, form bundles
bundles_from : (bs : List Bundle) (papers : List (List ℕ)) → AreBundles bs → AllByRecursion (λ (paper : List ℕ). 1 ≤ length paper) papers → AreRankings papers
    → AreBundles (fold (λ cs paper. with_papers cs paper 1) bs papers)
bundles_from bs [] are some ranked = are
bundles_from bs (paper ∷ papers) are some ranked = bundles_from (with_papers bs paper 1) papers (bundles-with_papers paper 1 bs (omega arith, some.0, ranked.0) are) some.1 ranked.1

election_bundles : (s : OfficeState) (w : WardEntry) → AreBundles (bundled (election_of s w).ballots.papers)
unfolding IsStrictlySortedBy
election_bundles s w =
    let columns : List ℕ = columns_of (candidates_of s w.number) in
    bundles_from [] (election_of s w).ballots.papers (record { rise = tt; each = tt }) (papers_have_some columns (piles_of s w.number))
    (papers_are_rankings columns (piles_of s w.number) (columns_are_set (candidates_of s w.number)))

no_bundles : AreBundles []
unfolding IsStrictlySortedBy
no_bundles = record { rise = tt; each = tt }

lists_of : (P : List ℕ → Type 0) (bs : List Bundle) → AllByRecursion (λ (b : Bundle). P b.0) bs → AllByRecursion P (map (λ (b : Bundle). b.0) bs)
lists_of P [] all = tt
lists_of P (b ∷ bs) all = (all.0, lists_of P bs all.1)

-- the lists of bundles are for candidates if their papers are
bundles_for : (candidates : List ℕ) (papers : List (List ℕ)) → AreForCandidates candidates papers → AreForCandidates candidates (map (λ (b : Bundle). b.0) (bundled papers))
bundles_for candidates papers fair =
    lists_of (λ p. AllByRecursion (λ c. In c candidates) p) (bundled papers) (lists-from (λ p. AllByRecursion (λ c. In c candidates) p) [] papers tt fair)

-- ---- in a state

-- the number of papers taken from a ward's batches is within the limit
few_judged : (s : OfficeState) (columns : List ℕ) (ward : ℕ) → list_all is_batch s.batches ≡ true → list_all (λ b. are_rounds_to s b b.round) s.batches ≡ true → IsStrictlySortedBy batch_cmp s.batches
    → length (judgements columns (piles_of s ward)) ≤ max_papers
few_judged s columns ward fine rounds up =
    let of = λ (b : BatchEntry). b.ward == ward in
    let own = batches_of s ward in
    let good = kept_all is_batch of s.batches fine in
    omega (arith, few_among s columns own good (kept_all (λ b. are_rounds_to s b b.round) of s.batches rounds), few_batches own good (IsStrictlySortedBy-filter batch_cmp of s.batches up))

-- the data of a state that is read back is in range
record InRange (s : OfficeState) : Type 0 where
  wards : list_all is_ward s.wards ≡ true
  candidates : list_all is_candidate s.candidates ≡ true
  batches : list_all is_batch s.batches ≡ true
  lots : list_all is_lot s.lots ≡ true

in_range : (s : OfficeState) → all_in_range s ≡ true → InRange s
in_range s fine =
    let last : Bool = list_all is_lot s.lots && list_all is_receipt s.receipts in
    let verdicts : Bool = list_all is_judged_paper s.verdicts && last in
    let keyings : Bool = list_all is_keyed_paper s.keyings && verdicts in
    let thirds : Bool = list_all is_third s.thirds && keyings in
    let batches : Bool = list_all is_batch s.batches && thirds in
    let candidates : Bool = list_all is_candidate s.candidates && batches in
    let a = and_parts (list_all is_ward s.wards) candidates fine in
    let b = and_parts (list_all is_candidate s.candidates) batches a.1 in
    let c = and_parts (list_all is_batch s.batches) thirds b.1 in
    let d = and_parts (list_all is_third s.thirds) keyings c.1 in
    let f = and_parts (list_all is_keyed_paper s.keyings) verdicts d.1 in
    let g = and_parts (list_all is_judged_paper s.verdicts) last f.1 in
    record { wards = a.0; candidates = b.0; batches = c.0; lots = (and_parts (list_all is_lot s.lots) (list_all is_receipt s.receipts) g.1).0 }

-- a ward of a state, whose texts can be written and whose columns are the numbers of its candidates
module _ (s : OfficeState) (w : WardEntry) (is : IsState s) (there : ward_at s w.number ≡ Some w)
    (columns : columns_of (candidates_of s w.number) ≡ map (λ c. c.number) (candidates_of s w.number)) (textual : IsTextual (election_of s w)) where
  abbrev candidates : List CandidateEntry
  candidates = candidates_of s w.number

  abbrev papers : List (List ℕ)
  papers = (election_of s w).ballots.papers

  abbrev numbers : List ℕ
  numbers = map (λ (candidate : ℕ × List ℕ). candidate.0) (map candidate_shown candidates)

  ranges : InRange s
  ranges = in_range s is.in_range

  names_fine : IsName w.name × AllByRecursion (λ (candidate : ℕ × List ℕ). IsName candidate.1) (map candidate_shown candidates)
  unfolding is_ward
  names_fine =
      let own = found_passes (ward_compared w.number) is_ward w s.wards ranges.wards there in
      let named = and_parts (is_ward_number w.number) (is_seat_number w.seats && is_name w.name) own in
      let name = (and_parts (is_seat_number w.seats) (is_name w.name) named.1).1 in
      (name_is w.name name, names_are candidates (kept_all is_candidate (λ c. c.ward == w.number) s.candidates ranges.candidates))

  lots_fine : AreSmall (map lot_pair (lots_of s w.number)) × AreOnce (map lot_pair (lots_of s w.number))
  lots_fine =
      let of = λ (l : LotEntry). l.ward == w.number in
      let up = IsStrictlySortedBy-filter lot_cmp of s.lots is.rise.lots in
      (lots_small (lots_of s w.number) (kept_all is_lot of s.lots ranges.lots), lots_once w.number (lots_of s w.number) up (kept_pass of s.lots))

  pub own_lots_small : AreSmall (election_of s w).lots
  own_lots_small = lots_fine.0

  pub own_numbers : numbers ≡ columns_of candidates
  own_numbers = numbers_shown candidates ∙ sym columns

  codes_fine : AreCodes (election_of s w).ballots.rejected
  codes_fine =
      let few = few_judged s (columns_of candidates) w.number ranges.batches (and_parts _ _ is.keyed).1 is.rise.batches in
      record { five = refl; fit = few_rejected (judgements (columns_of candidates) (piles_of s w.number)) (1 ∷ 2 ∷ 3 ∷ 4 ∷ 5 ∷ []) few }

  papers_fine : has_count (election_of s w) ≡ true → AreForCandidates numbers (map (λ (b : Bundle). b.0) (bundled papers))
  papers_fine contested =
      let fair : IsContest (contest_of (election_of s w)) = textual.counted contested in
      let own = bundles_for (columns_of candidates) papers fair.for_candidates in
      subst (λ cs. AreForCandidates cs (map (λ (b : Bundle). b.0) (bundled papers))) (sym own_numbers) own

  few_bundled : length (papers_of (bundled papers)) ≤ max_papers
  few_bundled = omega (arith, bundled-length papers, textual.few_papers)

  abbrev shown_by : Bool → SheetEntry
  shown_by b = shown_with (cond b (Some (record { valid = length papers; rejected = (election_of s w).ballots.rejected })) None) (election_of s w)

  -- the ward's ballots can be read back, whether it is contested or uncontested
  pub can_be_read_back : CanBeReadBack (election_shown (election_of s w)) (bundles_shown (election_of s w)) (lots_shown (election_of s w))
  can_be_read_back = go (has_count (election_of s w)) refl
    where
      set : IsCandidateSet numbers
      set = subst IsCandidateSet (sym (numbers_shown candidates)) textual.ascending

      go : (b : Bool) → has_count (election_of s w) ≡ b → CanBeReadBack (shown_by b) (cond b (bundled papers) []) (cond b (election_of s w).lots [])
      go true contested = record {
        number = omega (arith, textual.number);
        some_seats = textual.some_seats;
        seats_in_range = textual.few_seats;
        candidate_set = set;
        name = names_fine.0;
        names = names_fine.1;
        bundles_are = election_bundles s w;
        few_papers = few_bundled;
        for_candidates = papers_fine contested;
        poll = (sym (bundled-length papers), codes_fine);
        lots_small = lots_fine.0;
        lots_once = lots_fine.1;
      }
      go false uncontested = record {
        number = omega (arith, textual.number);
        some_seats = textual.some_seats;
        seats_in_range = textual.few_seats;
        candidate_set = set;
        name = names_fine.0;
        names = names_fine.1;
        bundles_are = no_bundles;
        few_papers = omega arith;
        for_candidates = tt;
        poll = (refl, omega (arith, ltb-false w.seats (length candidates) uncontested, length-map candidates candidate_shown));
        lots_small = tt;
        lots_once = tt;
      }
