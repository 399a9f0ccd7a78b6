-- The contest of a ward is one to which the rules of the count apply.
use Rattle.std.proofs.Common.{◌≡◌, ℕ, zero, suc, ◌+◌, ◌*◌, ◌<◌, ◌≤◌, ◌==◌, ◌&&◌, ◌||◌, nat_eq, nat_le, Bool, true, false, cond, List, [], ◌∷◌, ◌++◌, length, map, filter, find, fold, Option}
use Rattle.std.proofs.Common.{Some, None, Result, Ok, Err, codes, refl, sym, ap, arith, length-append}
use Rattle.std.specs.List.{AllByRecursion, list_all, list_any, flat_map, zip}
use Rattle.std.specs.Str.{bytes_eq}
use Rattle.std.specs.List.Sorted.{IsStrictlySortedBy}
use Rattle.std.specs.declared.cmp.Ordering.TheVariants.{Less}
use Rattle.std.proofs.lemmas.Bool.{and_parts, leb-true, ltb-true, eqb-true, eq-eqb, or_left, or_right}
use Rattle.std.proofs.lemmas.Cmp.{ranked}
use Rattle.std.proofs.lemmas.List.Kept.{IsStrictlySortedBy-filter}
use Rattle.votes.specs.Units.{max_seats, max_papers}
use Rattle.paper.specs.Columns.{IsCandidateSet, with_column}
use Rattle.paper.specs.Ranking.{IsRanking}
use Rattle.paper.specs.Marking.{Marking, marked_with}
use Rattle.paper.specs.Marking as marking
use Rattle.paper.specs.MarksText.{reading, fields, with_columns, marks_in}
use Rattle.paper.specs.Preferences.{if_alone, preferences_from, preferences, rejection_by, rejection_of}
use Rattle.paper.specs.declared.marked.Keyed.TheVariants.{Doubtful}
use Rattle.paper.specs.declared.marks.MarkFault.TheVariants.{FieldCount}
use Rattle.paper.specs.declared.marks.MarkFault.{MarkFault}
use Rattle.paper.specs.declared.validity.Rejection.{Rejection}
use Rattle.paper.proofs.ColumnSets.{Ascends, columns_from_ascends, ascends_from_columns, with_column-IsCandidateSet}
use Rattle.paper.proofs.Preferences.{preferences-IsRanking}
use Rattle.count.specs.Law.Contest.{In, AreForCandidates, IsContest}
use Rattle.count.specs.Books.{AreRankings}
use Rattle.count.proofs.ContestLemmas.{contest-is}
use Rattle.register.specs.declared.polls.Judgement.{Judgement}
use Rattle.register.specs.declared.polls.Judgement.TheVariants.{Valid, Rejected, Open}
use Rattle.register.specs.Ranges.{is_ward_number, is_seat_number, is_candidate_number, is_name}
use Rattle.register.specs.Offices.{WardEntry, CandidateEntry, BatchEntry, KeyedEntry, JudgedEntry, OfficeState, MapsAreSorted, batch_cmp, ward_compared, ward_at, candidates_of}
use Rattle.register.specs.Nominations.{is_contested}
use Rattle.register.specs.Marks.{and_column, columns_of}
use Rattle.register.specs.Agreement.{same_marks, agreed, keyings_now, batches_of}
use Rattle.register.specs.BatchConditions.{is_whole, is_round_of, are_rounds_to}
use Rattle.register.specs.StateConditions.{is_ward, is_candidate, is_batch, all_in_range, all_given_out, all_keyed}
use Rattle.register.specs.Polls.{Pile, pile_of, piles_of, by_rejection, by_reading, by_verdict, judgement_on, judgements_in, judgements, preferences_by, ballots_in}
use Rattle.register.specs.Elections.{election_of, contest_of}
use Rattle.register.proofs.MapLemmas.{kept_all, found_passes}
use Rattle.register.proofs.KeyedLemmas.{round_at, batch_parts}
use Rattle.register.proofs.LineLemmas.{lower, upper}
use Rattle.register.proofs.WardColumnLemmas.{columns_at}

-- ---- the candidates

columns_set : (columns : List ℕ) (cs : List CandidateEntry) → IsCandidateSet columns → IsCandidateSet (fold and_column columns cs)
columns_set columns [] set = set
columns_set columns (c ∷ cs) set = columns_set (and_column columns c) cs (go (is_candidate_number c.number) refl)
  where
    go : (b : Bool) → is_candidate_number c.number ≡ b → IsCandidateSet (cond b (with_column columns c.number) columns)
    go true is =
        let parts = and_parts _ _ is in
        with_column-IsCandidateSet columns c.number (leb-true 1 c.number parts.0) (leb-true c.number 30 parts.1) set
    go false is = set

-- the columns of any list of candidates are a set of candidate numbers
pub columns_are_set : (cs : List CandidateEntry) → IsCandidateSet (columns_of cs)
columns_are_set cs = columns_set [] cs (columns_from_ascends 0 [] tt)

-- ---- every preference is for a candidate

-- all the given numbers are among the given columns
abbrev AreAmong : List ℕ → List ℕ → Type 0
AreAmong columns cs = AllByRecursion (λ c. In c columns) cs

each_append : {X : Type 0} (P : X → Type 0) (xs ys : List X) → AllByRecursion P xs → AllByRecursion P ys → AllByRecursion P (xs ++ ys)
each_append P [] ys first second = second
each_append P (x ∷ xs) ys first second = (first.0, each_append P xs ys first.1 second)

-- a candidate whose field contains the given number has a column
marked_in : (columns marks : List ℕ) (n c : ℕ) → In c (marked_with n (zip columns marks)) → In c columns
marked_in [] marks n c found = found
marked_in (column ∷ columns) [] n c found = absurd (cc)
marked_in (column ∷ columns) (mark ∷ marks) n c found = by_mark (mark == n) found (marked_in columns marks n c)
  where
    by_head : (h : Bool) → (In c (marked_with n (zip columns marks)) → In c columns) → (h || list_any (nat_eq c) (marked_with n (zip columns marks))) ≡ true → (h || list_any (nat_eq c) columns) ≡ true
    by_head true later is = refl
    by_head false later is = later is

    by_mark : (b : Bool) → In c (map (λ (k : ℕ × ℕ). k.0) (cond b ((column, mark) ∷ filter (λ (k : ℕ × ℕ). k.1 == n) (zip columns marks)) (filter (λ (k : ℕ × ℕ). k.1 == n) (zip columns marks))))
        → (In c (marked_with n (zip columns marks)) → In c columns) → In c (column ∷ columns)
    by_mark true is later = by_head (nat_eq c column) later is
    by_mark false is later = or_right (nat_eq c column) _ (later is)

preferred_in : (columns marks : List ℕ) (most n : ℕ) → AreAmong columns (preferences_from most n (zip columns marks))
unfolding preferences_from
preferred_in columns marks zero n = tt
preferred_in columns marks (suc most) n = go (marked_with n (zip columns marks)) (marked_in columns marks n) (preferred_in columns marks most (n + 1))
  where
    go : (cs : List ℕ) → ((c : ℕ) → In c cs → In c columns) → AreAmong columns (preferences_from most (n + 1) (zip columns marks))
        → AreAmong columns (if_alone cs (preferences_from most (n + 1) (zip columns marks)))
    go [] each behind = tt
    go (c ∷ []) each behind = (each c (or_left (nat_eq c c) false (eq-eqb c c refl)), behind)
    go (c ∷ d ∷ cs) each behind = tt

-- if a property holds for the preferences of all valid marks in the given columns, it holds for the preferences in
-- every judgement
module _ (columns : List ℕ) (P : List ℕ → Type 0) (each : (marks : List ℕ) → rejection_of (zip columns marks) ≡ None → P (preferences (zip columns marks))) where
  abbrev Gives : Judgement → Type 0
  Gives judgement = AllByRecursion P (preferences_by judgement)

  by_marking : (marks : List ℕ) (o : Option Rejection) → rejection_of (zip columns marks) ≡ o → Gives (by_rejection (zip columns marks) o)
  by_marking marks None is = (each marks is, tt)
  by_marking marks (Some rejection) is = tt

  given_reading : (marks : List ℕ) (doubtful : Judgement) → Gives doubtful → Gives (by_reading doubtful (reading columns marks))
  given_reading marks doubtful fair = by_letter (bytes_eq marks (codes "D"))
    where
      by_marks : (r : Result (List ℕ) MarkFault) → Gives (by_reading doubtful (with_columns columns r))
      by_marks (Err fault) = tt
      by_marks (Ok numbers) = by_marking numbers (rejection_of (zip columns numbers)) refl

      by_count : (b : Bool) → Gives (by_reading doubtful (cond b (with_columns columns (marks_in (fields marks))) (Err FieldCount)))
      by_count true = by_marks (marks_in (fields marks))
      by_count false = tt

      by_letter : (b : Bool) → Gives (by_reading doubtful (cond b (Ok Doubtful) (cond (length (fields marks) == length columns) (with_columns columns (marks_in (fields marks))) (Err FieldCount))))
      by_letter true = fair
      by_letter false = by_count (length (fields marks) == length columns)

  given_verdict : (o : Option JudgedEntry) → Gives (by_verdict columns o)
  given_verdict None = tt
  given_verdict (Some v) = go (v.code == 0)
    where
      go : (b : Bool) → Gives (cond b (by_reading Open (reading columns v.marks)) (Rejected v.code))
      go true = given_reading v.marks Open tt
      go false = tt

  given_each : (verdicts : List JudgedEntry) (ks : List KeyedEntry) → AllByRecursion Gives (map (judgement_on columns verdicts) ks)
  given_each verdicts [] = tt
  given_each verdicts (k ∷ ks) = (given_reading k.marks _ (given_verdict (find (λ (v : JudgedEntry). v.paper == k.paper) verdicts)), given_each verdicts ks)

  given_piles : (piles : List Pile) → AllByRecursion Gives (judgements columns piles)
  given_piles [] = tt
  given_piles (pile ∷ piles) = each_append Gives (judgements_in columns pile) (judgements columns piles) (given_each pile.verdicts (agreed pile.keyings)) (given_piles piles)

  given_papers : (js : List Judgement) → AllByRecursion Gives js → AllByRecursion P (flat_map preferences_by js)
  given_papers [] fair = tt
  given_papers (j ∷ js) fair = each_append P (preferences_by j) (flat_map preferences_by js) fair.0 (given_papers js fair.1)

  papers_given : (piles : List Pile) → AllByRecursion P (ballots_in columns piles).papers
  papers_given piles = given_papers (judgements columns piles) (given_piles piles)

-- every preference on a ward's papers is for one of its candidates
pub papers_are_fair : (columns : List ℕ) (piles : List Pile) → AreForCandidates columns (ballots_in columns piles).papers
papers_are_fair columns piles = papers_given columns (AreAmong columns) (λ marks valid. preferred_in columns marks 30 1) piles

-- the columns that have marks are a prefix of the columns
first_columns : (low : ℕ) (columns marks : List ℕ) → Ascends low columns → Ascends low (marking.candidates_of (zip columns marks))
first_columns low [] marks up = tt
first_columns low (column ∷ columns) [] up = tt
first_columns low (column ∷ columns) (mark ∷ marks) up = (up.0, up.1, first_columns column columns marks up.2)

-- each paper ranks candidates without repetition
pub papers_are_rankings : (columns : List ℕ) (piles : List Pile) → IsCandidateSet columns → AreRankings (ballots_in columns piles).papers
papers_are_rankings columns piles set =
    go (ballots_in columns piles).papers (papers_given columns IsRanking
    (λ marks valid. preferences-IsRanking (zip columns marks) (columns_from_ascends 0 _ (first_columns 0 columns marks (ascends_from_columns columns set)))) piles)
  where
    go : (papers : List (List ℕ)) → AllByRecursion IsRanking papers → AreRankings papers
    go [] each = tt
    go (paper ∷ papers) each = (each.0, go papers each.1)

-- each paper has at least one preference
preferred_some : (marking : Marking) → rejection_of marking ≡ None → 1 ≤ length (preferences marking)
unfolding preferences_from
preferred_some marking valid = go (marked_with 1 marking) valid
  where
    go : (cs : List ℕ) → rejection_by cs ≡ None → 1 ≤ length (if_alone cs (preferences_from 29 2 marking))
    go [] is = absurd (cc)
    go (c ∷ []) is = omega arith
    go (c ∷ d ∷ cs) is = absurd (cc)

pub papers_have_some : (columns : List ℕ) (piles : List Pile) → AllByRecursion (λ paper. 1 ≤ length paper) (ballots_in columns piles).papers
papers_have_some columns piles = papers_given columns (λ paper. 1 ≤ length paper) (λ marks valid. preferred_some (zip columns marks) valid) piles

-- ---- the number of papers is within the limit

few_by : (js : List Judgement) → length (flat_map preferences_by js) ≤ length js
few_by [] = omega arith
few_by (j ∷ js) = omega (arith, length-append (preferences_by j) (flat_map preferences_by js), one j, few_by js)
  where
    one : (k : Judgement) → length (preferences_by k) ≤ 1
    one (Valid prefs) = omega arith
    one (Rejected code) = omega arith
    one Open = omega arith

-- a batch has at most as many agreed papers as its size
whole_few : (size : ℕ) (ks : List (List KeyedEntry)) → list_all (is_whole size) ks ≡ true → length (agreed ks) ≤ size
whole_few size [] whole = omega arith
whole_few size (k ∷ ks) whole = elim (list_any (same_marks k) ks) as (λ b. length (cond b k (agreed ks)) ≤ size) [
  | true ↦ (let own = eqb-true (length k) size (and_parts _ _ (and_parts (is_whole size k) (list_all (is_whole size) ks) whole).0).0 in omega (arith, own))
  | false ↦ whole_few size ks (and_parts (is_whole size k) (list_all (is_whole size) ks) whole).1
]

-- the keyings in a batch's current round are complete
pub round_now : (s : OfficeState) (b : BatchEntry) → is_batch b ≡ true → are_rounds_to s b b.round ≡ true → is_round_of s b b.round ≡ true
round_now s b fine rounds = round_at s b b.round (lower 1 99 b.round (batch_parts b fine).round) rounds

size_few : (b : BatchEntry) → is_batch b ≡ true → b.size ≤ 500
size_few b fine = upper 1 500 b.size (batch_parts b fine).size

number_few : (b : BatchEntry) → is_batch b ≡ true → b.number ≤ 9999
number_few b fine = upper 1 9999 b.number (batch_parts b fine).number

number_some : (b : BatchEntry) → is_batch b ≡ true → 0 < b.number
number_some b fine = omega (arith, lower 1 9999 b.number (batch_parts b fine).number)

pub length_map : {X Y : Type 0} (f : X → Y) (xs : List X) → length (map f xs) ≡ length xs
length_map f [] = refl
length_map f (x ∷ xs) = ap suc (length_map f xs)

pub few_among : (s : OfficeState) (columns : List ℕ) (bs : List BatchEntry) → list_all is_batch bs ≡ true → list_all (λ b. are_rounds_to s b b.round) bs ≡ true
    → length (judgements columns (map (pile_of s) bs)) ≤ 500 * length bs
few_among s columns [] fine rounds = omega arith
few_among s columns (b ∷ bs) fine rounds =
    let good = and_parts _ _ fine in
    let all = and_parts _ _ rounds in
    let round = round_now s b good.0 all.0 in
    omega (
      arith,
      length-append (judgements_in columns (pile_of s b)) (judgements columns (map (pile_of s) bs)),
      length_map (judgement_on columns (pile_of s b).verdicts)
          (agreed (keyings_now s b)),
      whole_few b.size (keyings_now s b) (and_parts _ _ round).0,
      size_few b good.0,
      few_among s columns bs good.1 all.1,
    )

-- a list of distinct numbers in ascending order isn't longer than its highest number
few_rising : (low : ℕ) (bs : List BatchEntry) → low ≤ 9999 → AllByRecursion (λ b. low < b.number) bs → list_all is_batch bs ≡ true → IsStrictlySortedBy batch_cmp bs → low + length bs ≤ 9999
unfolding IsStrictlySortedBy
few_rising low [] few above fine up = omega (arith, few)
few_rising low (b ∷ bs) few above fine up =
    let good = and_parts (is_batch b) (list_all is_batch bs) fine in
    omega (arith, above.0, few_rising b.number bs (number_few b good.0) (numbers bs up.0) good.1 up.1)
  where
    numbers : (cs : List BatchEntry) → AllByRecursion (λ c. batch_cmp b c ≡ Less) cs → AllByRecursion (λ c. b.number < c.number) cs
    numbers [] less = tt
    numbers (c ∷ cs) less = (ranked b.number c.number Less (sym less.0), numbers cs less.1)

pub few_batches : (bs : List BatchEntry) → list_all is_batch bs ≡ true → IsStrictlySortedBy batch_cmp bs → length bs ≤ 9999
few_batches bs fine up = omega (arith, few_rising 0 bs (omega arith) (some bs fine) fine up)
  where
    some : (cs : List BatchEntry) → list_all is_batch cs ≡ true → AllByRecursion (λ c. 0 < c.number) cs
    some [] good = tt
    some (c ∷ cs) good = (number_some c (and_parts _ _ good).0, some cs (and_parts _ _ good).1)

-- a ward has at most as many papers as 9999 batches of 500 papers
pub papers_are_few : (s : OfficeState) (columns : List ℕ) (ward : ℕ) → list_all is_batch s.batches ≡ true → list_all (λ b. are_rounds_to s b b.round) s.batches ≡ true
    → IsStrictlySortedBy batch_cmp s.batches
    → length (ballots_in columns (piles_of s ward)).papers ≤ max_papers
papers_are_few s columns ward fine rounds up =
    let of = λ (b : BatchEntry). b.ward == ward in
    let own = batches_of s ward in
    let good = kept_all is_batch of s.batches fine in
    omega (
      arith,
      few_by (judgements columns (piles_of s ward)),
      few_among s columns own good (kept_all (λ b. are_rounds_to s b b.round) of s.batches rounds),
      few_batches own good
          (IsStrictlySortedBy-filter batch_cmp of s.batches up),
    )

-- ---- the contest

-- a ward has at least one seat, and no more seats or papers than the limits allow
pub seats_and_papers_are_few : (s : OfficeState) (w : WardEntry) → all_in_range s ≡ true → all_keyed s ≡ true → MapsAreSorted s → ward_at s w.number ≡ Some w
    → (1 ≤ w.seats) × (w.seats ≤ max_seats) × (length (election_of s w).ballots.papers ≤ max_papers)
unfolding is_ward
seats_and_papers_are_few s w first fourth rise there =
    let wards = and_parts _ _ first in
    let candidates = and_parts _ _ wards.1 in
    let batches = and_parts _ _ candidates.1 in
    let own = found_passes (ward_compared w.number) is_ward w s.wards wards.0 there in
    let named = and_parts (is_ward_number w.number) (is_seat_number w.seats && is_name w.name) own in
    let seated = and_parts (is_seat_number w.seats) (is_name w.name) named.1 in
    let seats = and_parts (nat_le 1 w.seats) (nat_le w.seats 15) seated.0 in
    (leb-true 1 w.seats seats.0, leb-true w.seats 15 seats.1, papers_are_few s (columns_of (candidates_of s w.number)) w.number batches.0 (and_parts _ _ fourth).1 rise.batches)

candidates_are : (s : OfficeState) → all_in_range s ≡ true → list_all is_candidate s.candidates ≡ true
candidates_are s first = (and_parts _ _ (and_parts _ _ first).1).0

-- If numbers are in range, keyings are complete and entries are in key order, every contest is one to which the rules
-- apply.
pub contest_is_fair : (s : OfficeState) (w : WardEntry) → all_in_range s ≡ true → all_keyed s ≡ true → MapsAreSorted s → ward_at s w.number ≡ Some w → is_contested w (candidates_of s w.number) ≡ true
    → IsContest (contest_of (election_of s w))
contest_is_fair s w first fourth rise there contested =
    let cs = candidates_of s w.number in
    let columns = columns_of cs in
    let numbers : columns ≡ map (λ c. c.number) cs = columns_at s w.number (candidates_are s first) rise.candidates in
    let few = seats_and_papers_are_few s w first fourth rise there in
    contest-is
    columns
    w.seats
    (ballots_in columns (piles_of s w.number)).papers
    (columns_are_set cs)
    few.0
    few.1
    (omega (arith, ltb-true w.seats (length cs) contested, ap length numbers, length_map (λ (c : CandidateEntry). c.number) cs))
    few.2
    (papers_are_fair columns (piles_of s w.number))

pub fair_contest : (s : OfficeState) (w : WardEntry) → all_in_range s ≡ true → all_given_out s ≡ true → all_keyed s ≡ true → MapsAreSorted s → ward_at s w.number ≡ Some w
    → is_contested w (candidates_of s w.number) ≡ true → IsContest (contest_of (election_of s w))
fair_contest s w first third fourth rise there contested = contest_is_fair s w first fourth rise there contested
