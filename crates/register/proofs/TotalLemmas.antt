-- The valid and the rejected papers of a ward together make up all of its papers.
use Rattle.std.proofs.Common.{◌≡◌, ℕ, zero, suc, ◌+◌, ◌<◌, ◌==◌, ◌&&◌, ◌||◌, nat_le, Bool, true, false, not, cond, List, [], ◌∷◌, length, map, filter, find, Some, Result, Ok, Err, codes}
use Rattle.std.proofs.Common.{refl, sym, ap, subst, ◌∙◌, arith, length-append}
use Rattle.std.specs.Prelude.{sum_by}
use Rattle.std.specs.List.{AllByRecursion, list_all, flat_map}
use Rattle.std.specs.Str.{bytes_eq}
use Rattle.std.specs.List.Sorted.{IsStrictlySortedBy}
use Rattle.std.specs.declared.cmp.Ordering.TheVariants.{Less}
use Rattle.std.specs.Ordering.{nat_cmp, is_eq}
use Rattle.std.specs.Cmp.{unsigned_tied}
use Rattle.std.proofs.lemmas.Bool.{and_parts, and_from, both_ways, eqb-true, eq-eqb, ne_eqb, leb-true, le-leb}
use Rattle.std.proofs.lemmas.Cmp.{ranked}
use Rattle.std.proofs.lemmas.List.Folds.{list_all-append}
use Rattle.std.proofs.lemmas.List.Sums.{sum_by-cons}
use Rattle.paper.specs.Marking.{Marking, marked_with}
use Rattle.paper.specs.MarksText.{reading, fields, with_columns, marks_in}
use Rattle.paper.specs.Preferences.{rejection_by, rejection_of}
use Rattle.paper.specs.declared.marked.Keyed.{Keyed}
use Rattle.paper.specs.declared.marked.Keyed.TheVariants.{Doubtful, Marked}
use Rattle.paper.specs.declared.marks.MarkFault.{MarkFault}
use Rattle.paper.specs.declared.marks.MarkFault.TheVariants.{FieldCount}
use Rattle.register.specs.declared.polls.Judgement.{Judgement}
use Rattle.register.specs.declared.polls.Judgement.TheVariants.{Valid, Rejected, Open}
use Rattle.register.specs.Ranges.{is_between}
use Rattle.register.specs.Offices.{WardEntry, BatchEntry, KeyedEntry, JudgedEntry, OfficeState, batch_cmp, batch_compared, batch_at, candidates_of, third_at, keying_of, verdicts_of}
use Rattle.register.specs.Marks.{columns_of, is_read, is_readable, is_judged_valid, is_valid}
use Rattle.register.specs.Verdicts.{is_rejection_code}
use Rattle.register.specs.Agreement.{is_keyed, is_doubtful, has_verdict, is_open, is_its_clerk, has_doubtful, are_taken, clerks_of, keyings_now, taken_papers, batches_of}
use Rattle.register.specs.BatchConditions.{columns_for, is_keyed_for, is_whole, are_rounds_to, is_verdict_on, is_judged}
use Rattle.register.specs.StateConditions.{is_batch, IsState}
use Rattle.register.specs.Polls.{Pile, pile_of, piles_of, is_settled, by_rejection, by_reading, by_verdict, judgement_on, judgements_on, judgements_in, judgements, preferences_by}
use Rattle.register.specs.Polls.{is_rejected, rejected_with, all_rejected}
use Rattle.register.specs.Elections.{election_of}
use Rattle.register.proofs.ItemLemmas.{batch_map, maps_of}
use Rattle.register.proofs.MapLemmas.{kept_all}
use Rattle.register.proofs.AgreedLemmas.{agreed_passes}
use Rattle.register.proofs.ContestLemmas.{round_now, length_map}

-- ---- judgements

-- the paper is either valid or rejected with a code from 1 to 5
abbrev is_decided : Judgement → Bool
is_decided (Valid prefs) = true
is_decided (Rejected code) = is_between 1 5 code
is_decided Open = false

-- how much a judgement adds to the number of papers rejected with the given code
abbrev counts_for : Judgement → ℕ → ℕ
counts_for j n = cond (is_rejected n j) 1 0

counted : (j : Judgement) (js : List Judgement) (n : ℕ) → rejected_with (j ∷ js) n ≡ counts_for j n + rejected_with js n
counted j js n = go (is_rejected n j)
  where
    go : (b : Bool) → length (cond b (j ∷ filter (is_rejected n) js) (filter (is_rejected n) js)) ≡ cond b 1 0 + rejected_with js n
    go true = omega arith
    go false = omega arith

one_code : (code : ℕ) → is_between 1 5 code ≡ true → counts_for (Rejected code) 1 +
    (counts_for (Rejected code) 2 + (counts_for (Rejected code) 3 + (counts_for (Rejected code) 4 + counts_for (Rejected code) 5))) ≡ 1
one_code zero is = absurd (cc)
one_code (suc zero) is = refl
one_code (suc (suc zero)) is = refl
one_code (suc (suc (suc zero))) is = refl
one_code (suc (suc (suc (suc zero)))) is = refl
one_code (suc (suc (suc (suc (suc zero))))) is = refl
one_code (suc (suc (suc (suc (suc (suc n)))))) is = absurd (omega (arith, leb-true (suc (suc (suc (suc (suc (suc n)))))) 5 (and_parts _ _ is).1))

one_each : (j : Judgement) → is_decided j ≡ true → length (preferences_by j) + (counts_for j 1 + (counts_for j 2 + (counts_for j 3 + (counts_for j 4 + counts_for j 5)))) ≡ 1
one_each (Valid prefs) decided = refl
one_each (Rejected code) decided = omega (arith, one_code code decided)
one_each Open decided = absurd (cc)

-- the numbers of valid and rejected papers add up to the number of judgements
each_counted_once : (js : List Judgement) → list_all is_decided js ≡ true
    → length (flat_map preferences_by js) + (rejected_with js 1 + (rejected_with js 2 + (rejected_with js 3 + (rejected_with js 4 + rejected_with js 5)))) ≡ length js
each_counted_once [] decided = refl
each_counted_once (j ∷ js) decided =
    let parts = and_parts (is_decided j) (list_all is_decided js) decided in
    omega (
      arith,
      length-append (preferences_by j) (flat_map preferences_by js),
      counted j js 1,
      counted j js 2,
      counted j js 3,
      counted j js 4,
      counted j js 5,
      one_each j parts.0,
      each_counted_once js parts.1,
    )

-- ---- every paper of a settled batch is decided

by_marking : (marking : Marking) → is_decided (by_rejection marking (rejection_of marking)) ≡ true
by_marking marking = go (marked_with 1 marking)
  where
    go : (cs : List ℕ) → is_decided (by_rejection marking (rejection_by cs)) ≡ true
    go [] = refl
    go (c ∷ []) = refl
    go (c ∷ d ∷ cs) = refl

-- marks that can be read decide a paper
by_read : (doubtful : Judgement) (r : Result Keyed MarkFault) → is_read r ≡ true → (r ≡ Ok Doubtful → is_decided doubtful ≡ true) → is_decided (by_reading doubtful r) ≡ true
by_read doubtful (Err fault) read decided = absurd (cc)
by_read doubtful (Ok Doubtful) read decided = decided refl
by_read doubtful (Ok (Marked marking)) read decided = by_marking marking

-- marks that make a paper valid decide it
by_valid : (r : Result Keyed MarkFault) → is_judged_valid r ≡ true → is_decided (by_reading Open r) ≡ true
by_valid (Err fault) valid = absurd (cc)
by_valid (Ok Doubtful) valid = absurd (cc)
by_valid (Ok (Marked marking)) valid = by_marking marking

-- only the letter D is read as doubtful
read_doubtful : (columns marks : List ℕ) → reading columns marks ≡ Ok Doubtful → bytes_eq marks (codes "D") ≡ true
read_doubtful columns marks is = go (bytes_eq marks (codes "D")) refl is
  where
    by_marks : (r : Result (List ℕ) MarkFault) → with_columns columns r ≡ Ok Doubtful → ⊥
    by_marks (Err fault) same = cc
    by_marks (Ok numbers) same = cc

    by_count : (b : Bool) → cond b (with_columns columns (marks_in (fields marks))) (Err FieldCount) ≡ Ok Doubtful → ⊥
    by_count true same = by_marks (marks_in (fields marks)) same
    by_count false same = cc

    go : (b : Bool) → bytes_eq marks (codes "D") ≡ b → cond b (Ok Doubtful) (cond (length (fields marks) == length columns) (with_columns columns (marks_in (fields marks))) (Err FieldCount))
        ≡ Ok Doubtful → b ≡ true
    go true letter same = refl
    go false letter same = absurd (by_count (length (fields marks) == length columns) same)

-- a verdict on a doubtful paper decides it
by_one : (columns : List ℕ) (keying : List KeyedEntry) (v : JudgedEntry) → is_verdict_on columns keying v ≡ true → is_decided (by_verdict columns (Some v)) ≡ true
by_one columns keying v on = go (v.code == 0) refl (and_parts (has_doubtful keying v.paper) _ on).1
  where
    either : (b c d : Bool) → c ≡ false → (b || (c && d)) ≡ true → b ≡ true
    either true c d wrong is = refl
    either false true d wrong is = absurd (cc)
    either false false d wrong is = is

    within : is_rejection_code v.code ≡ true → is_between 1 5 v.code ≡ true
    within is =
        let parts = and_parts (nat_le 3 v.code) (nat_le v.code 5) is in
        and_from _ _ (le-leb 1 v.code (omega (arith, leb-true 3 v.code parts.0))) parts.1

    go : (b : Bool) → (v.code == 0) ≡ b → ((b && is_valid columns v.marks) || (is_rejection_code v.code && (length v.marks == 0))) ≡ true
        → is_decided (cond b (by_reading Open (reading columns v.marks)) (Rejected v.code)) ≡ true
    go true none is = by_valid (reading columns v.marks) (either (is_valid columns v.marks) (is_rejection_code v.code) (length v.marks == 0) (ap is_rejection_code (eqb-true v.code 0 none)) is)
    go false some is = within (and_parts (is_rejection_code v.code) (length v.marks == 0) is).0

-- the verdict that is found for a paper decides it
by_found : (columns : List ℕ) (keying : List KeyedEntry) (paper : ℕ) (vs : List JudgedEntry) → list_all (is_verdict_on columns keying) vs ≡ true → has_verdict vs paper ≡ true
    → is_decided (by_verdict columns (find (λ (v : JudgedEntry). v.paper == paper) vs)) ≡ true
by_found columns keying paper [] all has = absurd (cc)
by_found columns keying paper (v ∷ vs) all has = go (v.paper == paper) has (by_found columns keying paper vs parts.1)
  where
    parts : (is_verdict_on columns keying v ≡ true) × (list_all (is_verdict_on columns keying) vs ≡ true)
    parts = and_parts (is_verdict_on columns keying v) (list_all (is_verdict_on columns keying) vs) all

    go : (b : Bool) → (b || has_verdict vs paper) ≡ true → (has_verdict vs paper ≡ true → is_decided (by_verdict columns (find (λ (v : JudgedEntry). v.paper == paper) vs)) ≡ true)
        → is_decided (by_verdict columns (cond b (Some v) (find (λ (v : JudgedEntry). v.paper == paper) vs))) ≡ true
    go true is later = by_one columns keying v parts.0
    go false is later = later is

-- the conditions that a batch's papers and verdicts must meet
record Counts (s : OfficeState) (columns : List ℕ) (b : BatchEntry) : Type 0 where
  whole : list_all (is_whole b.size) (keyings_now s b) ≡ true
  readable : list_all (λ k. is_readable columns k.marks) (taken_papers s b) ≡ true
  judged : list_all (is_verdict_on columns (taken_papers s b)) (verdicts_of s b.number) ≡ true

each_decided : (columns : List ℕ) (keying : List KeyedEntry) (vs : List JudgedEntry) (ks : List KeyedEntry) → list_all (is_verdict_on columns keying) vs ≡ true
    → list_all (λ k. is_readable columns k.marks) ks ≡ true
    → filter (is_open vs) ks ≡ [] → list_all is_decided (judgements_on columns vs ks) ≡ true
each_decided columns keying vs [] judged readable none = refl
each_decided columns keying vs (k ∷ ks) judged readable none = go (is_open vs k) refl none (each_decided columns keying vs ks judged parts.1)
  where
    parts : (is_readable columns k.marks ≡ true) × (list_all (λ j. is_readable columns j.marks) ks ≡ true)
    parts = and_parts (is_readable columns k.marks) (list_all (λ j. is_readable columns j.marks) ks) readable

    has : (d h : Bool) → (d && not h) ≡ false → d ≡ true → h ≡ true
    has true true is doubtful = refl
    has true false is doubtful = absurd (cc)
    has false h is doubtful = absurd (cc)

    here : is_open vs k ≡ false → is_decided (judgement_on columns vs k) ≡ true
    here closed =
        by_read _ (reading columns k.marks) parts.0
        (λ same. by_found columns keying k.paper vs judged (has (is_doubtful k) (has_verdict vs k.paper) closed (read_doubtful columns k.marks same)))

    go : (b : Bool) → is_open vs k ≡ b → cond b (k ∷ filter (is_open vs) ks) (filter (is_open vs) ks) ≡ [] → (filter (is_open vs) ks ≡ [] → list_all is_decided (judgements_on columns vs ks) ≡ true)
        → list_all is_decided (judgements_on columns vs (k ∷ ks)) ≡ true
    go true is left later = absurd (cc)
    go false is left later = and_from _ _ (here is) (later left)

no_length : {X : Type 0} (xs : List X) → (length xs == 0) ≡ true → xs ≡ []
no_length [] none = refl
no_length (x ∷ xs) none = absurd (omega (arith, eqb-true (length (x ∷ xs)) 0 none))

-- a settled batch has a judgement on each of its papers
record AllJudged (columns : List ℕ) (size : ℕ) (pile : Pile) : Type 0 where
  decided : list_all is_decided (judgements_in columns pile) ≡ true
  each : length (judgements_in columns pile) ≡ size

batch_judged : (s : OfficeState) (columns : List ℕ) (b : BatchEntry) → Counts s columns b → is_settled (pile_of s b) ≡ true → AllJudged columns b.size (pile_of s b)
batch_judged s columns b is settled =
    let papers = taken_papers s b in
    let verdicts = verdicts_of s b.number in
    let parts = and_parts (are_taken (keyings_now s b)) (length (filter (is_open verdicts) papers) == 0) settled in
    let whole = agreed_passes (is_whole b.size) (keyings_now s b) is.whole (λ untaken. absurd (both_ways (are_taken (keyings_now s b)) untaken parts.0)) in
    record {
      decided = each_decided columns papers verdicts papers is.judged is.readable (no_length (filter (is_open verdicts) papers) parts.1);
      each = length_map (judgement_on columns verdicts) papers ∙ eqb-true (length papers) b.size (and_parts (length papers == b.size) _ whole).0;
    }

-- each of the settled batches has a judgement on each of its papers
each_judged : (s : OfficeState) (columns : List ℕ) (bs : List BatchEntry) → AllByRecursion (Counts s columns) bs → list_all is_settled (map (pile_of s) bs) ≡ true
    → (list_all is_decided (judgements columns (map (pile_of s) bs)) ≡ true) × (length (judgements columns (map (pile_of s) bs)) ≡ sum_by (λ (b : BatchEntry). b.size) bs)
each_judged s columns [] each settled = (refl, refl)
each_judged s columns (b ∷ bs) each settled =
    let parts = and_parts (is_settled (pile_of s b)) (list_all is_settled (map (pile_of s) bs)) settled in
    let own = batch_judged s columns b each.0 parts.0 in
    let others = each_judged s columns bs each.1 parts.1 in (
      list_all-append is_decided (judgements_in columns (pile_of s b)) (judgements columns (map (pile_of s) bs)) ∙ and_from _ _ own.decided others.0,
      omega (arith, length-append (judgements_in columns (pile_of s b)) (judgements columns (map (pile_of s) bs)), own.each, others.1, sum_by-cons (λ (c : BatchEntry). c.size) b bs),
    )

-- ---- the batches of a ward in a state

-- looking up the number of a batch finds that batch
found_each : (bs : List BatchEntry) → IsStrictlySortedBy batch_cmp bs → AllByRecursion (λ b. find (λ c. is_eq (batch_compared b.number c)) bs ≡ Some b) bs
unfolding IsStrictlySortedBy
found_each [] up = tt
found_each (b ∷ bs) up = (rw (unsigned_tied b.number b.number ∙ eq-eqb b.number b.number refl) refl, behind bs up.0 (found_each bs up.1))
  where
    behind : (cs : List BatchEntry) → AllByRecursion (λ c. batch_cmp b c ≡ Less) cs → AllByRecursion (λ c. find (λ d. is_eq (batch_compared c.number d)) bs ≡ Some c) cs
        → AllByRecursion (λ c. find (λ d. is_eq (batch_compared c.number d)) (b ∷ bs) ≡ Some c) cs
    behind [] less found = tt
    behind (c ∷ cs) less found =
        let rank : b.number < c.number = ranked b.number c.number Less (sym less.0) in
        let other : is_eq (nat_cmp c.number b.number) ≡ false = unsigned_tied c.number b.number ∙ ne_eqb c.number b.number (λ same. omega (arith, rank, same)) in
        (rw other found.0, behind cs less.1 found.1)

-- the marks in a clerk's keying of a batch can be read
all_readable : (s : OfficeState) (b : BatchEntry) (clerk : ℕ) (ks : List KeyedEntry) → batch_at s b.number ≡ Some b → list_all (λ k. is_keyed_for s k (batch_at s k.batch)) ks ≡ true
    → list_all (λ k. is_readable (columns_for s b) k.marks) (filter (λ (k : KeyedEntry). (k.batch == b.number) && ((k.round == b.round) && (k.clerk == clerk))) ks) ≡ true
all_readable s b clerk [] there keyed = refl
all_readable s b clerk (k ∷ ks) there keyed = go ((k.batch == b.number) && ((k.round == b.round) && (k.clerk == clerk))) refl (all_readable s b clerk ks there parts.1)
  where
    parts : (is_keyed_for s k (batch_at s k.batch) ≡ true) × (list_all (λ k. is_keyed_for s k (batch_at s k.batch)) ks ≡ true)
    parts = and_parts (is_keyed_for s k (batch_at s k.batch)) (list_all (λ k. is_keyed_for s k (batch_at s k.batch)) ks) keyed

    here : (k.batch == b.number) ≡ true → is_readable (columns_for s b) k.marks ≡ true
    here same =
        let found : batch_at s k.batch ≡ Some b = ap (batch_at s) (eqb-true k.batch b.number same) ∙ there in
        let own : is_keyed_for s k (Some b) ≡ true = ap (is_keyed_for s k) (sym found) ∙ parts.0 in
        (and_parts (is_its_clerk k.clerk b (third_at s b.number)) _ (and_parts (nat_le k.round b.round) _ own).1).1

    rest : List KeyedEntry
    rest = filter (λ (k : KeyedEntry). (k.batch == b.number) && ((k.round == b.round) && (k.clerk == clerk))) ks

    go : (c : Bool) → ((k.batch == b.number) && ((k.round == b.round) && (k.clerk == clerk))) ≡ c → list_all (λ k. is_readable (columns_for s b) k.marks) rest ≡ true
        → list_all (λ k. is_readable (columns_for s b) k.marks) (cond c (k ∷ rest) rest) ≡ true
    go true is later = and_from _ _ (here (and_parts (k.batch == b.number) _ is).0) later
    go false is later = later

-- the marks on a batch's agreed papers can be read
taken_readable : (s : OfficeState) (b : BatchEntry) → batch_at s b.number ≡ Some b → list_all (λ k. is_keyed_for s k (batch_at s k.batch)) s.keyings ≡ true
    → list_all (λ k. is_readable (columns_for s b) k.marks) (taken_papers s b) ≡ true
taken_readable s b there keyed = agreed_passes reads (keyings_now s b) (kept_all reads is_keyed (map (keying_of s b.number b.round) (clerks_of s b)) (each (clerks_of s b))) (λ untaken. refl)
  where
    reads : List KeyedEntry → Bool
    reads ks = list_all (λ k. is_readable (columns_for s b) k.marks) ks

    each : (clerks : List ℕ) → list_all reads (map (keying_of s b.number b.round) clerks) ≡ true
    each [] = refl
    each (clerk ∷ clerks) = and_from _ _ (all_readable s b clerk s.keyings there keyed) (each clerks)

batch_counts : (s : OfficeState) → IsState s → (b : BatchEntry) → batch_at s b.number ≡ Some b → is_batch b ≡ true → are_rounds_to s b b.round ≡ true
    → is_judged s b (verdicts_of s b.number) ≡ true → Counts s (columns_for s b) b
batch_counts s is b there fine rounds judged = record {
  whole = (and_parts (list_all (is_whole b.size) (keyings_now s b)) _ (round_now s b fine rounds)).0;
  readable = taken_readable s b there (and_parts (list_all (λ k. is_keyed_for s k (batch_at s k.batch)) s.keyings) _ is.keyed).0;
  judged = judged;
}

ward_counts : (s : OfficeState) → IsState s → (ward : ℕ) (bs : List BatchEntry) → AllByRecursion (λ b. batch_at s b.number ≡ Some b) bs → list_all is_batch bs ≡ true
    → list_all (λ b. are_rounds_to s b b.round) bs ≡ true
    → list_all (λ b. is_judged s b (verdicts_of s b.number)) bs ≡ true → AllByRecursion (Counts s (columns_of (candidates_of s ward))) (filter (λ (b : BatchEntry). b.ward == ward) bs)
ward_counts s is ward [] there fine rounds judged = tt
ward_counts s is ward (b ∷ bs) there fine rounds judged = go (b.ward == ward) refl (ward_counts s is ward bs there.1 good.1 all.1 on.1)
  where
    good : (is_batch b ≡ true) × (list_all is_batch bs ≡ true)
    good = and_parts (is_batch b) (list_all is_batch bs) fine

    all : (are_rounds_to s b b.round ≡ true) × (list_all (λ b. are_rounds_to s b b.round) bs ≡ true)
    all = and_parts (are_rounds_to s b b.round) (list_all (λ b. are_rounds_to s b b.round) bs) rounds

    on : (is_judged s b (verdicts_of s b.number) ≡ true) × (list_all (λ b. is_judged s b (verdicts_of s b.number)) bs ≡ true)
    on = and_parts (is_judged s b (verdicts_of s b.number)) (list_all (λ b. is_judged s b (verdicts_of s b.number)) bs) judged

    go : (c : Bool) → (b.ward == ward) ≡ c → AllByRecursion (Counts s (columns_of (candidates_of s ward))) (filter (λ (b : BatchEntry). b.ward == ward) bs)
        → AllByRecursion (Counts s (columns_of (candidates_of s ward))) (cond c (b ∷ filter (λ (b : BatchEntry). b.ward == ward) bs) (filter (λ (b : BatchEntry). b.ward == ward) bs))
    go true of later = (subst (λ n. Counts s (columns_of (candidates_of s n)) b) (eqb-true b.ward ward of) (batch_counts s is b there.0 good.0 all.0 on.0), later)
    go false of later = later

-- in a state, once a ward's batches are settled, its valid papers and the papers rejected with each code add up to all the papers in its batches
pub polls_add_up : (s : OfficeState) (w : WardEntry) → IsState s → (election_of s w).ballots.settled ≡ true
    → length (election_of s w).ballots.papers + all_rejected (election_of s w).ballots.rejected ≡ sum_by (λ (b : BatchEntry). b.size) (batches_of s w.number)
polls_add_up s w is settled =
    let columns = columns_of (candidates_of s w.number) in
    let each =
    ward_counts s is w.number s.batches (found_each s.batches is.rise.batches) fine (and_parts (list_all (λ k. is_keyed_for s k (batch_at s k.batch)) s.keyings) _ is.keyed).1
    (and_parts _ _ is.judged).1
    in
    let all = each_judged s columns (batches_of s w.number) each settled in
    each_counted_once (judgements columns (piles_of s w.number)) all.0 ∙ all.1
  where
    fine : list_all is_batch s.batches ≡ true
    fine = (maps_of is batch_map).in_range
