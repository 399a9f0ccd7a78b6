-- The data on which batches, keyings and verdicts depend; as long as it is unchanged, they still meet the conditions for a state.
use Rattle.std.proofs.Common.{◌≡◌, ℕ, ◌+◌, ◌≤◌, zero, suc, Bool, true, false, ◌&&◌, ◌||◌, nat_le, List, [], ◌∷◌, ◌++◌, arith, Option, Some, None, refl, sym, ap, ◌∙◌}
use Rattle.std.specs.List.{list_all, range_with_len}
use Rattle.std.proofs.lemmas.List.Folds.{list_all-append}
use Rattle.std.proofs.lemmas.Bool.{and_parts, and_from}
use Rattle.register.specs.Offices.{WardEntry, CandidateEntry, BatchEntry, KeyedEntry, JudgedEntry, OfficeState, batch_compared, candidates_of, batch_at, third_at, verdicts_of}
use Rattle.register.specs.Marks.{columns_of, is_readable}
use Rattle.register.specs.Agreement.{agreed, differ, has_doubtful, is_its_clerk, is_taken, keyings_in, keyings_now, taken_papers}
use Rattle.register.specs.Polls.{Pile, pile_of}
use Rattle.register.specs.BatchConditions.{is_given_out, is_keyed_for, is_whole, is_round_of, are_rounds_to, is_verdict_on, is_judged}
use Rattle.register.specs.Ranges.{is_clerk, is_ward_number, is_batch_number, is_paper_number, is_round}
use Rattle.register.specs.StateConditions.{is_batch, all_given_out, all_keyed, all_judged, IsState}
use Rattle.register.proofs.ThreeKeyingsLemmas.{not_keyed}
use Rattle.register.proofs.MapLemmas.{list_all_weaker, list_all_both, found_passes}

-- if each round remains valid, all rounds do
pub rounds_from : (s t : OfficeState) (b c : BatchEntry) (n : ℕ) → ((m : ℕ) → is_round_of s b m ≡ true → is_round_of t c m ≡ true) → are_rounds_to s b n ≡ true → are_rounds_to t c n ≡ true
unfolding are_rounds_to
rounds_from s t b c n each all = list_all_weaker (is_round_of s b) (is_round_of t c) (range_with_len 1 n) each all

last_of : (a n : ℕ) → range_with_len a (suc n) ≡ range_with_len a n ++ (a + n) ∷ []
last_of a zero = let e : a + 0 ≡ a = omega arith in rw e refl
last_of a (suc n) = let e : a + suc n ≡ (a + 1) + n = omega arith in rw e (ap (λ (l : List ℕ). a ∷ l) (last_of (a + 1) n))

last_first : (p q : Bool) → (p && (q && true)) ≡ (q && p)
last_first true true = refl
last_first true false = refl
last_first false true = refl
last_first false false = refl

-- the rounds up to n + 1 are valid if and only if the last one is and the rounds before it are
pub rounds_more : (s : OfficeState) (b : BatchEntry) (n : ℕ) → are_rounds_to s b (suc n) ≡ (is_round_of s b (suc n) && are_rounds_to s b n)
unfolding are_rounds_to
rounds_more s b n =
    let e : 1 + n ≡ suc n = omega arith in
    ap (list_all (is_round_of s b)) (last_of 1 n)
    ∙ list_all-append (is_round_of s b) (range_with_len 1 n) ((1 + n) ∷ [])
    ∙ last_first (list_all (is_round_of s b) (range_with_len 1 n)) (is_round_of s b (1 + n))
    ∙ ap (λ (k : ℕ). is_round_of s b k && list_all (is_round_of s b) (range_with_len 1 n)) e

-- if the rounds up to n are valid, so is round n
pub round_at : (s : OfficeState) (b : BatchEntry) (n : ℕ) → 1 ≤ n → are_rounds_to s b n ≡ true → is_round_of s b n ≡ true
round_at s b zero low all = absurd (omega (arith, low))
round_at s b (suc n) low all = (and_parts _ _ (sym (rounds_more s b n) ∙ all)).0

pub no_rounds : (s : OfficeState) (b : BatchEntry) → are_rounds_to s b 0 ≡ true
unfolding are_rounds_to
no_rounds s b = refl

-- the numbers of a batch, each of which is in range
pub record BatchParts (b : BatchEntry) : Type 0 where
  pub number : is_batch_number b.number ≡ true
  pub ward : is_ward_number b.ward ≡ true
  pub size : is_paper_number b.size ≡ true
  pub first_clerk : is_clerk b.first_clerk ≡ true
  pub second_clerk : is_clerk b.second_clerk ≡ true
  pub round : is_round b.round ≡ true

pub batch_parts : (b : BatchEntry) → is_batch b ≡ true → BatchParts b
unfolding is_batch
batch_parts b good =
    let number = and_parts (is_batch_number b.number) (is_ward_number b.ward && (is_paper_number b.size && (is_clerk b.first_clerk && (is_clerk b.second_clerk && is_round b.round)))) good in
    let ward = and_parts _ _ number.1 in
    let size = and_parts _ _ ward.1 in
    let first_clerk = and_parts _ _ size.1 in
    let clerk_and_round = and_parts _ _ first_clerk.1 in
    record { number = number.0; ward = ward.0; size = size.0; first_clerk = first_clerk.0; second_clerk = clerk_and_round.0; round = clerk_and_round.1 }

-- a batch that is found in a state is given out
pub found_given_out : {s : OfficeState} → IsState s → (n : ℕ) (b : BatchEntry) → batch_at s n ≡ Some b → is_given_out s b ≡ true
found_given_out {s} is n b found = found_passes (batch_compared n) (is_given_out s) b s.batches (and_parts _ _ is.given_out).0 found

-- a batch that isn't taken has no verdicts
pub no_verdicts : (s : OfficeState) (b : BatchEntry) → is_taken s b ≡ false → (vs : List JudgedEntry) → is_judged s b vs ≡ true → vs ≡ []
no_verdicts s b untaken [] judged = refl
no_verdicts s b untaken (v ∷ vs) judged = absurd (lost (taken_papers s b) (not_keyed (taken_papers s b) untaken) (and_parts _ _ (and_parts _ _ judged).0).0)
  where
    lost : (ks : List KeyedEntry) → ks ≡ [] → has_doubtful ks v.paper ≡ true → ⊥
    lost [] none found = cc
    lost (k ∷ ks) none found = cc

-- ---- a batch's file

-- Everything that a state has about a batch, apart from the batch's entry, is the same in another state: the candidates of its ward, its keyings,
-- and the verdicts on its papers.
pub record HasSameFile (s t : OfficeState) (b : BatchEntry) : Type 0 where
  pub candidates : candidates_of t b.ward ≡ candidates_of s b.ward
  pub keyings : (round : ℕ) → keyings_in t b round ≡ keyings_in s b round
  pub verdicts : verdicts_of t b.number ≡ verdicts_of s b.number

module _ (s t : OfficeState) (b : BatchEntry) (same : HasSameFile s t b) where
  -- its pile is the same
  pub pile_kept : pile_of t b ≡ pile_of s b
  pile_kept = ap (λ (ks : List (List KeyedEntry)). pile_with ks (verdicts_of t b.number)) (same.keyings b.round) ∙ ap (pile_with (keyings_now s b)) same.verdicts
    where
      pile_with : List (List KeyedEntry) → List JudgedEntry → Pile
      pile_with keyings verdicts = record { keyings = keyings; verdicts = verdicts }

  -- its rounds still meet the conditions for a state
  pub rounds_kept : are_rounds_to s b b.round ≡ true → are_rounds_to t b b.round ≡ true
  rounds_kept rounds =
      rounds_from s t b b b.round (λ m holds. ap (λ (ks : List (List KeyedEntry)). list_all (is_whole b.size) ks && (nat_le b.round m || differ ks)) (same.keyings m) ∙ holds) rounds

  -- its verdicts still meet the conditions for a state
  pub judged_kept : is_judged s b (verdicts_of s b.number) ≡ true → is_judged t b (verdicts_of t b.number) ≡ true
  judged_kept judged =
      ap (λ (cs : List CandidateEntry). judged_by cs (keyings_now t b) (verdicts_of t b.number)) same.candidates
      ∙ ap (λ (ks : List (List KeyedEntry)). judged_by (candidates_of s b.ward) ks (verdicts_of t b.number)) (same.keyings b.round)
      ∙ ap (judged_by (candidates_of s b.ward) (keyings_now s b)) same.verdicts
      ∙ judged
    where
      judged_by : List CandidateEntry → List (List KeyedEntry) → List JudgedEntry → Bool
      judged_by candidates keyings verdicts = list_all (is_verdict_on (columns_of candidates) (agreed keyings)) verdicts

-- ---- other wards and candidates

-- the state with its wards and candidates replaced
abbrev pub with_nominations : List WardEntry → List CandidateEntry → OfficeState → OfficeState
with_nominations wards candidates s = record s { wards = wards; candidates = candidates }

-- a batch is still given out, and its ward has the same candidates
pub record IsStill (s t : OfficeState) (b : BatchEntry) : Type 0 where
  pub given_out : is_given_out t b ≡ true
  pub candidates : candidates_of t b.ward ≡ candidates_of s b.ward

module _ (s : OfficeState) (wards : List WardEntry) (candidates : List CandidateEntry) (is : IsState s)
    (past : (b : BatchEntry) → is_given_out s b ≡ true → IsStill s (with_nominations wards candidates s) b) where
  pub given_out_still : all_given_out (with_nominations wards candidates s) ≡ true
  given_out_still = let parts = and_parts _ _ is.given_out in and_from _ _ (list_all_weaker _ _ s.batches (λ b out. (past b out).given_out) parts.0) parts.1

  keyed_for_still : (k : KeyedEntry) → is_keyed_for s k (batch_at s k.batch) ≡ true → is_keyed_for (with_nominations wards candidates s) k (batch_at s k.batch) ≡ true
  keyed_for_still k = go (batch_at s k.batch) refl
    where
      go : (o : Option BatchEntry) → batch_at s k.batch ≡ o → is_keyed_for s k o ≡ true → is_keyed_for (with_nominations wards candidates s) k o ≡ true
      go None found keyed = keyed
      go (Some b) found keyed =
          let same = (past b (found_given_out is k.batch b found)).candidates in
          ap (λ (cs : List CandidateEntry). nat_le k.round b.round && (is_its_clerk k.clerk b (third_at s b.number) && is_readable (columns_of cs) k.marks)) same ∙ keyed

  same_file : (b : BatchEntry) → is_given_out s b ≡ true → HasSameFile s (with_nominations wards candidates s) b
  same_file b out = record { candidates = (past b out).candidates; keyings = λ round. refl; verdicts = refl }

  pub keyed_still : all_keyed (with_nominations wards candidates s) ≡ true
  keyed_still =
      let parts = and_parts _ _ is.keyed in
      let rounds = list_all_both _ _ _ s.batches (λ b out rounds. rounds_kept s (with_nominations wards candidates s) b (same_file b out) rounds) (and_parts _ _ is.given_out).0 parts.1 in
      and_from _ _ (list_all_weaker _ _ s.keyings keyed_for_still parts.0) rounds

  pub judged_still : all_judged (with_nominations wards candidates s) ≡ true
  judged_still =
      let parts = and_parts _ _ is.judged in
      and_from _ _ parts.0 (list_all_both _ _ _ s.batches (λ b out judged. judged_kept s (with_nominations wards candidates s) b (same_file b out) judged) (and_parts _ _ is.given_out).0 parts.1)
