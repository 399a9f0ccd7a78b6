-- Proof that the tallies of batches are those of the state.
use Rattle.std.proofs.Common.{◌≡◌, ℕ, ◌+◌, ◌-◌, ◌^◌, ◌<◌, ◌≤◌, ◌==◌, min, Bool, true, false, cond, List, [], ◌∷◌, ◌++◌, map, filter, length, refl, ap, ◌∙◌, arith}
use Rattle.std.proofs.lemmas.Bool.{and_parts}
use Rattle.std.proofs.lemmas.List.Elements.{filter-append}
use Rattle.std.proofs.lemmas.List.Kept.{IsStrictlySortedBy-filter}
use Rattle.std.proofs.lemmas.List.{length-append}
use Rattle.register.specs.declared.verdicts.JudgedPaper.{JudgedPaper}
use Rattle.register.specs.Offices.{BatchEntry, KeyedEntry, OfficeState, judged_entry, verdicts_of, batch_cmp}
use Rattle.register.specs.Agreement.{is_keyed, agreed, are_taken, differ, keyings_now, taken_papers, is_taken, is_differing, is_open, open_in, open_among, batches_of, taken_of, differing_of}
use Rattle.register.specs.BatchConditions.{are_rounds_to}
use Rattle.register.specs.StateConditions.{IsState, is_batch}
use Rattle.register.specs.Polls.{pile_of, judgement_on, judgements}
use Rattle.register.specs.Status.{StatusEntry}
use Rattle.register.proofs.MapLemmas.{kept_all}
use Rattle.register.proofs.ContestLemmas.{length_map, few_among, few_batches}
use Rattle.store.specs.declared.status.Tally.{Tally}
use Rattle.store.specs.declared.views.papers.Keyings.{Keyings}
use Rattle.store.specs.Keyings.{keyings_by}
use Rattle.store.specs.Tallies.{tally_by, IsTally}

-- ---- one batch

pub one_there : (b : BatchEntry) (q : Bool) → cond q 1 0 ≡ length (cond q (b ∷ []) [])
one_there b true = refl
one_there b false = refl

-- a batch that isn't taken has no doubtful papers without a verdict
pub open_there : (s : OfficeState) (b : BatchEntry) → open_in s b ≡ open_among s (cond (is_taken s b) (b ∷ []) [])
open_there s b = go (taken_papers s b) refl
  where
    plus : (n : ℕ) → n ≡ n + 0
    plus n = omega arith

    go : (papers : List KeyedEntry) → taken_papers s b ≡ papers → open_in s b ≡ open_among s (cond (is_keyed papers) (b ∷ []) [])
    go [] none = ap (λ ks. length (filter (is_open (verdicts_of s b.number)) ks)) none
    go (k ∷ ks) some = plus (open_in s b)

-- the tally of a batch that is computed from its keyings and verdicts is its tally in the state
pub one_tally : (s : OfficeState) (b : BatchEntry) (keyings : Keyings) (verdicts : List JudgedPaper) → keyings_by keyings ≡ keyings_now s b
    → map judged_entry verdicts ≡ verdicts_of s b.number → IsTally s (b ∷ []) (tally_by keyings verdicts)
one_tally s b keyings verdicts keyed judged =
    record {
      taken = λ few. ap (λ ks. cond (are_taken ks) 1 0) keyed ∙ one_there b (is_taken s b);
      differing = λ few. ap (λ ks. cond (differ ks) 1 0) keyed ∙ one_there b (is_differing s b);
      doubtful_open = λ few. ap (λ vs. length (filter (is_open vs) (agreed (keyings_by keyings)))) judged ∙ ap
          (λ ks. length (filter (is_open (verdicts_of s b.number)) (agreed ks))) keyed ∙ open_there s b;
    }

-- ---- several batches

counted : (p : BatchEntry → Bool) (bs cs : List BatchEntry) → length (filter p (bs ++ cs)) ≡ length (filter p bs) + length (filter p cs)
counted p bs cs = ap length (filter-append p bs cs) ∙ length-append (filter p bs) (filter p cs)

open_both : (s : OfficeState) (bs cs : List BatchEntry) → open_among s (bs ++ cs) ≡ open_among s bs + open_among s cs
open_both s [] cs = plus (open_among s cs)
  where
    plus : (n : ℕ) → n ≡ 0 + n
    plus n = omega arith
open_both s (b ∷ bs) cs = let later = open_both s bs cs in omega (arith, later)

pub no_tally : (s : OfficeState) (tally : Tally) → tally.taken ≡ 0 → tally.differing ≡ 0 → tally.doubtful_open ≡ 0 → IsTally s [] tally
no_tally s tally taken differing doubtful_open = record { taken = λ few. taken; differing = λ few. differing; doubtful_open = λ few. doubtful_open }

-- the tally of several batches and another
pub more_tally : (s : OfficeState) (bs : List BatchEntry) (b : BatchEntry) (some one sum : Tally) → IsTally s bs some → IsTally s (b ∷ []) one
    → (sum.taken ≡ min (some.taken + one.taken) (2 ^ 64 - 1)) × (sum.differing ≡ min (some.differing + one.differing) (2 ^ 64 - 1)) ×
    (sum.doubtful_open ≡ min (some.doubtful_open + one.doubtful_open) (2 ^ 64 - 1)) → IsTally s (bs ++ b ∷ []) sum
more_tally s bs b some one sum first last sums =
    record {
      taken = both sums.0 first.taken last.taken (counted (is_taken s) bs (b ∷ []));
      differing = both sums.1 first.differing last.differing (counted (is_differing s) bs (b ∷ []));
      doubtful_open = both sums.2 first.doubtful_open last.doubtful_open (ap (open_among s) (filter-append (is_taken s) bs (b ∷ [])) ∙ open_both s
          (filter (is_taken s) bs) (filter (is_taken s) (b ∷ [])));
    }
  where
    both : {k l m n sum total : ℕ} → sum ≡ min (k + l) (2 ^ 64 - 1) → (m < 2 ^ 64 → k ≡ m) → (n < 2 ^ 64 → l ≡ n) → total ≡ m + n → total < 2 ^ 64 → sum ≡ total
    both {k} {l} {m} {n} {sum} {total} sums first last are few =
        let one = first (omega (arith, are, few)) in
        let other = last (omega (arith, are, few)) in
        omega (arith, sums, one, other, are, few)

-- ---- the papers of a ward can be counted

fewer : {X : Type 0} (p : X → Bool) (xs : List X) → length (filter p xs) ≤ length xs
fewer p [] = omega arith
fewer p (x ∷ xs) = go (p x) (fewer p xs)
  where
    go : (q : Bool) → length (filter p xs) ≤ length xs → length (cond q (x ∷ filter p xs) (filter p xs)) ≤ length (x ∷ xs)
    go true later = omega (arith, later)
    go false later = omega (arith, later)

open_fewer : (s : OfficeState) (bs : List BatchEntry) → open_among s (filter (is_taken s) bs) ≤ length (judgements [] (map (pile_of s) bs))
open_fewer s [] = omega arith
open_fewer s (b ∷ bs) =
    let own = fewer (is_open (verdicts_of s b.number)) (taken_papers s b) in
    let each = length_map (judgement_on [] (verdicts_of s b.number)) (taken_papers s b) in
    let all = length-append (map (judgement_on [] (verdicts_of s b.number)) (taken_papers s b)) (judgements [] (map (pile_of s) bs)) in
    go (is_taken s b) own each all (open_fewer s bs)
  where
    go : (q : Bool) → open_in s b ≤ length (taken_papers s b) → length (map (judgement_on [] (verdicts_of s b.number)) (taken_papers s b)) ≡ length (taken_papers s b)
        → length (map (judgement_on [] (verdicts_of s b.number)) (taken_papers s b) ++ judgements [] (map (pile_of s) bs)) ≡ length
        (map (judgement_on [] (verdicts_of s b.number)) (taken_papers s b)) + length (judgements [] (map (pile_of s) bs))
        → open_among s (filter (is_taken s) bs) ≤ length (judgements [] (map (pile_of s) bs))
        → open_among s (cond q (b ∷ filter (is_taken s) bs) (filter (is_taken s) bs)) ≤ length (judgements [] (map (pile_of s) (b ∷ bs)))
    go true own each all later = omega (arith, own, each, all, later)
    go false own each all later = omega (arith, own, each, all, later)

-- a ward of a state has at most 9999 batches of at most 500 papers, so its tally is exact
pub countable : (s : OfficeState) → IsState s → (ward : ℕ) (tally : Tally) → IsTally s (batches_of s ward) tally
    → (tally.taken ≡ length (taken_of s ward)) × (tally.differing ≡ length (differing_of s ward)) × (tally.doubtful_open ≡ open_among s (taken_of s ward))
countable s is ward tally as_far =
    let of = λ (b : BatchEntry). b.ward == ward in
    let own = batches_of s ward in
    let good = kept_all is_batch of s.batches (and_parts _ _ (and_parts _ _ (and_parts _ _ is.in_range).1).1).0 in
    let few = few_batches own good (IsStrictlySortedBy-filter batch_cmp of s.batches is.rise.batches) in
    let papers = few_among s [] own good (kept_all (λ b. are_rounds_to s b b.round) of s.batches (and_parts _ _ is.keyed).1) in (
      as_far.taken (omega (arith, few, fewer (is_taken s) own)),
      as_far.differing (omega (arith, few, fewer (is_differing s) own)),
      as_far.doubtful_open (omega (arith, few, papers, open_fewer s own)),
    )

-- ---- a ward

-- statuses with the same numbers are equal
pub same_status : (x y : StatusEntry) → x.ward ≡ y.ward → x.phase ≡ y.phase → x.candidates ≡ y.candidates → x.batches ≡ y.batches → x.taken ≡ y.taken
    → x.differing ≡ y.differing → x.doubtful_open ≡ y.doubtful_open → x.stages ≡ y.stages → x ≡ y
same_status x y ward phase candidates batches taken differing doubtful_open stages =
    ap (λ v. record x { ward = v }) ward
    ∙ ap (λ v. record x { ward = y.ward; phase = v }) phase
    ∙ ap (λ v. record x { ward = y.ward; phase = y.phase; candidates = v }) candidates
    ∙ ap (λ v. record x { ward = y.ward; phase = y.phase; candidates = y.candidates; batches = v }) batches
    ∙ ap (λ v. record y { taken = v; differing = x.differing; doubtful_open = x.doubtful_open; stages = x.stages }) taken
    ∙ ap (λ v. record y { differing = v; doubtful_open = x.doubtful_open; stages = x.stages }) differing
    ∙ ap (λ v. record y { doubtful_open = v; stages = x.stages }) doubtful_open
    ∙ ap (λ v. record y { stages = v }) stages
