-- The places of bundles: each is sound, and an action moves the bundle to the place that the law assigns.
use Rattle.std.proofs.Common.{◌≡◌, ℕ, ◌≤◌, Bool, true, false, cond, eqb, List, [], ◌∷◌, ◌++◌, drop, refl, sym, ap, ◌∙◌, arith}
use Rattle.std.specs.List.{AllByRecursion}
use Rattle.std.proofs.lemmas.List.{append-nil}
use Rattle.std.proofs.Math.Nat.{div-le_of_le-mul, mul-le-mul_right}
use Rattle.votes.specs.Units.{one_vote, cut}
use Rattle.paper.specs.Columns.{max_candidates}
use Rattle.paper.specs.Ranking.{IsRanking}
use Rattle.paper.specs.Standing.{from_first}
use Rattle.count.specs.Bundles.{Bundle, IsBundle}
use Rattle.count.specs.Books.{placed}
use Rattle.count.specs.Law.Contest.{Contest, History, IsContest, newest_votes}
use Rattle.count.specs.Law.Count.{begun}
use Rattle.count.specs.Law.Elected.{is_continuing, continuing_after}
use Rattle.count.specs.Law.Places.{Place, place, moved, passed_on, first_of, after, next_available, surplus_of}
use Rattle.count.specs.Inside.Holdings.{new_value, IsTransferRule, OnlyColumns}
use Rattle.count.specs.StoredCounts.{places_after}
use Rattle.count.specs.Inside.Placing.{IsSound, first_places, passed_at, passed_places}
use Rattle.count.specs.declared.parcel.TransferRule.{TransferRule}
use Rattle.count.specs.declared.parcel.TransferRule.TheVariants.{AsReceived, Share}
use Rattle.count.specs.declared.placed.Placed.{Placed}
use Rattle.count.specs.declared.stages.Action.{Action}
use Rattle.count.specs.declared.stages.Action.TheVariants.{First, Surplus, Exclude, ExcludeLast}
use Rattle.count.proofs.ColumnLemmas.{columns-filter, only-columns}
use Rattle.count.proofs.ParcelTotals.{first-known, from_first-same}

-- a part of a value is at most the value
cut-small : (s v t : ℕ) → s ≤ t → cut s v t ≤ v
cut-small s v t part = div-le_of_le-mul t (mul-le-mul_right v part)

passed_small : (b : Bool) (h w : ℕ) (at : Place) → w ≤ one_vote → at.value ≤ one_vote → (let m : Place = record { holder = h; value = w } in cond b m at).value ≤ one_vote
passed_small true h w at new old = new
passed_small false h w at new old = old

moved_small : (contest : Contest) (before : History) (action : Action) (p : List ℕ) (at : Place) → at.value ≤ one_vote → (moved contest before action p at).value ≤ one_vote
moved_small contest before First p at small = omega arith
moved_small contest before (Surplus c) p at small =
    let part : surplus_of contest before c ≤ newest_votes before c = omega arith in
    let kept : cut (surplus_of contest before c) at.value (newest_votes before c) ≤ at.value = cut-small (surplus_of contest before c) at.value (newest_votes before c) part in
    passed_small (eqb at.holder c) (next_available contest before c p) (cut (surplus_of contest before c) at.value (newest_votes before c)) at (omega (arith, kept, small)) small
moved_small contest before (Exclude c) p at small = passed_small (eqb at.holder c) (next_available contest before c p) at.value at small small
moved_small contest before (ExcludeLast c) p at small = small

-- no paper's value exceeds one vote
value-small : (contest : Contest) (stages : History) (p : List ℕ) → (place contest stages p).value ≤ one_vote
value-small contest [] p = omega arith
value-small contest (s ∷ before) p = moved_small contest before s.action p (place contest before p) (value-small contest before p)

first_few : (p : List ℕ) → IsRanking p → first_of p ≤ max_candidates
first_few [] r = omega arith
first_few (x ∷ xs) r = r.1

next_few : (contest : Contest) (before : History) (c : ℕ) (p : List ℕ) → IsContest contest → next_available contest before c p ≤ max_candidates
next_few contest before c p fair =
    first-known (is_continuing contest before) (after c p)
    (only-columns (continuing_after contest before) (is_continuing contest before) (columns-filter _ contest.candidates fair.candidate_set) (λ d. refl))

passed_few : (b : Bool) (h w : ℕ) (at : Place) → h ≤ max_candidates → at.holder ≤ max_candidates → (let m : Place = record { holder = h; value = w } in cond b m at).holder ≤ max_candidates
passed_few true h w at new old = new
passed_few false h w at new old = old

moved_few : (contest : Contest) (before : History) (action : Action) (p : List ℕ) (at : Place) → IsContest contest → IsRanking p → at.holder ≤ max_candidates →
    (moved contest before action p at).holder ≤ max_candidates
moved_few contest before First p at fair r few = first_few p r
moved_few contest before (Surplus c) p at fair r few = passed_few (eqb at.holder c) (next_available contest before c p) _ at (next_few contest before c p fair) few
moved_few contest before (Exclude c) p at fair r few = passed_few (eqb at.holder c) (next_available contest before c p) _ at (next_few contest before c p fair) few
moved_few contest before (ExcludeLast c) p at fair r few = few

-- the holder of a paper has a possible candidate number, or is no one
holder-few : (contest : Contest) (stages : History) (p : List ℕ) → IsContest contest → IsRanking p → (place contest stages p).holder ≤ max_candidates
holder-few contest [] p fair r = omega arith
holder-few contest (s ∷ before) p fair r = moved_few contest before s.action p (place contest before p) fair r (holder-few contest before p fair r)

-- all places are sound
pub sound-places : (contest : Contest) (stages : History) (bundles : List Bundle) → IsContest contest → AllByRecursion IsBundle bundles → AllByRecursion IsSound (places_after contest stages bundles)
sound-places contest stages [] fair each = tt
sound-places contest stages (b ∷ bs) fair each = ((holder-few contest stages b.0 fair each.0.2, value-small contest stages b.0), sound-places contest stages bs fair each.1)

passed_choice : (b : Bool) (h w : ℕ) (at : Place) →
    (let m : Placed = record { holder = h; value = w } in cond b m (placed at)) ≡ placed (let m : Place = record { holder = h; value = w } in cond b m at)
passed_choice true h w at = refl
passed_choice false h w at = refl

passed-one : (contest : Contest) (before : History) (c : ℕ) (rule : TransferRule) (p : List ℕ) (at : Place) →
    passed_at (is_continuing contest before) rule c p (placed at) ≡ placed (passed_on contest before c p at (new_value rule at.value))
passed-one contest before c rule p at = passed_choice (eqb at.holder c) (next_available contest before c p) (new_value rule at.value) at

-- an action that passes on a candidate's papers moves bundles to the places that the law assigns
passed-all : (contest : Contest) (before : History) (c : ℕ) (rule : TransferRule) (action : Action) (bundles : List Bundle) →
    ((p : List ℕ) (at : Place) → passed_on contest before c p at (new_value rule at.value) ≡ moved contest before action p at) →
    passed_places (is_continuing contest before) rule c (places_after contest before bundles) bundles ≡ places_after contest (begun action [] ∷ before) bundles
passed-all contest before c rule action [] by = refl
passed-all contest before c rule action (b ∷ bs) by =
    let at : Place = place contest before b.0 in
    let here : passed_at (is_continuing contest before) rule c b.0 (placed at) ≡ placed (moved contest before action b.0 at) = passed-one contest before c rule b.0 at ∙ ap placed (by b.0 at) in
    ap (λ (x : Placed). x ∷ passed_places (is_continuing contest before) rule c (places_after contest before bs) bs) here
    ∙ ap (λ (l : List Placed). placed (moved contest before action b.0 at) ∷ l) (passed-all contest before c rule action bs by)

-- two tests that agree on who continues give the same result
passed-same : (p q : ℕ → Bool) (rule : TransferRule) (c : ℕ) (places : List Placed) (bundles : List Bundle) → ((d : ℕ) → p d ≡ q d) →
    passed_places p rule c places bundles ≡ passed_places q rule c places bundles
passed-same p q rule c [] bundles same = refl
passed-same p q rule c (at ∷ places) [] same = refl
passed-same p q rule c (at ∷ places) (b ∷ bs) same =
    let rest : List ℕ = drop 1 (from_first (λ d. eqb d c) b.0) in
    ap (λ (l : List ℕ). (let m : Placed = record { holder = first_of l; value = new_value rule at.value } in cond (eqb at.holder c) m at) ∷ passed_places p rule c places bs)
    (from_first-same p q rest same)
    ∙ ap (λ (l : List Placed). passed_at q rule c b.0 at ∷ l) (passed-same p q rule c places bs same)

-- the papers passed on by a surplus, and by an exclusion
pub surplus-places : (contest : Contest) (before : History) (c : ℕ) (continues : ℕ → Bool) (places : List Placed) (bundles : List Bundle) → ((d : ℕ) → continues d ≡ is_continuing contest before d) →
    places ≡ places_after contest before bundles →
    passed_places continues (Share (surplus_of contest before c) (newest_votes before c)) c places bundles ≡ places_after contest (begun (Surplus c) [] ∷ before) bundles
surplus-places contest before c continues places bundles same are =
    let rule : TransferRule = Share (surplus_of contest before c) (newest_votes before c) in
    passed-same continues (is_continuing contest before) rule c places bundles same
    ∙ ap (λ (l : List Placed). passed_places (is_continuing contest before) rule c l bundles) are
    ∙ passed-all contest before c rule (Surplus c) bundles (λ p at. refl)

pub exclude-places : (contest : Contest) (before : History) (c : ℕ) (continues : ℕ → Bool) (places : List Placed) (bundles : List Bundle) → ((d : ℕ) → continues d ≡ is_continuing contest before d) →
    places ≡ places_after contest before bundles →
    passed_places continues AsReceived c places bundles ≡ places_after contest (begun (Exclude c) [] ∷ before) bundles
exclude-places contest before c continues places bundles same are =
    passed-same continues (is_continuing contest before) AsReceived c places bundles same
    ∙ ap (λ (l : List Placed). passed_places (is_continuing contest before) AsReceived c l bundles) are
    ∙ passed-all contest before c AsReceived (Exclude c) bundles (λ p at. refl)

-- if no bundle remains, no place remains
pub passed-none : (continues : ℕ → Bool) (rule : TransferRule) (c : ℕ) (places : List Placed) → passed_places continues rule c places [] ≡ []
passed-none continues rule c [] = refl
passed-none continues rule c (at ∷ places) = refl

-- when no bundle remains, all places are complete
pub passed-end : (continues : ℕ → Bool) (rule : TransferRule) (c : ℕ) (made all rest : List Placed) (left : List Bundle) → left ≡ [] →
    made ++ passed_places continues rule c rest left ≡ all → made ≡ all
passed-end continues rule c made all rest left none so_far =
    sym (append-nil made)
    ∙ ap (λ (l : List Placed). made ++ l) (sym (passed-none continues rule c rest))
    ∙ ap (λ (l : List Bundle). made ++ passed_places continues rule c rest l) (sym none)
    ∙ so_far

-- places remain sound when papers are passed on:
pub sound-first : (bundles : List Bundle) → AllByRecursion IsBundle bundles → AllByRecursion IsSound (first_places bundles)
sound-first [] each = tt
sound-first (b ∷ bs) each = ((first_few b.0 each.0.2, omega arith), sound-first bs each.1)

new_small : (rule : TransferRule) (v : ℕ) → IsTransferRule rule → v ≤ one_vote → new_value rule v ≤ one_vote
new_small AsReceived v is small = small
new_small (Share s t) v is small = omega (arith, cut-small s v t (omega (arith, is.1)), small)

passed_sound : (b : Bool) (h v : ℕ) (at : Placed) → h ≤ max_candidates → v ≤ one_vote → IsSound at → IsSound (let m : Placed = record { holder = h; value = v } in cond b m at)
passed_sound true h v at few small sound = (few, small)
passed_sound false h v at few small sound = sound

pub sound-passed : (continues : ℕ → Bool) (rule : TransferRule) (c : ℕ) (places : List Placed) (bundles : List Bundle) → OnlyColumns continues → IsTransferRule rule → AllByRecursion IsSound places →
    AllByRecursion IsSound (passed_places continues rule c places bundles)
sound-passed continues rule c [] bundles only is sound = tt
sound-passed continues rule c (at ∷ places) [] only is sound = tt
sound-passed continues rule c (at ∷ places) (b ∷ bs) only is sound = (
  passed_sound (eqb at.holder c) _ (new_value rule at.value) at (first-known continues (drop 1 (from_first (λ d. eqb d c) b.0)) only) (new_small rule at.value is sound.0.1) sound.0,
  sound-passed continues rule c places bs only is sound.1,
)
