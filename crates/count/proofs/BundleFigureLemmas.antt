-- The worth of the papers of bundles equals the sum that the law takes over all papers.
use Rattle.std.proofs.Common.{◌≡◌, ℕ, suc, zero, ◌+◌, ◌*◌, ◌≤◌, ◌||◌, Bool, true, false, cond, eqb, List, [], ◌∷◌, length, map, replicate, slice_index, Option, refl, sym, ap, ◌∙◌, arith}
use Rattle.std.proofs.Common.{length-append}
use Rattle.std.specs.List.{AllByRecursion, sum_by}
use Rattle.std.proofs.Math.Nat.{mul-le-mul_left}
use Rattle.std.proofs.lemmas.List.{length-replicate}
use Rattle.std.proofs.lemmas.List.Sums.{sum_by-append}
use Rattle.std.proofs.lemmas.List.Folds.{sum_by-replicate}
use Rattle.votes.specs.Units.{one_vote, max_papers, max_units}
use Rattle.paper.specs.Columns.{max_candidates}
use Rattle.count.specs.Advance.{IsDue}
use Rattle.count.specs.Books.{placed}
use Rattle.count.specs.Bundles.{Bundle, papers_of}
use Rattle.count.specs.Law.Contest.{Contest, History, IsContest, numbers}
use Rattle.count.specs.Law.Count.{begun}
use Rattle.count.specs.Law.Elected.{transfers, is_transferred}
use Rattle.count.specs.Law.Figures.{votes_after, non_transferable_after, lost_after, lost_by}
use Rattle.count.specs.Law.Places.{place}
use Rattle.count.specs.Law.Right.{IsRightByItself, candidate_of}
use Rattle.count.specs.Inside.Holdings.{newest_lost}
use Rattle.count.specs.StoredCounts.{places_after}
use Rattle.count.specs.Inside.Placing.{IsDueInBook, IsSound, value_of, value_to, worth_placed, votes_from, lost_from}
use Rattle.count.specs.declared.placed.Placed.{Placed}
use Rattle.count.specs.declared.stages.Action.{Action}
use Rattle.count.specs.declared.stages.Action.TheVariants.{First, Surplus, Exclude, ExcludeLast}
use Rattle.count.specs.declared.stages.Stage.{Stage}
use Rattle.count.proofs.MoveLemmas.{surplus-lawful}
use Rattle.count.proofs.ParcelFigureLemmas.{map-numbers, newest_lost-is, newest_small}
use Rattle.count.proofs.Law.StepLemmas.{step-first, surplus-held}
use Rattle.count.proofs.Law.ValueLemmas.{all_values, held, surplus-conserves}

by_itself : History → Stage → Option ℕ
by_itself before s = candidate_of s.action

-- a sum over the papers of bundles equals the sum over the bundles, each multiplied by its number of papers
pub sum-papers : (f : List ℕ → ℕ) (b : Bundle) (bs : List Bundle) → sum_by f (papers_of (b ∷ bs)) ≡ b.1 * f b.0 + sum_by f (papers_of bs)
sum-papers f b bs = sum_by-append f (replicate b.1 b.0) (papers_of bs) ∙ ap (λ n. n + sum_by f (papers_of bs)) (sum_by-replicate f b.1 b.0)

worth-papers : (f : Placed → ℕ) (at : List ℕ → Placed) (bundles : List Bundle) → worth_placed f (map (λ (b : Bundle). at b.0) bundles) bundles ≡ sum_by (λ p. f (at p)) (papers_of bundles)
worth-papers f at [] = refl
worth-papers f at (b ∷ bs) = ap (λ n. b.1 * f (at b.0) + n) (worth-papers f at bs) ∙ sym (sum-papers (λ p. f (at p)) b bs)

-- the same equation for the papers of a contest at their places
worth-places : (f : Placed → ℕ) (contest : Contest) (stages : History) (bundles : List Bundle) (places : List Placed) → contest.papers ≡ papers_of bundles →
    places ≡ places_after contest stages bundles →
    worth_placed f places bundles ≡ sum_by (λ p. f (placed (place contest stages p))) contest.papers
worth-places f contest stages bundles places papers are =
    ap (λ (l : List Placed). worth_placed f l bundles) are
    ∙ worth-papers f (λ p. placed (place contest stages p)) bundles
    ∙ ap (sum_by (λ p. f (placed (place contest stages p)))) (sym papers)

pub worth-all : (contest : Contest) (stages : History) (bundles : List Bundle) (places : List Placed) → contest.papers ≡ papers_of bundles → places ≡ places_after contest stages bundles →
    worth_placed value_of places bundles ≡ all_values contest stages
worth-all contest stages bundles places papers are = worth-places value_of contest stages bundles places papers are

pub worth-held : (h : ℕ) (contest : Contest) (stages : History) (bundles : List Bundle) (places : List Placed) → contest.papers ≡ papers_of bundles → places ≡ places_after contest stages bundles →
    worth_placed (value_to h) places bundles ≡ held contest stages h
worth-held h contest stages bundles places papers are = worth-places (value_to h) contest stages bundles places papers are

-- if all places are sound, papers are worth at most one vote each, in total and to each holder
worth-sound : (f : Placed → ℕ) (places : List Placed) (bundles : List Bundle) → ((at : Placed) → IsSound at → f at ≤ one_vote) → AllByRecursion IsSound places →
    worth_placed f places bundles ≤ one_vote * length (papers_of bundles)
worth-sound f [] bundles small sound = omega arith
worth-sound f (at ∷ places) [] small sound = omega arith
worth-sound f (at ∷ places) (b ∷ bs) small sound =
    let here : b.1 * f at ≤ b.1 * one_vote = mul-le-mul_left b.1 (small at sound.0) in
    let many : length (papers_of (b ∷ bs)) ≡ b.1 + length (papers_of bs) =
    length-append (replicate b.1 b.0) (papers_of bs) ∙ ap (λ n. n + length (papers_of bs)) (length-replicate b.1 b.0) in
    omega (arith, here, many, worth-sound f places bs small sound.1)

pub worth-few : (places : List Placed) (bundles : List Bundle) → AllByRecursion IsSound places → length (papers_of bundles) ≤ max_papers → worth_placed value_of places bundles ≤ max_units
worth-few places bundles sound few = omega (arith, worth-sound value_of places bundles (λ at is. is.1) sound, few)

value_within : (h : ℕ) (at : Placed) → IsSound at → value_to h at ≤ one_vote
value_within h at sound = within (eqb at.holder h) at.value sound.1
  where
    within : (b : Bool) (v : ℕ) → v ≤ one_vote → cond b v 0 ≤ one_vote
    within true v small = small
    within false v small = omega arith

pub holder-few : (places : List Placed) (bundles : List Bundle) → AllByRecursion IsSound places → length (papers_of bundles) ≤ max_papers → (h : ℕ) →
    worth_placed (value_to h) places bundles ≤ max_units
holder-few places bundles sound few h = omega (arith, worth-sound (value_to h) places bundles (value_within h) sound, few)

pub lost-few : (contest : Contest) (stages : History) → IsContest contest → IsRightByItself contest stages → newest_lost stages ≤ max_units
lost-few contest stages fair right = (newest_small contest (λ h t. candidate_of t.action) stages [] fair right (omega arith)).lost_small

-- the holders' sums are the votes for all candidate numbers,
pub votes-figured : (contest : Contest) (before : History) (action : Action) (bundles : List Bundle) (moved : List Placed) (sums : List ℕ) → contest.papers ≡ papers_of bundles →
    moved ≡ places_after contest (begun action [] ∷ before) bundles →
    ((h : ℕ) → h ≤ max_candidates → slice_index sums h ≡ worth_placed (value_to h) moved bundles) →
    map (votes_from contest.quota before action sums) numbers ≡ map (votes_after contest (begun action [] ∷ before)) numbers
votes-figured contest before action bundles moved sums papers are each =
    map-numbers (votes_from contest.quota before action sums) (votes_after contest (begun action [] ∷ before)) (λ c column.
    ap (λ n. cond (transfers action c || is_transferred before c) contest.quota n) (each c column.1 ∙ worth-held c contest (begun action [] ∷ before) bundles moved papers are))

-- and the non-transferable votes;
pub none-figured : (contest : Contest) (before : History) (action : Action) (bundles : List Bundle) (moved : List Placed) (sums : List ℕ) → contest.papers ≡ papers_of bundles →
    moved ≡ places_after contest (begun action [] ∷ before) bundles →
    ((h : ℕ) → h ≤ max_candidates → slice_index sums h ≡ worth_placed (value_to h) moved bundles) →
    slice_index sums 0 ≡ non_transferable_after contest (begun action [] ∷ before)
none-figured contest before action bundles moved sums papers are each = each 0 (omega arith) ∙ worth-held 0 contest (begun action [] ∷ before) bundles moved papers are

-- the old and the new worth of all papers determine the loss
lost_at : (contest : Contest) (before : History) (action : Action) → IsContest contest → IsRightByItself contest before → IsDue contest before action →
    lost_from contest.quota before action (all_values contest before) (all_values contest (begun action [] ∷ before)) ≡ lost_after contest (begun action [] ∷ before)
lost_at contest before First fair right due = omega (arith, newest_lost-is contest (λ h t. candidate_of t.action) before right)
lost_at contest [] (Surplus c) fair right due = let e = step-first contest due.lot (Surplus c) due.is in cc
lost_at contest (s ∷ before) (Surplus c) fair right due =
    let stages : History = s ∷ before in
    let next : Stage = begun (Surplus c) [] in
    let lawful = surplus-lawful contest stages c fair right due in
    let own = surplus-held contest s before c right.1.tells lawful.column lawful.above in
    let conserved = surplus-conserves contest next stages c refl (omega (arith, lawful.above)) (omega (arith, lawful.above)) own in
    let grown : lost_after contest (next ∷ stages) ≡ lost_after contest stages + lost_by contest next stages (Surplus c) = refl in
    omega (arith, conserved, grown, newest_lost-is contest (λ h t. candidate_of t.action) stages right)
lost_at contest before (Exclude c) fair right due = omega (arith, newest_lost-is contest (λ h t. candidate_of t.action) before right)
lost_at contest before (ExcludeLast c) fair right due = omega (arith, newest_lost-is contest (λ h t. candidate_of t.action) before right)

pub lost-figured : (contest : Contest) (before : History) (action : Action) (bundles : List Bundle) (places moved : List Placed) → IsDueInBook contest before bundles places action →
    moved ≡ places_after contest (begun action [] ∷ before) bundles →
    lost_from contest.quota before action (worth_placed value_of places bundles) (worth_placed value_of moved bundles) ≡ lost_after contest (begun action [] ∷ before)
lost-figured contest before action bundles places moved due are =
    ap (λ n. lost_from contest.quota before action n (worth_placed value_of moved bundles)) (worth-all contest before bundles places due.book.papers_are due.book.places_are)
    ∙ ap (lost_from contest.quota before action (all_values contest before)) (worth-all contest (begun action [] ∷ before) bundles moved due.book.papers_are are)
    ∙ lost_at contest before action due.book.fair due.book.right due.due

-- if there is no bundle, the worth is zero
pub worth-none : (f : Placed → ℕ) (places : List Placed) → worth_placed f places [] ≡ 0
worth-none f [] = refl
worth-none f (at ∷ places) = refl

-- if no bundle remains, the rest is worth zero
pub worth-end : (f : Placed → ℕ) (rest : List Placed) (left : List Bundle) → left ≡ [] → worth_placed f rest left ≡ 0
worth-end f rest left none = ap (worth_placed f rest) none ∙ worth-none f rest

-- initially every sum is zero
pub no-sums : (n h : ℕ) → slice_index (replicate n 0) h ≡ 0
no-sums zero h = refl
no-sums (suc n) zero = refl
no-sums (suc n) (suc h) = no-sums n h
