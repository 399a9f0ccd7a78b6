-- Stages parsed from the figures that they show.
use Rattle.std.proofs.Common.{◌≡◌, ℕ, suc, ◌+◌, ◌-◌, ◌<◌, ◌||◌, Bool, true, false, cond, nat_eq, List, [], ◌∷◌, ◌++◌, length, map, take, drop, set, get_or, inl, inr, Some, None, refl, sym}
use Rattle.std.proofs.Common.{ap, ◌∙◌, arith, slice_index, get_or-set_same, get_or-set_other, length-set}
use Rattle.std.specs.List.{list_any}
use Rattle.paper.specs.Columns.{IsCandidateSet}
use Rattle.std.proofs.Math.Seq.{drop-cons, take-append_seam, get_or-append_seam}
use Rattle.std.proofs.lemmas.Bool.{eq-eqb, ne_eqb, cases_eq}
use Rattle.std.proofs.lemmas.Grind.{same_number_lists}
use Rattle.std.proofs.lemmas.List.{get_or-map, length-map}
use Rattle.std.proofs.lemmas.List.Folds.{list_any_more}
use Rattle.std.proofs.lemmas.List.FromFn.{get_or-map-range_with_len}
use Rattle.count.specs.Inside.Reading.{is_elected_mark, elected_shown, votes_shown, units_shown, action_by, action_or, action_shown}
use Rattle.count.specs.declared.figures.Figure.{Figure}
use Rattle.count.specs.declared.stages.Action.{Action}
use Rattle.count.specs.declared.stages.Stage.{Stage}
use Rattle.count.proofs.ColumnLemmas.{chosen-yes, chosen-no}

or_none : (b : Bool) → (b || false) ≡ b
or_none true = refl
or_none false = refl

or_some : (b : Bool) → (b || true) ≡ true
or_some true = refl
or_some false = refl

-- the votes for a number, given the first candidates, and given another one
units_own : (f : ℕ → Figure) (xs : List ℕ) (i n : ℕ) → i < length xs → n ≡ slice_index xs i → units_shown f (take (i + 1) xs) n ≡ (f n).units
units_own f xs i n within same =
    ap (λ b. cond b (f n).units 0) (list_any_more (nat_eq n) xs i 0 within ∙ ap (λ b. list_any (nat_eq n) (take i xs) || b) (eq-eqb n (slice_index xs i) same)
    ∙ or_some (list_any (nat_eq n) (take i xs)))

units_other : (f : ℕ → Figure) (xs : List ℕ) (i n : ℕ) → i < length xs → (n ≡ slice_index xs i → ⊥) → units_shown f (take (i + 1) xs) n ≡ units_shown f (take i xs) n
units_other f xs i n within other =
    ap (λ b. cond b (f n).units 0) (list_any_more (nat_eq n) xs i 0 within ∙ ap (λ b. list_any (nat_eq n) (take i xs) || b) (ne_eqb n (slice_index xs i) other)
    ∙ or_none (list_any (nat_eq n) (take i xs)))

at_place : (f : ℕ → Figure) (xs : List ℕ) (k : ℕ) → k < 30 → get_or (votes_shown f xs) k 0 ≡ units_shown f xs (k + 1)
at_place f xs k small = get_or-map-range_with_len (units_shown f xs) 1 30 k (k + 1) 0 small (omega arith)

-- the votes, given the first candidates, and given another one
pub votes-more : (f : ℕ → Figure) (xs votes : List ℕ) (i j v : ℕ) → i < length xs → j + 1 ≡ slice_index xs i → j < 30 → v ≡ (f (slice_index xs i)).units →
    votes ≡ votes_shown f (take i xs) → set votes j v ≡ votes_shown f (take (i + 1) xs)
votes-more f xs votes i j v within at column own so_far =
    same_number_lists (set votes j v) (votes_shown f (take (i + 1) xs)) (length-set votes j v ∙ size) (λ k small. each k (omega (arith, small, length-set votes j v, size)))
  where
    size : length votes ≡ 30
    size = ap length so_far

    each : (k : ℕ) → k < 30 → get_or (set votes j v) k 0 ≡ get_or (votes_shown f (take (i + 1) xs)) k 0
    each k small =
        elim (cases_eq k j) as (λ _. get_or (set votes j v) k 0 ≡ get_or (votes_shown f (take (i + 1) xs)) k 0) [
          | inl same ↦
              let here : k + 1 ≡ slice_index xs i = omega (arith, same, at) in
              ap (λ m. get_or (set votes j v) m 0) same ∙ get_or-set_same votes j v 0 (omega (arith, column, size))
              ∙ own ∙ ap (λ n. (f n).units) (sym here)
              ∙ sym (at_place f (take (i + 1) xs) k small ∙ units_own f xs i (k + 1) within here)
          | inr other ↦
              get_or-set_other votes j k v 0 other ∙ ap (λ l. get_or l k 0) so_far ∙ at_place f (take i xs) k small
              ∙ sym (at_place f (take (i + 1) xs) k small ∙ units_other f xs i (k + 1) within (λ same. other (omega (arith, same, at))))
        ]

-- the action shown by the candidates starting at a position, given the mark at that position
action_at : (f : ℕ → Figure) (xs : List ℕ) (i mark : ℕ) → i < length xs → mark ≡ (f (slice_index xs i)).mark →
    action_shown f (drop i xs) ≡ action_or (action_shown f (drop (i + 1) xs)) (action_by mark (slice_index xs i))
action_at f xs i mark within is =
    let e : suc i ≡ i + 1 = omega arith in
    ap (action_shown f) (drop-cons xs i 0 within ∙ ap (λ k. slice_index xs i ∷ drop k xs) e)
    ∙ ap (λ m. action_or (action_shown f (drop (i + 1) xs)) (action_by m (slice_index xs i))) (sym is)

pub action-none : (f : ℕ → Figure) (xs : List ℕ) (i mark : ℕ) → i < length xs → mark ≡ (f (slice_index xs i)).mark → action_by mark (slice_index xs i) ≡ None →
    action_shown f (drop i xs) ≡ action_shown f (drop (i + 1) xs)
action-none f xs i mark within is none = action_at f xs i mark within is ∙ ap (action_or (action_shown f (drop (i + 1) xs))) none

pub action-some : (f : ℕ → Figure) (xs : List ℕ) (i mark : ℕ) (action : Action) → i < length xs → mark ≡ (f (slice_index xs i)).mark → action_by mark (slice_index xs i) ≡ Some action →
    action_shown f (drop i xs) ≡ action
action-some f xs i mark action within is some = action_at f xs i mark within is ∙ ap (action_or (action_shown f (drop (i + 1) xs))) some

-- the figure at a position, if the figures are a function of the candidates
pub figure-at : (f : ℕ → Figure) (xs : List ℕ) (figures : List Figure) (i : ℕ) (d : Figure) → figures ≡ map f xs → i < length xs → get_or figures i d ≡ f (slice_index xs i)
figure-at f xs figures i d are within = ap (λ (l : List Figure). get_or l i d) are ∙ get_or-map f xs i 0 d within

-- the figures of the candidates are between the first and the last figure of a stage
pub between : (f : ℕ → Figure) (xs : List ℕ) (first last : Figure) (figures : List Figure) (n : ℕ) → figures ≡ first ∷ (map f xs ++ last ∷ []) → n ≡ length xs →
    take (n + 1 - 1) (drop 1 figures) ≡ map f xs
between f xs first last figures n are size =
    let e : n + 1 - 1 ≡ length (map f xs) = omega (arith, size, length-map xs f) in
    ap (λ (l : List Figure). take (n + 1 - 1) (drop 1 l)) are ∙ ap (λ k. take k (map f xs ++ last ∷ [])) e ∙ take-append_seam (map f xs) (last ∷ [])

pub first-shown : (rest : List Figure) (first d : Figure) (figures : List Figure) → figures ≡ first ∷ rest → get_or figures 0 d ≡ first
first-shown rest first d figures are = ap (λ (l : List Figure). get_or l 0 d) are

pub last-shown : (f : ℕ → Figure) (xs : List ℕ) (first last d : Figure) (figures : List Figure) (n : ℕ) → figures ≡ first ∷ (map f xs ++ last ∷ []) → n ≡ length xs → get_or figures (n + 1) d ≡ last
last-shown f xs first last d figures n are size =
    let e : n + 1 ≡ suc (length (map f xs)) = omega (arith, size, length-map xs f) in
    ap (λ (l : List Figure). get_or l (n + 1) d) are ∙ ap (λ k. get_or (first ∷ (map f xs ++ last ∷ [])) k d) e ∙ get_or-append_seam (map f xs) last [] d

-- a stage equals one with the same parts
pub stage-made : (s : Stage) (a : Action) (v e : List ℕ) (n l : ℕ) → a ≡ s.action → v ≡ s.votes → e ≡ s.elected → n ≡ s.non_transferable → l ≡ s.lost →
    let made : Stage = record { action = a; votes = v; elected = e; non_transferable = n; lost = l } in made ≡ s
stage-made s a v e n l of votes elected none lost =
    ap (λ (x : Action). let t : Stage = record { action = x; votes = v; elected = e; non_transferable = n; lost = l } in t) of
    ∙ ap (λ (x : List ℕ). let t : Stage = record { action = s.action; votes = x; elected = e; non_transferable = n; lost = l } in t) votes
    ∙ ap (λ (x : List ℕ). let t : Stage = record { action = s.action; votes = s.votes; elected = x; non_transferable = n; lost = l } in t) elected
    ∙ ap (λ (x : ℕ). let t : Stage = record { action = s.action; votes = s.votes; elected = s.elected; non_transferable = x; lost = l } in t) none
    ∙ ap (λ (x : ℕ). let t : Stage = record { action = s.action; votes = s.votes; elected = s.elected; non_transferable = s.non_transferable; lost = x } in t) lost

-- the first candidates that are marked as elected, and another that is, or isn't
pub elected-yes : (f : ℕ → Figure) (xs chosen more : List ℕ) (i mark : ℕ) → IsCandidateSet xs → i < length xs → mark ≡ (f (slice_index xs i)).mark → is_elected_mark mark ≡ true →
    chosen ≡ elected_shown f (take i xs) →
    (IsCandidateSet (chosen ++ slice_index xs i ∷ []) → more ≡ chosen ++ slice_index xs i ∷ []) → more ≡ elected_shown f (take (i + 1) xs)
elected-yes f xs chosen more i mark set within is passes so_far last =
    chosen-yes (λ c. is_elected_mark (f c).mark) xs chosen more i set within (ap is_elected_mark (sym is) ∙ passes) so_far last

pub elected-no : (f : ℕ → Figure) (xs chosen : List ℕ) (i mark : ℕ) → i < length xs → mark ≡ (f (slice_index xs i)).mark → is_elected_mark mark ≡ false → chosen ≡ elected_shown f (take i xs) →
    chosen ≡ elected_shown f (take (i + 1) xs)
elected-no f xs chosen i mark within is fails so_far = chosen-no (λ c. is_elected_mark (f c).mark) xs chosen i within (ap is_elected_mark (sym is) ∙ fails) so_far
