-- What recounting a count's stages proves about the stages claimed to be done.
use Rattle.std.proofs.Common.{◌≡◌, ℕ, ◌+◌, ◌-◌, ◌<◌, ◌≤◌, ◌==◌, Bool, not, ◌&&◌, ◌||◌, List, [], ◌∷◌, map, length, slice_get, Option, Some, None, zero, suc, refl, sym, ap, ◌∙◌, arith, inl, inr}
use Rattle.std.specs.List.{list_all, range_with_len}
use Rattle.std.proofs.lemmas.Bool.Decides.{leb_tells}
use Rattle.std.proofs.lemmas.List.{length-map}
use Rattle.std.proofs.lemmas.List.FromFn.{get_or-map-range_with_len, length-range_with_len}
use Rattle.std.proofs.lemmas.Option.{slice_get-get_or, slice_get_past}
use Rattle.paper.proofs.ColumnSets.{length_columns}
use Rattle.count.specs.Law.Contest.{Contest, History, contest_for, IsContest}
use Rattle.count.specs.Law.Due.{due_after, next_action}
use Rattle.count.specs.Law.Count.{stages_to, with_stage}
use Rattle.count.specs.Law.Laws.{IsShort}
use Rattle.count.specs.declared.stages.Action.{Action}
use Rattle.count.specs.declared.stages.Due.{Due}
use Rattle.count.specs.declared.stages.Due.TheVariants.{Finished}
use Rattle.count.specs.Bundles.{Bundle, papers_of, bundled}
use Rattle.count.specs.Law.Right.{reordered}
use Rattle.register.specs.declared.polls.Ballots.{Ballots}
use Rattle.register.specs.Offices.{WardEntry, CandidateEntry}
use Rattle.register.specs.Marks.{columns_of}
use Rattle.register.specs.Elections.{ElectionEntry, IsElectionFrom, contest_of, is_finished, has_finished, is_declared, is_drawn_for, is_right_so_far, stages_of}
use Rattle.register.proofs.BundledLemmas.{other_order, stages-alike, due-alike}
use Rattle.rowcheck.specs.Walks.Counts.{is_drawn_by, IsOnBundlesOf}
use Rattle.rowcheck.proofs.SideBySideLemmas.{less_differs}

-- ---- the number of stages

module _ (contest : Contest) (lots : List (ℕ × ℕ)) where
  one_more : (before : History) (o : Option Action) → length (with_stage contest before o) ≤ length before + 1
  one_more before None = omega arith
  one_more before (Some action) = omega arith

  -- if a count has fewer stages than requested, it also has fewer than any greater number
  pub fewer : (k n : ℕ) → length (stages_to contest lots k) < k → length (stages_to contest lots (k + n)) < k + n
  unfolding stages_to
  fewer k zero less = let e : k + 0 ≡ k = omega arith in rw e less
  fewer k (suc n) less =
      let e : k + suc n ≡ suc (k + n) = omega arith in
      let before = fewer k n less in
      let more = one_more (stages_to contest lots (k + n)) (next_action contest lots (stages_to contest lots (k + n))) in
      rw e (omega (arith, before, more))

-- ---- what is due before each stage

module _ (f : ℕ → Due) (n i : ℕ) where
  due_within : i < n → slice_get (map f (range_with_len 0 n)) i ≡ Some (f i)
  due_within within =
      slice_get-get_or (map f (range_with_len 0 n)) i Finished (omega (arith, within, length-map (range_with_len 0 n) f, length-range_with_len 0 n))
      ∙ ap Some (get_or-map-range_with_len f 0 n i i Finished within (omega arith))

  due_past : n ≤ i → slice_get (map f (range_with_len 0 n)) i ≡ None
  due_past past = slice_get_past (map f (range_with_len 0 n)) i (omega (arith, past, length-map (range_with_len 0 n) f, length-range_with_len 0 n))

all_same : {X : Type 0} (p q : X → Bool) (xs : List X) → ((x : X) → p x ≡ q x) → list_all p xs ≡ list_all q xs
all_same p q [] same = refl
all_same p q (x ∷ xs) same = rw (same x, all_same p q xs same) refl

pub map-alike : {X Y : Type 0} (f g : X → Y) (xs : List X) → ((x : X) → f x ≡ g x) → map f xs ≡ map g xs
map-alike f g [] alike = refl
map-alike f g (x ∷ xs) alike = rw (alike x, map-alike f g xs alike) refl

-- The count of an election with its papers in bundles.
module _ (e : ElectionEntry) (ward : WardEntry) (lots : List (ℕ × ℕ)) (contest : Contest) (of : IsOnBundlesOf e ward lots contest) where
  -- this is the count of the given election, with the given ward and lots
  pub count-same : (let one : ElectionEntry = record { ward = ward; candidates = e.candidates; ballots = e.ballots; lots = lots } in one) ≡ e
  count-same =
      ap (λ (w : WardEntry). let one : ElectionEntry = record { ward = w; candidates = e.candidates; ballots = e.ballots; lots = lots } in one) of.ward_is
      ∙ ap (λ (ls : List (ℕ × ℕ)). let one : ElectionEntry = record { ward = e.ward; candidates = e.candidates; ballots = e.ballots; lots = ls } in one) of.lots_are

  -- the count has the same papers, in a different order
  pub count-order : contest ≡ reordered (contest_of e) (papers_of (bundled e.ballots.papers))
  count-order = other_order e (columns_of e.candidates) e.ward.seats (bundled e.ballots.papers) refl refl refl lots of.lots_are contest of.contest_is

  -- the count has the same stages
  pub count-stages : (k : ℕ) → stages_to contest lots k ≡ stages_to (contest_of e) e.lots k
  count-stages = stages-alike e (columns_of e.candidates) e.ward.seats (bundled e.ballots.papers) refl refl refl lots of.lots_are contest of.contest_is

  -- what is due before each stage is the same
  pub count-due : (k : ℕ) → due_after contest (stages_to contest lots k) ≡ due_after (contest_of e) (stages_to (contest_of e) e.lots k)
  count-due = due-alike e (columns_of e.candidates) e.ward.seats (bundled e.ballots.papers) refl refl refl lots of.lots_are contest of.contest_is

-- a contest made from the entries of an election is a contest with the election's bundles
pub made-count : (e : ElectionEntry) (ward : WardEntry) (candidates : List CandidateEntry) (ballots : Ballots (List Bundle)) (lots : List (ℕ × ℕ)) (columns : List ℕ) (contest : Contest)
    → IsElectionFrom e ward candidates ballots lots → IsContest (contest_of e) →
    columns ≡ columns_of candidates → contest ≡ contest_for columns ward.seats (papers_of ballots.papers) → IsOnBundlesOf e ward lots contest
made-count e ward candidates ballots lots columns contest made fair are on = record {
  fair = fair;
  ward_is = made.ward_is;
  lots_are = made.lots_are;
  contest_is =
      on
      ∙ ap (λ cs. contest_for cs ward.seats (papers_of ballots.papers)) (are ∙ ap columns_of made.candidates_are)
      ∙ ap (λ (w : WardEntry). contest_for (columns_of e.candidates) w.seats (papers_of ballots.papers)) made.ward_is
      ∙ ap (λ bs. contest_for (columns_of e.candidates) e.ward.seats (papers_of bs)) made.ballots_are.papers_held;
}

module _ (e : ElectionEntry) where
  abbrev due_at : ℕ → Due
  due_at k = due_after (contest_of e) (stages_to (contest_of e) e.lots k)

  -- what is due before each completed stage, and before the stage that follows
  abbrev dues_of : List Due
  dues_of = map due_at (range_with_len 0 (e.ward.done + 1))

  drawn_one : (lot : ℕ × ℕ) → is_drawn_by dues_of lot ≡ is_drawn_for e lot
  drawn_one lot = elim (leb_tells lot.0 (e.ward.done + 1)) [
    | inl least ↦ let l = least.1 in rw (least.0, due_within due_at (e.ward.done + 1) (lot.0 - 1) (omega (arith, l))) refl
    | inr past ↦ let p = past.1 in rw (past.0, due_past due_at (e.ward.done + 1) (lot.0 - 1) (omega (arith, p))) refl
  ]

  -- if all completed stages have been counted
  told : (has_finished (slice_get dues_of e.ward.done) ≡ is_finished (due_at e.ward.done)) × (list_all (is_drawn_by dues_of) e.lots ≡ list_all (is_drawn_for e) e.lots)
  told = (ap has_finished (due_within due_at (e.ward.done + 1) e.ward.done (omega arith)), all_same (is_drawn_by dues_of) (is_drawn_for e) e.lots drawn_one)

  module _ (asked : ℕ) (stages : History) (dues : List Due) (fair : IsContest (contest_of e)) (is : stages ≡ stages_to (contest_of e) e.lots asked) where
    -- what this proves about the completed stages and about the lots
    abbrev pub is_told : Bool
    is_told = (length stages == e.ward.done) && (list_all (is_drawn_by dues) e.lots && (not (is_declared e.ward.phase) || has_finished (slice_get dues e.ward.done)))

    told_few : asked ≡ e.ward.done → dues ≡ map due_at (range_with_len 0 (asked + 1)) → is_told ≡ is_right_so_far e
    told_few all each = rw (each, is, all, told.0, told.1) refl

    told_many : 31 < e.ward.done → asked ≡ 32 → IsShort (contest_of e) stages → is_told ≡ is_right_so_far e
    told_many many most short =
        let columns = length_columns (contest_of e).candidates fair.candidate_set in
        let long : length (stages_to (contest_of e) e.lots 32) ≡ length stages = rw (is, most) refl in
        let less : length (stages_to (contest_of e) e.lots 32) < 32 = omega (arith, columns, long, short) in
        let whole : 32 + (e.ward.done - 32) ≡ e.ward.done = omega (arith, many) in
        let later : length (stages_to (contest_of e) e.lots e.ward.done) < e.ward.done = rw (sym whole) (fewer (contest_of e) e.lots 32 (e.ward.done - 32) less) in
        rw (less_differs (length stages) e.ward.done (omega (arith, columns, short, many)), less_differs _ e.ward.done later) refl

    pub told_right : (e.ward.done ≤ 31 → asked ≡ e.ward.done) → (31 < e.ward.done → asked ≡ 32) → IsShort (contest_of e) stages → dues ≡ map due_at (range_with_len 0 (asked + 1))
        → is_told ≡ is_right_so_far e
    told_right few many short each = elim (leb_tells e.ward.done 31) [
      | inl least ↦ told_few (few least.1) each
      | inr past ↦ told_many past.1 (many past.1) short
    ]

    -- if as many stages are counted as are claimed to be done, the counted stages are the completed stages
    pub told_stages : (e.ward.done ≤ 31 → asked ≡ e.ward.done) → IsShort (contest_of e) stages → length stages ≡ e.ward.done → stages ≡ stages_of e
    told_stages few short all =
        let columns = length_columns (contest_of e).candidates fair.candidate_set in
        is ∙ ap (stages_to (contest_of e) e.lots) (few (omega (arith, columns, short, all)))
