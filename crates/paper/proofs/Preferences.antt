-- The computed preferences are the longest list of candidates such that each is the only one with the next
-- number.
use Rattle.std.proofs.Common.{◌≡◌, ℕ, suc, zero, ◌+◌, ◌-◌, ◌<◌, ◌≤◌, ◌==◌, nat_eq, Bool, true, false, cond, ◌||◌, List, [], ◌∷◌, ◌++◌, length, take, drop, set, replicate, map, inl, inr}
use Rattle.std.proofs.Common.{refl, sym, ap, ◌∙◌, arith, append-nil, append_assoc}
use Rattle.std.specs.List.{filter, list_any}
use Rattle.std.proofs.lemmas.Bool.{eq-eqb, ne_eqb, eqb-true, cases_eq, or_left, or_right, or_from}
use Rattle.std.proofs.lemmas.List.{take_more_set, take-append-drop, length-take-le}
use Rattle.paper.specs.Bearers.{bearers_of}
use Rattle.paper.specs.Columns.{max_candidates, IsCandidateSet}
use Rattle.paper.specs.Marking.{Marking, candidates_of, marked_with}
use Rattle.paper.specs.Padded.{padded}
use Rattle.paper.specs.Preferences.{StandAlone, IsPreferences, if_alone, preferences_from, preferences, LowerMarksDecide}
use Rattle.paper.specs.Ranking.{IsRanking}
use Rattle.paper.specs.declared.marked.Bearers.TheVariants.{Nobody, One, Several}
use Rattle.paper.proofs.ColumnSets.{Ascends, ascends_from_columns}
use Rattle.paper.proofs.Rankings.{length_ranking}

-- Each candidate in the computed list is the only one with their number.
alone_from : (most n : ℕ) (ms : Marking) → StandAlone n ms (preferences_from most n ms)
unfolding preferences_from
alone_from zero n ms = tt
alone_from (suc most) n ms = by_list (marked_with n ms) refl (alone_from most (n + 1) ms)
  where
    by_list : (cs : List ℕ) → marked_with n ms ≡ cs → StandAlone (n + 1) ms (preferences_from most (n + 1) ms) →
        StandAlone n ms (if_alone cs (preferences_from most (n + 1) ms))
    by_list [] is behind = tt
    by_list (c ∷ []) is behind = (is, behind)
    by_list (c ∷ d ∷ cs) is behind = tt

-- The computed list is at least as long as any other such list.
longest_from : (most n : ℕ) (ms : Marking) (others : List ℕ) → StandAlone n ms others → length others ≤ most → length others ≤ length (preferences_from most n ms)
unfolding preferences_from
longest_from most n ms [] alone few = omega arith
longest_from zero n ms (c ∷ cs) alone few = absurd (omega (arith, few))
longest_from (suc most) n ms (c ∷ cs) alone few = rw alone.0 (omega (arith, longest_from most (n + 1) ms cs alone.1 (omega (arith, few))))

-- a number in an ascending list is between the list's bounds
in_ascending : (c low : ℕ) (xs : List ℕ) → Ascends low xs → list_any (nat_eq c) xs ≡ true → (low < c) × (c ≤ max_candidates)
in_ascending c low [] up found = cc
in_ascending c low (x ∷ xs) up found =
    elim (cases_eq c x) [
      | inl same ↦ (omega (arith, same, up.0), omega (arith, same, up.1))
      | inr other ↦
          let later = in_ascending c x xs up.2 (rw (ne_eqb c x other) at found) in
          (omega (arith, later.0, up.0), later.1)
    ]

-- a candidate whose field contains a given number is one of the paper's candidates
in_candidates : (c n : ℕ) (ms : Marking) → list_any (nat_eq c) (marked_with n ms) ≡ true → list_any (nat_eq c) (candidates_of ms) ≡ true
in_candidates c n [] found = found
in_candidates c n (m ∷ ms) found = by_mark (m.1 == n) found (in_candidates c n ms)
  where
    by_mark : (b : Bool) → list_any (nat_eq c) (map (λ (k : ℕ × ℕ). k.0) (cond b (m ∷ filter (λ (k : ℕ × ℕ). k.1 == n) ms) (filter (λ (k : ℕ × ℕ). k.1 == n) ms))) ≡ true →
        (list_any (nat_eq c) (marked_with n ms) ≡ true → list_any (nat_eq c) (candidates_of ms) ≡ true) → (nat_eq c m.0 || list_any (nat_eq c) (candidates_of ms)) ≡ true
    by_mark false found later = or_right (nat_eq c m.0) _ (later found)
    by_mark true found later = by_head (nat_eq c m.0) found
      where
        by_head : (h : Bool) → (h || list_any (nat_eq c) (marked_with n ms)) ≡ true → (h || list_any (nat_eq c) (candidates_of ms)) ≡ true
        by_head true found = refl
        by_head false found = later found

-- the mark of a candidate
abbrev pub mark_beside : Marking → ℕ → ℕ
mark_beside [] c = 0
mark_beside (m ∷ ms) c = cond (nat_eq c m.0) m.1 (mark_beside ms c)

-- if a candidate's field contains a number, that number is the candidate's mark, because each candidate occurs
-- only once
mark_is : (c n low : ℕ) (ms : Marking) → Ascends low (candidates_of ms) → list_any (nat_eq c) (marked_with n ms) ≡ true → mark_beside ms c ≡ n
mark_is c n low [] up found = cc
mark_is c n low (m ∷ ms) up found =
    elim (cases_eq c m.0) [
      | inl same ↦ rw (eq-eqb c m.0 same) (head_mark same (m.1 == n) refl found)
      | inr other ↦ rw (ne_eqb c m.0 other) (mark_is c n m.0 ms up.2 (tail_mark other (m.1 == n) found))
    ]
  where
    tail_mark : (c ≡ m.0 → ⊥) → (b : Bool) → list_any (nat_eq c) (map (λ (k : ℕ × ℕ). k.0) (cond b (m ∷ filter (λ (k : ℕ × ℕ). k.1 == n) ms) (filter (λ (k : ℕ × ℕ). k.1 == n) ms))) ≡ true →
        list_any (nat_eq c) (marked_with n ms) ≡ true
    tail_mark other true found = rw (ne_eqb c m.0 other) at found
    tail_mark other false found = found

    head_mark : c ≡ m.0 → (b : Bool) → (m.1 == n) ≡ b →
        list_any (nat_eq c) (map (λ (k : ℕ × ℕ). k.0) (cond b (m ∷ filter (λ (k : ℕ × ℕ). k.1 == n) ms) (filter (λ (k : ℕ × ℕ). k.1 == n) ms))) ≡ true → m.1 ≡ n
    head_mark same true is found = eqb-true m.1 n is
    head_mark same false is found = absurd (omega (arith, same, (in_ascending c m.0 (candidates_of ms) up.2 (in_candidates c n ms found)).0))

absent_later : (c n k : ℕ) (ms : Marking) (cs : List ℕ) → Ascends 0 (candidates_of ms) → mark_beside ms c ≡ n → n < k → StandAlone k ms cs → list_any (λ y. y == c) cs ≡ false
absent_later c n k ms [] up mark later alone = refl
absent_later c n k ms (y ∷ ys) up mark later alone =
    or_from _ _ (ne_eqb y c (λ same. omega (arith, later, mark, ap (mark_beside ms) same, mark_is y k 0 ms up (rw alone.0 (or_left _ false (eq-eqb y y refl))))))
    (absent_later c n (k + 1) ms ys up mark (omega (arith, later)) alone.1)

-- candidates who are the only ones with their numbers form a ranking, because no candidate has two marks
pub alone_ranking : (n : ℕ) (ms : Marking) (cs : List ℕ) → Ascends 0 (candidates_of ms) → StandAlone n ms cs → IsRanking cs
alone_ranking n ms [] up alone = tt
alone_ranking n ms (c ∷ cs) up alone =
    let here : list_any (nat_eq c) (marked_with n ms) ≡ true = rw alone.0 (or_left _ false (eq-eqb c c refl)) in
    let column = in_ascending c 0 (candidates_of ms) up (in_candidates c n ms here) in
    (omega (arith, column.0), column.1, absent_later c n (n + 1) ms cs up (mark_is c n 0 ms up here) (omega arith) alone.1, alone_ranking (n + 1) ms cs up alone.1)

pub preferences-IsRanking : (ms : Marking) → IsCandidateSet (candidates_of ms) → IsRanking (preferences ms)
preferences-IsRanking ms set = alone_ranking 1 ms (preferences ms) (ascends_from_columns (candidates_of ms) set) (alone_from max_candidates 1 ms)

-- the computed list is the list of preferences
pub preferences-IsPreferences : (ms : Marking) → IsCandidateSet (candidates_of ms) → IsPreferences ms (preferences ms)
preferences-IsPreferences ms set = record {
  alone = alone_from max_candidates 1 ms;
  longest = λ others alone. longest_from max_candidates 1 ms others alone (length_ranking others (alone_ranking 1 ms others (ascends_from_columns (candidates_of ms) set) alone));
}

-- if exactly one candidate has the number 1, there is a first preference
pub preferences-some : (ms : Marking) (c : ℕ) → marked_with 1 ms ≡ c ∷ [] → 1 ≤ length (preferences ms)
unfolding preferences_from
preferences-some ms c first = rw first (omega arith)

same_beginning : (n : ℕ) (cs xs ys : List ℕ) → take n xs ≡ take n ys → take (suc n) (if_alone cs xs) ≡ take (suc n) (if_alone cs ys)
same_beginning n [] xs ys same = refl
same_beginning n (c ∷ []) xs ys same = ap (λ l. c ∷ l) same
same_beginning n (c ∷ d ∷ cs) xs ys same = refl

lower_from : (most n start : ℕ) (others ms : Marking) → ((k : ℕ) → start ≤ k → k < start + n → marked_with k others ≡ marked_with k ms) →
    take n (preferences_from most start others) ≡ take n (preferences_from most start ms)
unfolding preferences_from
lower_from zero n start others ms same = refl
lower_from (suc most) zero start others ms same = refl
lower_from (suc most) (suc n) start others ms same =
    ap (λ cs. take (suc n) (if_alone cs (preferences_from most (start + 1) others))) (same start (omega arith) (omega arith))
    ∙ same_beginning n (marked_with start ms) _ _ (lower_from most n (start + 1) others ms (λ k low high. same k (omega (arith, low)) (omega (arith, high))))

pub lower_marks_decide : (ms : Marking) → LowerMarksDecide ms
lower_marks_decide ms others n same = lower_from max_candidates n 1 others ms (λ k low high. same k low (omega (arith, high)))

-- What a loop over ascending numbers has computed so far.
step_alone : (place : ℕ) (ms : Marking) → place < max_candidates →
    preferences_from (max_candidates - place) (place + 1) ms ≡ if_alone (marked_with (place + 1) ms) (preferences_from (max_candidates - (place + 1)) (place + 1 + 1) ms)
unfolding preferences_from
step_alone place ms more =
    let e : max_candidates - place ≡ suc (max_candidates - (place + 1)) = omega (arith, more) in
    ap (λ most. preferences_from most (place + 1) ms) e

pub alone-One : (cs : List ℕ) (c : ℕ) → One c ≡ bearers_of cs → cs ≡ c ∷ []
alone-One [] c one = cc
alone-One (d ∷ []) c one = cc
alone-One (d ∷ e ∷ cs) c one = cc

-- the loop computes the next preference
pub preferred-more : (ms : Marking) (numbers : List ℕ) (place c : ℕ) → preferences ms ≡ take place numbers ++ preferences_from (max_candidates - place) (place + 1) ms → place < max_candidates →
    length numbers ≡ max_candidates →
    One c ≡ bearers_of (marked_with (place + 1) ms) → preferences ms ≡ take (place + 1) (set numbers place c) ++ preferences_from (max_candidates - (place + 1)) (place + 1 + 1) ms
preferred-more ms numbers place c whole more size one =
    let behind = preferences_from (max_candidates - (place + 1)) (place + 1 + 1) ms in
    whole ∙ ap (λ l. take place numbers ++ l) (step_alone place ms more ∙ ap (λ cs. if_alone cs behind) (alone-One (marked_with (place + 1) ms) c one))
    ∙ sym (append_assoc (take place numbers) (c ∷ []) behind) ∙ ap (λ l. l ++ behind) (sym (take_more_set numbers place c (omega (arith, size, more))))

-- once the loop ends, it has computed all preferences
pub preferred-done : (ms : Marking) (numbers : List ℕ) (place : ℕ) → preferences ms ≡ take place numbers ++ preferences_from (max_candidates - place) (place + 1) ms →
    drop place numbers ≡ replicate (max_candidates - place) 0 →
    length numbers ≡ max_candidates → place ≤ max_candidates → preferences_from (max_candidates - place) (place + 1) ms ≡ [] → numbers ≡ padded (preferences ms)
preferred-done ms numbers place whole zeros size few none =
    let all : preferences ms ≡ take place numbers = whole ∙ ap (λ l. take place numbers ++ l) none ∙ append-nil (take place numbers) in
    let count : length (take place numbers) ≡ place = length-take-le place numbers (omega (arith, size, few)) in
    sym (take-append-drop place numbers) ∙ ap (λ l. take place numbers ++ l) (zeros ∙ ap (λ n. replicate (max_candidates - n) 0) (sym count)) ∙ ap padded (sym all)

pub done-Nobody : (ms : Marking) (place : ℕ) → place < max_candidates → Nobody ≡ bearers_of (marked_with (place + 1) ms) → preferences_from (max_candidates - place) (place + 1) ms ≡ []
done-Nobody ms place more nobody = step_alone place ms more ∙ by_list (marked_with (place + 1) ms) nobody
  where
    by_list : (cs : List ℕ) → Nobody ≡ bearers_of cs → if_alone cs (preferences_from (max_candidates - (place + 1)) (place + 1 + 1) ms) ≡ []
    by_list [] is = refl
    by_list (c ∷ []) is = cc
    by_list (c ∷ d ∷ cs) is = refl

pub done-Several : (ms : Marking) (place : ℕ) → place < max_candidates → Several ≡ bearers_of (marked_with (place + 1) ms) → preferences_from (max_candidates - place) (place + 1) ms ≡ []
done-Several ms place more several = step_alone place ms more ∙ by_list (marked_with (place + 1) ms) several
  where
    by_list : (cs : List ℕ) → Several ≡ bearers_of cs → if_alone cs (preferences_from (max_candidates - (place + 1)) (place + 1 + 1) ms) ≡ []
    by_list [] is = refl
    by_list (c ∷ []) is = cc
    by_list (c ∷ d ∷ cs) is = refl

pub done-all : (ms : Marking) (place : ℕ) → place ≡ max_candidates → preferences_from (max_candidates - place) (place + 1) ms ≡ []
unfolding preferences_from
done-all ms place all = ap (λ n. preferences_from (max_candidates - n) (n + 1) ms) all
