-- A bound on the number of stages done in the counts of a state.
use Rattle.std.proofs.Common.{◌≡◌, ◌<◌, ◌≤◌, ◌+◌, ◌*◌, ◌^◌, List, [], ◌∷◌, Bool, true, false, cond, length, Some, refl, sym, ap, ◌∙◌, arith, Less, Equal, nat_cmp}
use Rattle.std.specs.Ordering.{is_eq, ordering_reverse}
use Rattle.std.specs.Cmp.{nat_cmp_is}
use Rattle.std.specs.List.{AllByRecursion, list_all}
use Rattle.std.specs.List.Sorted.{IsStrictlySortedBy}
use Rattle.std.proofs.lemmas.Bool.{and_parts}
use Rattle.std.proofs.lemmas.Bool.Decides.{Decides-eqb}
use Rattle.std.proofs.lemmas.Cmp.{nat_cmp_total}
use Rattle.std.proofs.lemmas.Map.Keys.{sorted_head, sorted_tail}
use Rattle.paper.proofs.ColumnSets.{length_columns}
use Rattle.count.specs.Law.Contest.{Contest, History, IsContest}
use Rattle.count.proofs.Law.CountLemmas.{stages_right}
use Rattle.count.proofs.Law.ActionLemmas.{length-right}
use Rattle.register.specs.Offices.{WardEntry, OfficeState, ward_cmp, ward_compared, entry_at, candidates_of, ward_at}
use Rattle.register.specs.Nominations.{is_contested}
use Rattle.register.specs.Elections.{election_of, has_count, contest_of, stages_of, is_counted, is_in_count, is_right_so_far, is_uncounted, is_counted_right}
use Rattle.register.specs.StateConditions.{all_counted, IsState}
use Rattle.register.proofs.ContestLemmas.{fair_contest}

-- ---- looking up a ward by its number finds that ward

apart : (x w : WardEntry) → ward_cmp x w ≡ Less → is_eq (nat_cmp w.number x.number) ≡ false
apart x w below = ap is_eq (nat_cmp_total.antisymm w.number x.number ∙ ap ordering_reverse below)

-- wards found in a list are still found after a ward with a lower number is prepended
still_there : (x : WardEntry) (xs ys : List WardEntry) → AllByRecursion (λ y. ward_cmp x y ≡ Less) ys → AllByRecursion (λ w. entry_at (ward_compared w.number) xs ≡ Some w) ys
    → AllByRecursion (λ w. entry_at (ward_compared w.number) (x ∷ xs) ≡ Some w) ys
still_there x xs [] below all = tt
still_there x xs (w ∷ ys) below all = (rw (apart x w below.0) all.0, still_there x xs ys below.1 all.1)

pub wards_there : (ws : List WardEntry) → IsStrictlySortedBy ward_cmp ws → AllByRecursion (λ w. entry_at (ward_compared w.number) ws ≡ Some w) ws
wards_there [] up = tt
wards_there (x ∷ xs) up = (rw (sym (nat_cmp_is x.number x.number Equal refl)) refl, still_there x xs xs (sorted_head ward_cmp x xs up) (wards_there xs (sorted_tail ward_cmp x xs up)))

-- ---- the stages of a ward's count

-- a correct count has few stages; if there is no count, no stage has been done
done_few : (s : OfficeState) → IsState s → (w : WardEntry) → ward_at s w.number ≡ Some w → is_counted_right (election_of s w) ≡ true → w.done < 2 ^ 32
done_few s is w there right = go (is_in_count (election_of s w)) refl right
  where
    go : (b : Bool) → is_in_count (election_of s w) ≡ b → cond b (is_right_so_far (election_of s w)) (is_uncounted (election_of s w)) ≡ true → w.done < 2 ^ 32
    go true in_count so_far =
        let contested : is_contested w (candidates_of s w.number) ≡ true = (and_parts (is_counted w.phase) (has_count (election_of s w)) in_count).1 in
        let contest : Contest = contest_of (election_of s w) in
        let stages : History = stages_of (election_of s w) in
        let fair : IsContest contest = fair_contest s w is.in_range is.given_out is.keyed is.rise there contested in
        let few : length stages ≤ 2 * length contest.candidates + 1 = length-right contest (election_of s w).lots stages fair (stages_right contest (election_of s w).lots w.done) in
        let set : length contest.candidates ≤ 30 = length_columns contest.candidates fair.candidate_set in
        let same : length stages ≡ w.done = (Decides-eqb (length stages) w.done).0 (and_parts _ _ so_far).0 in
        omega (arith, few, set, same)
    go false not_in uncounted =
        let none : w.done ≡ 0 = (Decides-eqb w.done 0).0 (and_parts _ _ uncounted).0 in
        omega (arith, none)

each_few : (s : OfficeState) → IsState s → (ws : List WardEntry) → AllByRecursion (λ w. ward_at s w.number ≡ Some w) ws
    → list_all (λ w. is_counted_right (election_of s w)) ws ≡ true → AllByRecursion (λ w. w.done < 2 ^ 32) ws
each_few s is [] there right = tt
each_few s is (w ∷ ws) there right = let both = and_parts _ _ right in (done_few s is w there.0 both.0, each_few s is ws there.1 both.1)

-- the number of stages done in each ward of a state fits in a column
pub wards_few : (s : OfficeState) → IsState s → AllByRecursion (λ (w : WardEntry). w.done < 2 ^ 32) s.wards
unfolding all_counted
wards_few s is = each_few s is s.wards (wards_there s.wards is.rise.wards) (and_parts _ _ is.counted).1
