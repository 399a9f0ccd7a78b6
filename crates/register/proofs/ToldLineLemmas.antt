-- In replies, the parts that describe a poll, an action or the elected candidates are lines.
use Rattle.std.proofs.Common.{inl, inr, ◌≡◌, ℕ, suc, ◌+◌, ◌*◌, ◌/◌, ◌≤◌, Bool, true, false, cond, not, ◌==◌, nat_le, nat_lt, codes, List, [], ◌∷◌, length, map, filter, fold, Option, Some}
use Rattle.std.proofs.Common.{refl, sym, ap, subst, ◌∙◌, arith, length-append}
use Rattle.std.specs.Fmt.{decimal}
use Rattle.std.specs.List.{flat_map, list_all}
use Rattle.std.proofs.Math.Nat.{div-le_self}
use Rattle.std.proofs.lemmas.Bool.{and_parts, and_from, leb-true, le-leb}
use Rattle.std.proofs.lemmas.List.Folds.{list_all-append}
use Rattle.std.proofs.lemmas.List.Kept.{IsStrictlySortedBy-filter}
use Rattle.std.proofs.lemmas.Str.Ascii.{IsAscii-cons}
use Rattle.votes.specs.Text.{last_digit, fraction_text, votes_text}
use Rattle.votes.specs.Units.{max_papers, quota_of}
use Rattle.paper.specs.Columns.{IsColumn, IsCandidateSet, with_column, max_candidates}
use Rattle.count.specs.Law.Contest.{Contest, History}
use Rattle.count.specs.Law.Due.{due_after, drawn}
use Rattle.count.specs.declared.stages.Action.{Action}
use Rattle.count.specs.declared.stages.Action.TheVariants.{Exclude, ExcludeLast}
use Rattle.count.proofs.Law.ActionLemmas.{column-in}
use Rattle.count.proofs.Law.StepLemmas.{step-is, step-first}
use Rattle.register.specs.declared.polls.Judgement.{Judgement}
use Rattle.register.specs.declared.polls.Judgement.TheVariants.{Valid, Rejected, Open}
use Rattle.register.specs.Ranges.{is_candidate_number}
use Rattle.count.specs.Actions.{action_text}
use Rattle.register.specs.Texts.{behind, listed}
use Rattle.register.specs.Offices.{CandidateEntry, OfficeState, batch_cmp, batch_at}
use Rattle.register.specs.Marks.{and_column, columns_of}
use Rattle.register.specs.Agreement.{batches_of}
use Rattle.register.specs.Polls.{Pile, piles_of, judgements, preferences_by, is_rejected, rejected_with, ballots_in, poll_of, all_rejected}
use Rattle.register.specs.Counts.{poll_told}
use Rattle.register.specs.BatchConditions.{is_keyed_for, are_rounds_to}
use Rattle.register.specs.StateConditions.{is_batch, IsState}
use Rattle.register.proofs.LineLemmas.{IsLine, given, line_append, line_decimal, line_number, line_within, not_equal}
use Rattle.register.proofs.MapLemmas.{kept_all}
use Rattle.register.proofs.ItemLemmas.{batch_map, maps_of}
use Rattle.register.proofs.ContestLemmas.{few_among, few_batches}

-- ---- numbers of candidates

-- all the given numbers are candidate numbers
abbrev pub are_small : List ℕ → Bool
are_small ns = list_all (λ n. nat_le n max_candidates) ns

columns_small : (columns : List ℕ) (cs : List CandidateEntry) → are_small columns ≡ true → are_small (fold and_column columns cs) ≡ true
columns_small columns [] small = small
columns_small columns (c ∷ cs) small = columns_small (and_column columns c) cs (go (is_candidate_number c.number) refl)
  where
    go : (b : Bool) → is_candidate_number c.number ≡ b → are_small (cond b (with_column columns c.number) columns) ≡ true
    go false is = small
    go true is =
        let own = and_parts (nat_le 1 c.number) (nat_le c.number max_candidates) is in
        let below = kept_all (λ n. nat_le n max_candidates) (λ d. nat_lt d c.number) columns small in
        let above = kept_all (λ n. nat_le n max_candidates) (λ d. nat_lt c.number d) columns small in
        list_all-append (λ n. nat_le n max_candidates) (filter (λ d. nat_lt d c.number) columns) (c.number ∷ filter (λ d. nat_lt c.number d) columns) ∙ and_from _ _ below (and_from _ _ own.1 above)

-- the columns of a ward are candidate numbers
pub columns_are_small : (cs : List CandidateEntry) → are_small (columns_of cs) ≡ true
columns_are_small cs = columns_small [] cs refl

pub length_kept : {X : Type 0} (p : X → Bool) (xs : List X) → length (filter p xs) ≤ length xs
length_kept p [] = omega arith
length_kept {X} p (x ∷ xs) =
    elim (p x) as (λ b. length (cond b (x ∷ filter p xs) (filter p xs)) ≤ suc
    (length xs)) [ true ↦ (let low = length_kept p xs in omega (arith, low)) | false ↦ (let low = length_kept p xs in omega (arith, low)) ]

-- ---- lists of candidates

two_digits : (n : ℕ) → nat_le n max_candidates ≡ true → IsLine 2 (decimal n)
two_digits n low = let few = leb-true n max_candidates low in line_decimal 2 n (omega arith) (omega (arith, few)) (omega (arith, few))

behind_line : (ns : List ℕ) → are_small ns ≡ true → IsLine (4 * length ns) (flat_map behind ns)
behind_line [] small = given [] refl
behind_line (n ∷ ns) small =
    let parts = and_parts (nat_le n max_candidates) (are_small ns) small in
    line_within (line_append (line_append (given (codes ", ") refl) (two_digits n parts.0)) (behind_line ns parts.1)) (omega arith)

pub listed_line : (ns : List ℕ) → are_small ns ≡ true → IsLine (4 * length ns) (listed ns)
unfolding listed
listed_line [] small = given [] refl
listed_line (n ∷ ns) small =
    let parts = and_parts (nat_le n max_candidates) (are_small ns) small in
    line_within (line_append (two_digits n parts.0) (behind_line ns parts.1)) (omega arith)

-- ---- actions

candidate_line : (c : ℕ) → IsColumn c → IsLine 10 (decimal c)
candidate_line c column = line_number max_candidates c (omega arith) (and_from _ _ (le-leb 1 c column.0) (le-leb c max_candidates column.1))

exclusion_line : (contest : Contest) (stages : History) (c : ℕ) → IsColumn c → (b : Bool) → IsLine 40 (action_text (cond b (ExcludeLast c) (Exclude c)))
exclusion_line contest stages c column true =
    line_within (line_append (given (codes "exclusion of ") refl) (line_append (candidate_line c column) (given (codes ", last vacancies") refl))) (omega arith)
exclusion_line contest stages c column false = line_within (line_append (given (codes "exclusion of ") refl) (candidate_line c column)) (omega arith)

-- the part that describes the next action is a line
pub action_line : (contest : Contest) (stages : History) (lot : Option ℕ) (action : Action) → IsCandidateSet contest.candidates → drawn contest stages lot (due_after contest stages) ≡ Some action
    → IsLine 40 (action_text action)
action_line contest [] lot action set next =
    subst (λ (a : Action). IsLine 40 (action_text a)) (sym (step-first contest lot action next)) (line_within (given (codes "first preferences") refl) (omega arith))
action_line contest (s ∷ before) lot action set next = elim (step-is contest s before lot action next) [
  | inl surplus ↦ subst (λ (a : Action). IsLine 40 (action_text a)) (sym surplus.is)
      (line_within (line_append (given (codes "surplus of ") refl) (candidate_line surplus.c (column-in surplus.c contest.candidates set surplus.is_candidate))) (omega arith))
  | inr excluded ↦ subst (λ (a : Action). IsLine 40 (action_text a)) (sym excluded.is)
      (exclusion_line contest (s ∷ before) excluded.c (column-in excluded.c contest.candidates set excluded.is_candidate) _)
]

-- ---- polls

digits_line : (ns : List ℕ) → IsLine (length ns) (map last_digit ns)
digits_line [] = given [] refl
digits_line (n ∷ ns) = let later = digits_line ns in record {
  ascii = IsAscii-cons (last_digit n) (map last_digit ns) (omega arith) later.ascii;
  short = (let short = later.short in omega (arith, short));
  plain = and_from _ _ (ap not (not_equal (last_digit n) 10 (omega arith))) later.plain;
}

fraction_line : (units : ℕ) → IsLine 6 (fraction_text units)
fraction_line units = line_append (given (codes ".") refl) (digits_line (units / 10000 ∷ units / 1000 ∷ units / 100 ∷ units / 10 ∷ units ∷ []))

quota_line : (papers seats : ℕ) → papers ≤ max_papers → IsLine 16 (votes_text (quota_of papers seats))
quota_line papers seats few =
    let part = div-le_self papers (seats + 1) in
    let whole : quota_of papers seats / 100000 ≤ papers + 1 = omega (arith, part) in
    line_append (line_decimal 10 (quota_of papers seats / 100000) (omega arith) (omega (arith, whole, few)) (omega (arith, whole, few))) (fraction_line (quota_of papers seats))

-- a ward has no more papers than the limit
pub judgements_are_few : {s : OfficeState} → IsState s → (columns : List ℕ) (ward : ℕ) → length (judgements columns (piles_of s ward)) ≤ max_papers
judgements_are_few {s} is columns ward =
    let batches = maps_of is batch_map in
    let rounds = (and_parts (list_all (λ k. is_keyed_for s k (batch_at s k.batch)) s.keyings) (list_all (λ b. are_rounds_to s b b.round) s.batches) is.keyed).1 in
    let good = kept_all is_batch (λ b. b.ward == ward) s.batches batches.in_range in
    let own : length (judgements columns (piles_of s ward)) ≤ 500 * length (batches_of s ward) =
    few_among s columns (batches_of s ward) good (kept_all (λ b. are_rounds_to s b b.round) (λ b. b.ward == ward) s.batches rounds)
    in
    let few = few_batches (batches_of s ward) good (IsStrictlySortedBy-filter batch_cmp (λ b. b.ward == ward) s.batches batches.rises) in
    omega (arith, own, few)

few_valid : (js : List Judgement) → length (flat_map preferences_by js) ≤ length js
few_valid [] = omega arith
few_valid (j ∷ js) = let one = single j in let later = few_valid js in omega (arith, length-append (preferences_by j) (flat_map preferences_by js), one, later)
  where
    single : (j : Judgement) → length (preferences_by j) ≤ 1
    single (Valid prefs) = omega arith
    single (Rejected code) = omega arith
    single Open = omega arith

few_rejected : (js : List Judgement) → all_rejected (map (rejected_with js) (1 ∷ 2 ∷ 3 ∷ 4 ∷ 5 ∷ [])) ≤ 5 * length js
few_rejected js =
    let first = length_kept (is_rejected 1) js in
    let second = length_kept (is_rejected 2) js in
    let third = length_kept (is_rejected 3) js in
    let fourth = length_kept (is_rejected 4) js in
    let fifth = length_kept (is_rejected 5) js in
    omega (arith, first, second, third, fourth, fifth)

-- the part that describes a poll is a line, if the number of papers doesn't exceed the limit
pub poll_line : (columns : List ℕ) (piles : List Pile) (seats : ℕ) → length (judgements columns piles) ≤ max_papers → IsLine 80 (poll_told (Some (poll_of seats (ballots_in columns piles))))
poll_line columns piles seats few =
    let js = judgements columns piles in
    let valid = few_valid js in
    let rejected = few_rejected js in
    let papers = length (flat_map preferences_by js) in
    let all = all_rejected (map (rejected_with js) (1 ∷ 2 ∷ 3 ∷ 4 ∷ 5 ∷ [])) in
    let first = line_decimal 10 papers (omega arith) (omega (arith, valid, few)) (omega (arith, valid, few)) in
    let second = line_decimal 10 all (omega arith) (omega (arith, rejected, few)) (omega (arith, rejected, few)) in
    let quota = quota_line papers seats (omega (arith, valid, few)) in
    line_within
    (line_append (given (codes " sealed: ") refl) (line_append first (line_append (given (codes " valid, ") refl) (line_append second (line_append (given (codes " rejected, quota ") refl) quota)))))
    (omega arith)
