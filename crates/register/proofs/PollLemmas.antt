-- The papers of a ward when another batch is added.
use Rattle.std.proofs.Common.{◌≡◌, ℕ, ◌+◌, ◌&&◌, Bool, true, false, cond, List, [], ◌∷◌, ◌++◌, length, map, filter, fold, refl, sym, ap, subst, ◌∙◌, arith, append-nil, append_assoc}
use Rattle.std.specs.List.{flat_map, list_all}
use Rattle.std.proofs.lemmas.Bool.{and_parts}
use Rattle.std.proofs.lemmas.List.Concat.{flat_map-append}
use Rattle.std.proofs.lemmas.List.Folds.{list_all-append}
use Rattle.register.specs.declared.polls.Judgement.{Judgement}
use Rattle.register.specs.declared.polls.Ballots.{Ballots}
use Rattle.register.specs.Agreement.{are_taken}
use Rattle.register.specs.Offices.{BatchEntry, OfficeState, verdicts_of}
use Rattle.register.specs.Polls.{Pile, pile_of, BallotsEntry, is_settled, judgements_on, judgements_in, judgements, settled_papers, settled_judgements, preferences_by, is_rejected}
use Rattle.register.specs.Polls.{rejected_with, ballots_in, ballots_by, StandFor}
use Rattle.register.specs.Walks.{and_rejected}
use Rattle.register.proofs.AgreedLemmas.{taken_settled}

-- the rejection codes
abbrev five : List ℕ
five = 1 ∷ 2 ∷ 3 ∷ 4 ∷ 5 ∷ []

judgements_more : (columns : List ℕ) (piles : List Pile) (pile : Pile) → judgements columns (piles ++ pile ∷ []) ≡ judgements columns piles ++ judgements_in columns pile
judgements_more columns piles pile = flat_map-append (judgements_in columns) piles (pile ∷ []) ∙ ap (λ js. judgements columns piles ++ js) (append-nil (judgements_in columns pile))

-- another judgement is counted under its own code
counted_more : (n : ℕ) (js : List Judgement) (k : Judgement) → rejected_with js n + cond (is_rejected n k) 1 0 ≡ rejected_with (js ++ k ∷ []) n
counted_more n [] k = go (is_rejected n k)
  where
    go : (b : Bool) → 0 + cond b 1 0 ≡ length (cond b (k ∷ []) [])
    go true = refl
    go false = refl
counted_more n (j ∷ js) k = go (is_rejected n j) (counted_more n js k)
  where
    go : (b : Bool) → rejected_with js n + cond (is_rejected n k) 1 0 ≡ rejected_with (js ++ k ∷ []) n
        → length (cond b (j ∷ filter (is_rejected n) js) (filter (is_rejected n) js)) + cond (is_rejected n k) 1 0
        ≡ length (cond b (j ∷ filter (is_rejected n) (js ++ k ∷ [])) (filter (is_rejected n) (js ++ k ∷ [])))
    go true later = omega (arith, later)
    go false later = later

rejected_one : (js : List Judgement) (k : Judgement) → and_rejected (map (rejected_with js) five) k ≡ map (rejected_with (js ++ k ∷ [])) five
rejected_one js k = rw (counted_more 1 js k, counted_more 2 js k, counted_more 3 js k, counted_more 4 js k, counted_more 5 js k) refl

rejected_more : (js ks : List Judgement) → fold and_rejected (map (rejected_with js) five) ks ≡ map (rejected_with (js ++ ks)) five
rejected_more js [] = ap (λ (ls : List Judgement). map (rejected_with ls) five) (sym (append-nil js))
rejected_more js (k ∷ ks) =
    ap (λ (rejected : List ℕ). fold and_rejected rejected ks) (rejected_one js k)
    ∙ (rejected_more (js ++ k ∷ []) ks ∙ ap (λ (ls : List Judgement). map (rejected_with ls) five) (append_assoc js (k ∷ []) ks))

-- what a batch adds to the papers and to the numbers of rejected papers, and how it affects whether everything
-- is settled
pub added : (columns : List ℕ) (piles : List Pile) (pile : Pile) (old new : BallotsEntry) → old ≡ ballots_in columns piles
    → new.papers ≡ old.papers ++ flat_map preferences_by (judgements_in columns pile)
    → new.rejected ≡ fold and_rejected old.rejected (judgements_in columns pile) → new.settled ≡ (old.settled && is_settled pile) → new ≡ ballots_in columns (piles ++ pile ∷ [])
added columns piles pile old new was papers rejected settled =
    let js = judgements columns piles in
    let ks = judgements_in columns pile in
    let more : js ++ ks ≡ judgements columns (piles ++ pile ∷ []) = sym (judgements_more columns piles pile) in
    same
    new
    (ballots_in columns (piles ++ pile ∷ []))
    (papers ∙ ap (λ (b : BallotsEntry). b.papers ++ flat_map preferences_by ks) was ∙ sym (flat_map-append preferences_by js ks) ∙ ap (flat_map preferences_by) more)
    (rejected ∙ ap (λ (b : BallotsEntry). fold and_rejected b.rejected ks) was ∙ rejected_more js ks ∙ ap (λ (ls : List Judgement). map (rejected_with ls) five) more)
    (settled ∙ ap (λ (b : BallotsEntry). b.settled && is_settled pile) was ∙ ap (λ b. list_all is_settled piles && b) (end (is_settled pile)) ∙ sym (list_all-append is_settled piles (pile ∷ [])))
  where
    same : (b c : BallotsEntry) → b.papers ≡ c.papers → b.rejected ≡ c.rejected → b.settled ≡ c.settled → b ≡ c
    same b c p r t = rw (p, r, t) refl

    end : (b : Bool) → b ≡ (b && true)
    end true = refl
    end false = refl

-- ---- settled batches

-- counting a paper adds its judgement
pub judged_more : {P : Type 0} (holds : P → List (List ℕ) → Type 0) (old new : Ballots P) (js : List Judgement) (j : Judgement)
    → ((papers : List (List ℕ)) → holds old.papers papers → holds new.papers (papers ++ preferences_by j)) → new.rejected ≡ and_rejected old.rejected j → new.settled ≡ old.settled
    → StandFor holds old (ballots_by js) → StandFor holds new (ballots_by (js ++ j ∷ []))
judged_more holds old new js j papers rejected settled was = record {
  papers_held =
      subst (holds new.papers) (sym (flat_map-append preferences_by js (j ∷ []) ∙ ap (λ ps. flat_map preferences_by js ++ ps) (append-nil (preferences_by j))))
      (papers (flat_map preferences_by js) was.papers_held);
  rejected_are = rejected ∙ (ap (λ (r : List ℕ). and_rejected r j) was.rejected_are ∙ rejected_one js j);
  settled_is = settled ∙ was.settled_is;
}

-- in settled batches, the judgements are those on the settled papers
judged_alone : (s : OfficeState) (columns : List ℕ) (bs : List BatchEntry) → list_all is_settled (map (pile_of s) bs) ≡ true → judgements columns (map (pile_of s) bs) ≡ settled_judgements s columns bs
judged_alone s columns [] settled = refl
judged_alone s columns (b ∷ bs) settled =
    let pile = pile_of s b in
    let parts = and_parts (is_settled pile) (list_all is_settled (map (pile_of s) bs)) settled in
    let own : judgements_in columns pile ≡ judgements_on columns (verdicts_of s b.number) (settled_papers s b) =
    ap (judgements_on columns (verdicts_of s b.number)) (taken_settled s b (and_parts (are_taken pile.keyings) _ parts.0).0)
    in
    ap (λ (js : List Judgement). js ++ judgements columns (map (pile_of s) bs)) own
    ∙ ap (λ (js : List Judgement). judgements_on columns (verdicts_of s b.number) (settled_papers s b) ++ js) (judged_alone s columns bs parts.1)

-- so the ballots of settled batches are determined by these judgements alone
pub settled_alone : (s : OfficeState) (columns : List ℕ) (bs : List BatchEntry) → list_all is_settled (map (pile_of s) bs) ≡ true
    → ballots_in columns (map (pile_of s) bs) ≡ ballots_by (settled_judgements s columns bs)
settled_alone s columns bs settled = go (judgements columns (map (pile_of s) bs)) (list_all is_settled (map (pile_of s) bs)) (judged_alone s columns bs settled) settled
  where
    entry : List Judgement → Bool → BallotsEntry
    entry js b = record { papers = flat_map preferences_by js; rejected = map (rejected_with js) five; settled = b }

    go : (js : List Judgement) (b : Bool) → js ≡ settled_judgements s columns bs → b ≡ true → entry js b ≡ ballots_by (settled_judgements s columns bs)
    go js b alone is = rw (alone, is) refl
