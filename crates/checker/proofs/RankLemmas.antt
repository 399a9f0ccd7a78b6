-- Lists of candidates without duplicates.
use Rattle.std.proofs.Common.{◌≡◌, ◌∙◌, ℕ, length, ◌+◌, ◌≤◌, ◌||◌, Bool, true, false, not, nat_eq, List, [], ◌∷◌, ◌++◌, ap, refl, sym}
use Rattle.std.specs.Prelude.{◌==◌, if◌then◌else◌, nat_lt, Result, Ok, Err}
use Rattle.std.specs.List.{filter, list_any}
use Rattle.std.proofs.Math.Nat.{suc-ne-zero}
use Rattle.std.proofs.lemmas.Bool.{eqb-false, false≢true, ne_eqb}
use Rattle.std.proofs.lemmas.List.{append-nil, append_assoc}
use Rattle.std.proofs.lemmas.List.Folds.{list_any-append}
use Rattle.paper.specs.Columns.{max_candidates}
use Rattle.paper.specs.Ranking.{IsRanking}
use Rattle.checker.specs.Numbers.{candidate_in}
use Rattle.checker.specs.Outcomes.{and_then}
use Rattle.checker.specs.Ranks.{Ranked, at_next, is_zero, standing_with, with_alone, with_candidate, with_named, with_word, without}
use Rattle.checker.specs.Tokens.{Text, parts, pieces_of}
use Rattle.checker.specs.declared.problem.BallotsFlaw.{BallotsFlaw}
use Rattle.checker.specs.declared.ranks.NextWord.{NextWord}
use Rattle.checker.specs.declared.ranks.NextWord.TheVariants.{Preference, BehindShared, BehindZero}
use Rattle.checker.specs.declared.tokens.Separator.TheVariants.{Equals}
use Rattle.checker.specs.declared.problem.BallotsFlaw.TheVariants.{CandidateTwice}

or_none : (a b : Bool) → (a || b) ≡ false → (a ≡ false) × (b ≡ false)
or_none false b h = (refl, h)
or_none true b h = absurd (false≢true (sym h))

or_both : (a b : Bool) → a ≡ false → b ≡ false → (a || b) ≡ false
or_both a b h k = rw (h, k) refl

other : (a b : ℕ) → (a == b) ≡ false → (b == a) ≡ false
other a b h = ne_eqb b a (λ e. eqb-false a b h (sym e))

-- a ranking, extended by a candidate who isn't in it yet
pub ranking_more : (xs : List ℕ) (c : ℕ) → IsRanking xs → 1 ≤ c → c ≤ max_candidates → list_any (λ d. d == c) xs ≡ false → IsRanking (xs ++ c ∷ [])
ranking_more [] c rank some few none = (some, few, refl, tt)
ranking_more (x ∷ xs) c rank some few none =
    let parts = or_none (x == c) (list_any (λ d. d == c) xs) none in
    (rank.0, rank.1, list_any-append (λ y. y == x) xs (c ∷ []) ∙ or_both _ _ rank.2 (or_both _ _ (other x c parts.0) refl), ranking_more xs c rank.3 some few parts.1)

kept_any : (b : Bool) (x y : ℕ) (ys : List ℕ) → (y == x) ≡ false → list_any (λ z. z == x) ys ≡ false → list_any (λ z. z == x) (if b then y ∷ ys else ys) ≡ false
kept_any true x y ys h none = or_both _ _ h none
kept_any false x y ys h none = none

none_kept : (p : ℕ → Bool) (x : ℕ) (xs : List ℕ) → list_any (λ y. y == x) xs ≡ false → list_any (λ y. y == x) (filter p xs) ≡ false
none_kept p x [] none = refl
none_kept p x (y ∷ ys) none =
    let parts = or_none (y == x) (list_any (λ z. z == x) ys) none in
    kept_any (p y) x y (filter p ys) parts.0 (none_kept p x ys parts.1)

kept_ranking : (b : Bool) (x : ℕ) (xs : List ℕ) → 1 ≤ x → x ≤ max_candidates → list_any (λ y. y == x) xs ≡ false → IsRanking xs → IsRanking (if b then x ∷ xs else xs)
kept_ranking true x xs some few none rank = (some, few, none, rank)
kept_ranking false x xs some few none rank = rank

-- the members of a ranking that pass a test form a ranking
pub ranking_kept : (p : ℕ → Bool) (xs : List ℕ) → IsRanking xs → IsRanking (filter p xs)
ranking_kept p [] rank = tt
ranking_kept p (x ∷ xs) rank = kept_ranking (p x) x (filter p xs) rank.0 rank.1 (none_kept p x xs rank.2) (ranking_kept p xs rank.3)

-- the candidates of a ranking who haven't withdrawn form a ranking
pub ranking_without : (withdrawn named : List ℕ) → IsRanking named → IsRanking (without withdrawn named)
ranking_without withdrawn named rank = ranking_kept (λ c. not (list_any (nat_eq c) withdrawn)) named rank

-- naming a candidate who is already in the list is a flaw
pub named_twice : (highest : ℕ) (ranks : Ranked) (word : List ℕ) (c : ℕ) → candidate_in highest word ≡ Ok c → list_any (λ d. d == c) ranks.named ≡ true →
    Err CandidateTwice ≡ with_candidate highest ranks word
named_twice highest ranks word c is named = rw (is, named) refl

-- if nobody has withdrawn, all candidates remain
all_kept : (named : List ℕ) → filter (λ c. true) named ≡ named
all_kept [] = refl
all_kept (c ∷ named) = ap (λ (xs : List ℕ). c ∷ xs) (all_kept named)

pub none_withdrawn : (withdrawn named : List ℕ) → length withdrawn ≡ 0 → named ≡ without withdrawn named
none_withdrawn [] named none = sym (all_kept named)
none_withdrawn (c ∷ withdrawn) named none = absurd (suc-ne-zero (length withdrawn) none)

-- ---- a word without an equals sign

-- a text without an equals sign is one piece
pieces_alone : (begun word : Text) → list_any (parts Equals) word ≡ false → pieces_of Equals begun word ≡ (begun ++ word) ∷ []
pieces_alone begun [] none = ap (λ (text : Text). text ∷ []) (sym (append-nil begun))
pieces_alone begun (byte ∷ bytes) none =
    let both = or_none (parts Equals byte) (list_any (parts Equals) bytes) none in
    rw both.0 (pieces_alone (begun ++ byte ∷ []) bytes both.1 ∙ ap (λ (text : Text). text ∷ []) (append_assoc begun (byte ∷ []) bytes))

unchanged : {X : Type 0} (r : Result X BallotsFlaw) → and_then r (λ x. Ok x) ≡ r
unchanged (Ok x) = refl
unchanged (Err flaw) = refl

few_standing : (b : Bool) → nat_lt 1 (if b then 0 else 0 + 1) ≡ false
few_standing true = refl
few_standing false = refl

preference_alone : (r : Result ℕ BallotsFlaw) (withdrawn : List ℕ) (ranks : Ranked) →
    and_then (and_then r (λ c. Ok (standing_with withdrawn 0 c)))
    (λ standing. if nat_lt 1 standing then Ok (at_next BehindShared ranks) else and_then (and_then r (with_named ranks)) (λ more. Ok more))
    ≡ and_then r (with_named ranks)
preference_alone (Err flaw) withdrawn ranks = refl
preference_alone (Ok c) withdrawn ranks = rw (few_standing (list_any (nat_eq c) withdrawn)) (unchanged (with_named ranks c))

passed_alone : (r : Result ℕ BallotsFlaw) (withdrawn : List ℕ) (ranks : Ranked) →
    and_then (and_then r (λ c. Ok (standing_with withdrawn 0 c))) (λ standing. Ok ranks) ≡ and_then r (λ c. Ok ranks)
passed_alone (Err flaw) withdrawn ranks = refl
passed_alone (Ok c) withdrawn ranks = refl

-- a word without an equals sign is a rank with one candidate
pub alone_word : (highest : ℕ) (withdrawn named : List ℕ) (next : NextWord) (word : Text) → is_zero word ≡ false → list_any (parts Equals) word ≡ false →
    with_alone next highest (record { named = named; next = next }) word ≡ with_word highest withdrawn (record { named = named; next = next }) word
alone_word highest withdrawn named BehindZero word some alone = refl
alone_word highest withdrawn named Preference word some alone =
    rw (some, pieces_alone [] word alone) (sym (preference_alone (candidate_in highest word) withdrawn (record { named = named; next = Preference })))
alone_word highest withdrawn named BehindShared word some alone =
    rw (some, pieces_alone [] word alone) (sym (passed_alone (candidate_in highest word) withdrawn (record { named = named; next = BehindShared })))
