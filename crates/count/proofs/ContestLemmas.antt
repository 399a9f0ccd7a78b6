-- Testing a contest, paper by paper.
use Rattle.std.proofs.Common.{◌≡◌, ℕ, suc, zero, ◌+◌, ◌<◌, ◌≤◌, List, [], ◌∷◌, ◌++◌, length, take, get_or, replicate, refl, sym, ◌∙◌, arith, subst, Bool, true}
use Rattle.std.specs.List.{AllByRecursion}
use Rattle.paper.specs.Columns.{IsCandidateSet}
use Rattle.votes.specs.Units.{max_seats, max_papers}
use Rattle.count.specs.Bundles.{Bundle, IsBundle, papers_of}
use Rattle.count.specs.Law.Contest.{AreForCandidates, contest_for, IsContest}

-- a property of another member, of all members, and of one of them
pub all-more : {X : Type 0} (P : X → Type 0) (xs : List X) (i : ℕ) (x : X) → i < length xs → x ≡ get_or xs i x → P x → AllByRecursion P (take i xs) → AllByRecursion P (take (i + 1) xs)
all-more P [] i x within is here sofar = absurd (omega arith)
all-more P (y ∷ ys) zero x within is here sofar = (subst P is here, tt)
all-more P (y ∷ ys) (suc i) x within is here sofar =
    let e : suc (i + 1) ≡ suc i + 1 = omega arith in
    subst (λ (k : ℕ). AllByRecursion P (take k (y ∷ ys))) e (sofar.0, all-more P ys i x (omega arith) is here sofar.1)

pub all-at : {X : Type 0} (P : X → Type 0) (xs : List X) (i : ℕ) (x : X) → i < length xs → x ≡ get_or xs i x → AllByRecursion P xs → P (get_or xs i x)
all-at P [] i x within is all = absurd (omega arith)
all-at P (y ∷ ys) zero x within is all = all.0
all-at P (y ∷ ys) (suc i) x within is all = all-at P ys i x (omega arith) is all.1

pub contest-is : (candidates : List ℕ) (seats : ℕ) (papers : List (List ℕ)) → IsCandidateSet candidates → 1 ≤ seats → seats ≤ max_seats → seats < length candidates → length papers ≤ max_papers →
    AreForCandidates candidates papers →
    IsContest (contest_for candidates seats papers)
contest-is candidates seats papers set some few contested few_papers of =
    record { candidate_set = set; some_seats = some; few_seats = few; contested = contested; few_papers = few_papers; for_candidates = of; quota_is = refl }

-- if each bundle has a paper, a property holds for all papers if and only if it holds for each bundle's list
all-replicated : (P : List ℕ → Type 0) (n : ℕ) (list : List ℕ) (rest : List (List ℕ)) → P list → AllByRecursion P rest → AllByRecursion P (replicate n list ++ rest)
all-replicated P zero list rest one all = all
all-replicated P (suc n) list rest one all = (one, all-replicated P n list rest one all)

all-behind : (P : List ℕ → Type 0) (n : ℕ) (list : List ℕ) (rest : List (List ℕ)) → AllByRecursion P (replicate n list ++ rest) → AllByRecursion P rest
all-behind P zero list rest all = all
all-behind P (suc n) list rest all = all-behind P n list rest all.1

first-replicated : (P : List ℕ → Type 0) (n : ℕ) (list : List ℕ) (rest : List (List ℕ)) → 1 ≤ n → AllByRecursion P (replicate n list ++ rest) → P list
first-replicated P zero list rest some all = absurd (omega (arith, some))
first-replicated P (suc n) list rest some all = all.0

pub all-papers : (P : List ℕ → Type 0) (bundles : List Bundle) → AllByRecursion (λ (b : Bundle). P b.0) bundles → AllByRecursion P (papers_of bundles)
all-papers P [] all = tt
all-papers P (b ∷ bs) all = all-replicated P b.1 b.0 (papers_of bs) all.0 (all-papers P bs all.1)

pub all-lists : (P : List ℕ → Type 0) (bundles : List Bundle) → AllByRecursion IsBundle bundles → AllByRecursion P (papers_of bundles) → AllByRecursion (λ (b : Bundle). P b.0) bundles
all-lists P [] each all = tt
all-lists P (b ∷ bs) each all = (first-replicated P b.1 b.0 (papers_of bs) each.0.0 all, all-lists P bs each.1 (all-behind P b.1 b.0 (papers_of bs) all))

-- tests that agree on each number agree on a whole list
pub all-alike : (f g : ℕ → Bool) (xs : List ℕ) → ((x : ℕ) → f x ≡ g x) → AllByRecursion (λ x. f x ≡ true) xs → AllByRecursion (λ x. g x ≡ true) xs
all-alike f g [] alike all = tt
all-alike f g (x ∷ xs) alike all = (sym (alike x) ∙ all.0, all-alike f g xs alike all.1)

pub ruleset contests = contest-is
