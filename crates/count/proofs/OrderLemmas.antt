-- Papers stored in bundles are the same papers, and have the same count.
use Rattle.std.proofs.Common.{◌≡◌, ℕ, List, [], ◌∷◌, ◌++◌, length, fold, refl, sym, ap, ◌∙◌, ◌+◌, subst, append-nil, append_assoc, arith}
use Rattle.std.specs.List.{AllByRecursion}
use Rattle.std.specs.List.Sorted.{IsPermutation}
use Rattle.std.specs.Ordering.{match_ordering}
use Rattle.std.specs.declared.cmp.Ordering.{Ordering}
use Rattle.std.specs.declared.cmp.Ordering.TheVariants.{Less, Equal, Greater}
use Rattle.std.proofs.lemmas.List.Sorted.{IsPermutation-refl, IsPermutation-trans, IsPermutation-append_left, IsPermutation-append_comm, length_permutation}
use Rattle.votes.specs.Units.{quota_of}
use Rattle.count.specs.Bundles.{Bundle, list_cmp, papers_of, with_papers, bundled}
use Rattle.count.specs.Law.Contest.{Contest, In, contest_for, IsContest}
use Rattle.count.specs.Law.Right.{reordered}
use Rattle.count.specs.Law.Count.{stages_to}
use Rattle.count.proofs.BundleLemmas.{papers-with_papers}
use Rattle.count.proofs.ContestLemmas.{all-papers}
use Rattle.count.proofs.Law.CountLemmas.{stages_reordered}

-- the papers of the bundles are the old ones and those added one by one
bundled-from : (bs : List Bundle) (papers : List (List ℕ)) → IsPermutation (papers_of bs ++ papers) (papers_of (fold (λ cs paper. with_papers cs paper 1) bs papers))
bundled-from bs [] = subst (λ l. IsPermutation l (papers_of bs)) (sym (append-nil (papers_of bs))) (IsPermutation-refl (papers_of bs))
bundled-from bs (p ∷ ps) =
    let old : List (List ℕ) = papers_of bs in
    let new : List (List ℕ) = papers_of (with_papers bs p 1) in
    let first : IsPermutation ((old ++ p ∷ []) ++ ps) ((p ∷ old) ++ ps) = IsPermutation-append_left ps (old ++ p ∷ []) (p ∷ old) (IsPermutation-append_comm old (p ∷ [])) in
    let joined : IsPermutation ((p ∷ old) ++ ps) (new ++ ps) = IsPermutation-append_left ps (p ∷ old) new (papers-with_papers p 1 bs) in
    let here : IsPermutation (old ++ p ∷ ps) (new ++ ps) = subst (λ l. IsPermutation l (new ++ ps)) (append_assoc old (p ∷ []) ps) (IsPermutation-trans _ _ _ first joined) in
    IsPermutation-trans _ _ _ here (bundled-from (with_papers bs p 1) ps)

pub bundled-permutation : (papers : List (List ℕ)) → IsPermutation papers (papers_of (bundled papers))
bundled-permutation papers = bundled-from [] papers

pub bundled-length : (papers : List (List ℕ)) → length (papers_of (bundled papers)) ≡ length papers
bundled-length papers = length_permutation papers (papers_of (bundled papers)) (bundled-permutation papers)

-- a property of each bundle's list and of another list holds for each list once that other list is added
lists_at : (P : List ℕ → Type 0) (list : List ℕ) (n : ℕ) (b : Bundle) (bs : List Bundle) (o : Ordering) → P list → AllByRecursion (λ (c : Bundle). P c.0) (b ∷ bs) →
    AllByRecursion (λ (c : Bundle). P c.0) (with_papers bs list n) → AllByRecursion (λ (c : Bundle). P c.0) (match_ordering o ((list, n) ∷ b ∷ bs) ((b.0, b.1 + n) ∷ bs) (b ∷ with_papers bs list n))
lists_at P list n b bs Less one all behind = (one, all)
lists_at P list n b bs Equal one all behind = all
lists_at P list n b bs Greater one all behind = (all.0, behind)

lists-with_papers : (P : List ℕ → Type 0) (list : List ℕ) (n : ℕ) (bs : List Bundle) → P list → AllByRecursion (λ (c : Bundle). P c.0) bs →
    AllByRecursion (λ (c : Bundle). P c.0) (with_papers bs list n)
lists-with_papers P list n [] one all = (one, tt)
lists-with_papers P list n (b ∷ bs) one all = lists_at P list n b bs (list_cmp list b.0) one all (lists-with_papers P list n bs one all.1)

pub lists-from : (P : List ℕ → Type 0) (bs : List Bundle) (papers : List (List ℕ)) → AllByRecursion (λ (c : Bundle). P c.0) bs → AllByRecursion P papers →
    AllByRecursion (λ (c : Bundle). P c.0) (fold (λ cs paper. with_papers cs paper 1) bs papers)
lists-from P bs [] all some = all
lists-from P bs (p ∷ ps) all some = lists-from P (with_papers bs p 1) ps (lists-with_papers P p 1 bs some.0 all) some.1

-- a contest with papers is also a contest on the papers of their bundles
pub contest-bundled : (candidates : List ℕ) (seats : ℕ) (papers : List (List ℕ)) → IsContest (contest_for candidates seats papers) →
    IsContest (contest_for candidates seats (papers_of (bundled papers)))
contest-bundled candidates seats papers fair = record {
  candidate_set = fair.candidate_set;
  some_seats = fair.some_seats;
  few_seats = fair.few_seats;
  contested = fair.contested;
  few_papers = omega (arith, fair.few_papers, bundled-length papers);
  for_candidates = all-papers (λ p. AllByRecursion (λ c. In c candidates) p) (bundled papers) (lists-from (λ p. AllByRecursion (λ c. In c candidates) p) [] papers tt fair.for_candidates);
  quota_is = refl;
}

-- a contest with papers is the contest with the papers of their bundles, in another order
pub contest-reordered : (candidates : List ℕ) (seats : ℕ) (papers : List (List ℕ)) →
    reordered (contest_for candidates seats papers) (papers_of (bundled papers)) ≡ contest_for candidates seats (papers_of (bundled papers))
contest-reordered candidates seats papers =
    ap (λ n. let it : Contest = record { candidates = candidates; seats = seats; quota = quota_of n seats; papers = papers_of (bundled papers) } in it) (sym (bundled-length papers))

-- so its count has the same stages
pub stages-bundled : (candidates : List ℕ) (seats : ℕ) (papers : List (List ℕ)) (lots : List (ℕ × ℕ)) (k : ℕ) →
    stages_to (contest_for candidates seats (papers_of (bundled papers))) lots k ≡ stages_to (contest_for candidates seats papers) lots k
stages-bundled candidates seats papers lots k =
    ap (λ (contest : Contest). stages_to contest lots k) (sym (contest-reordered candidates seats papers))
    ∙ stages_reordered (contest_for candidates seats papers) lots (papers_of (bundled papers)) k (bundled-permutation papers)

pub ruleset bundled_alike = (bundled-permutation, contest-bundled, stages-bundled)
