-- Equal papers stored once: each list of preferences with the number of papers that have it.
use Rattle.std.specs.Prelude.{◌≡◌, ℕ, ◌+◌, ◌≤◌, List, [], ◌∷◌, length, map, fold, replicate}
use Rattle.std.specs.List.{AllByRecursion, flat_map}
use Rattle.std.specs.List.Sorted.{IsStrictlySortedBy, IsPermutation}
use Rattle.std.specs.Ordering.{nat_cmp, match_ordering}
use Rattle.std.specs.declared.cmp.Ordering.{Ordering}
use Rattle.std.specs.Cmp.Lexicographic.{slice_cmp}
use Rattle.paper.specs.Ranking.{IsRanking}

-- a list of preferences, and the number of papers that have it
abbrev pub Bundle : Type 0
Bundle = List ℕ × ℕ

-- the order of lists: lexicographic; a prefix precedes the lists that begin with it
abbrev pub list_cmp : List ℕ → List ℕ → Ordering
list_cmp = slice_cmp nat_cmp

-- the papers that bundles represent: each list, repeated as many times as it has papers
abbrev pub papers_of : List Bundle → List (List ℕ)
papers_of bundles = flat_map (λ (b : Bundle). replicate b.1 b.0) bundles

-- bundles with more papers for one list: either its number increases, or the list is inserted at its position with that number
abbrev pub with_papers : List Bundle → List ℕ → ℕ → List Bundle
with_papers [] list n = (list, n) ∷ []
with_papers (b ∷ bs) list n = match_ordering (list_cmp list b.0) ((list, n) ∷ b ∷ bs) ((b.0, b.1 + n) ∷ bs) (b ∷ with_papers bs list n)

-- the bundles of the given papers
abbrev pub bundled : List (List ℕ) → List Bundle
bundled papers = fold (λ bs paper. with_papers bs paper 1) [] papers

-- a bundle has at least one paper, and its list ranks at least one candidate without duplicates
abbrev pub IsBundle : Bundle → Type 0
IsBundle b = (1 ≤ b.1) × (1 ≤ length b.0) × IsRanking b.0

-- the lists are in ascending order without duplicates, and each belongs to at least one paper
pub record AreBundles (bundles : List Bundle) : Type 0 where
  pub rise : IsStrictlySortedBy list_cmp (map (λ (b : Bundle). b.0) bundles)
  pub each : AllByRecursion IsBundle bundles

-- the order of the papers makes no difference: no other bundles represent the same papers
abbrev pub AreToldByPapers : List Bundle → Type 0
AreToldByPapers bundles = (others : List Bundle) → AreBundles others → IsPermutation (papers_of others) (papers_of bundles) → others ≡ bundles
