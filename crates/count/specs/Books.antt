-- Books as their callers see them.
use Rattle.std.specs.Prelude.{ℕ, List, [], ◌∷◌, ⊤}
use Rattle.paper.specs.Ranking.{IsRanking}
use Rattle.count.specs.Bundles.{Bundle}
use Rattle.count.specs.Law.Contest.{Contest, History}
use Rattle.count.specs.Law.Places.{Place}
use Rattle.count.specs.declared.placed.Placed.{Placed}
use Rattle.count.specs.declared.terms.Terms.{Terms}

-- the contest with the given terms and papers
abbrev pub contest_of : Terms → List (List ℕ) → Contest
contest_of terms papers = record { candidates = terms.candidates; seats = terms.seats; quota = terms.quota; papers = papers }

-- each paper ranks candidates without duplicates
abbrev pub AreRankings : List (List ℕ) → Type 0
AreRankings [] = ⊤
AreRankings (paper ∷ papers) = IsRanking paper × AreRankings papers

-- a count in progress, as contracts see it
pub record Book : Type 0 where
  pub contest : Contest
  pub history : History

-- a count in progress on bundles, as contracts see it
pub record BundledBook : Type 0 where
  pub contest : Contest
  pub history : History
  pub bundles : List Bundle

-- a place, as a bundle book accepts and returns it
abbrev pub placed : Place → Placed
placed at = record { holder = at.holder; value = at.value }
