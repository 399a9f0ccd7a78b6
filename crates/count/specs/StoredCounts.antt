-- A count as it is stored with its papers: its bundles, their places, and the stages so far.
use Rattle.std.specs.Prelude.{◌≡◌, ℕ, List, map, reverse}
use Rattle.count.specs.Bundles.{Bundle, bundled}
use Rattle.count.specs.Books.{placed}
use Rattle.count.specs.Law.Contest.{Contest, History, IsContest}
use Rattle.count.specs.Law.Places.{place}
use Rattle.count.specs.Law.Right.{IsRightForSome}
use Rattle.count.specs.declared.placed.Placed.{Placed}
use Rattle.count.specs.declared.stages.Stage.{Stage}

-- the stored data of a count; until it is checked, it may be anything
pub record StoredCountEntry : Type 0 where
  pub candidates : List ℕ
  pub seats : ℕ
  pub bundles : List Bundle
  pub places : List Placed
  pub stages : List Stage

-- the places of the bundles after the given stages
abbrev pub places_after : Contest → History → List Bundle → List Placed
places_after contest stages bundles = map (λ (b : Bundle). placed (place contest stages b.0)) bundles

-- the stored data is that of the count of a contest after the given stages, which are correct for some lots
pub record IsStoredCountOf (contest : Contest) (stages : History) (kept : StoredCountEntry) : Type 0 where
  pub fair : IsContest contest
  pub right : IsRightForSome contest stages
  pub candidates_are : kept.candidates ≡ contest.candidates
  pub seats_are : kept.seats ≡ contest.seats
  pub bundles_are : kept.bundles ≡ bundled contest.papers
  pub places_are : kept.places ≡ places_after contest stages kept.bundles
  pub stages_are : kept.stages ≡ reverse stages
