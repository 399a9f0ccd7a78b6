-- Checks of the completed stages of a ward's count, given what is due before each stage; and of the tabulation of
-- those stages.
use Rattle.std.specs.Prelude.{◌≡◌, ℕ, ◌-◌, Bool, true, List, ◌++◌, slice_get}
use Rattle.count.specs.Books.{BundledBook}
use Rattle.count.specs.Bundles.{Bundle, papers_of, bundled}
use Rattle.count.specs.Law.Contest.{Contest, contest_for, IsContest}
use Rattle.count.specs.declared.stages.Due.{Due}
use Rattle.register.specs.Offices.{WardEntry, OfficeState, candidates_of}
use Rattle.register.specs.Nominations.{is_contested}
use Rattle.register.specs.Marks.{columns_of}
use Rattle.register.specs.Elections.{ElectionEntry, election_of, has_count, contest_of, stages_of, is_among}
use Rattle.register.specs.Tabulated.{TabulationEntries, bundles_in, figures_in}

-- if the election in a ward is contested, its count can be held
abbrev pub IsFair : OfficeState → WardEntry → Type 0
IsFair s w = is_contested w (candidates_of s w.number) ≡ true → IsContest (contest_of (election_of s w))

-- the lot is for a stage that needs one, and names one of the tied candidates, given what is due before each
-- stage, starting with the first
abbrev pub is_drawn_by : List Due → (ℕ × ℕ) → Bool
is_drawn_by dues lot = is_among lot.1 (slice_get dues (lot.0 - 1))

-- the contest of an election, with the papers in its bundles
abbrev pub contest_on_bundles : ElectionEntry → Contest
contest_on_bundles e = contest_for (columns_of e.candidates) e.ward.seats (papers_of (bundled e.ballots.papers))

-- a contest with the candidates and seats of the given election, and with the papers in its bundles
pub record IsOnBundlesOf (e : ElectionEntry) (ward : WardEntry) (lots : List (ℕ × ℕ)) (contest : Contest) : Type 0 where
  pub fair : IsContest (contest_of e)
  pub ward_is : ward ≡ e.ward
  pub lots_are : lots ≡ e.lots
  pub contest_is : contest ≡ contest_on_bundles e

-- a book has counted the completed stages of an election, with the papers in the election's bundles
pub record HasCounted (e : ElectionEntry) (ward : WardEntry) (columns : List ℕ) (bundles : List Bundle) (book : BundledBook) : Type 0 where
  pub contested : has_count e ≡ true
  pub ward_is : ward ≡ e.ward
  pub columns_are : columns ≡ columns_of e.candidates
  pub bundles_are : bundles ≡ bundled e.ballots.papers
  pub contest_is : book.contest ≡ contest_on_bundles e
  pub stages_are : book.history ≡ stages_of e

-- the completed stages of an election's count were appended to a tabulation
pub record IsAdded (e : ElectionEntry) (old new : TabulationEntries) : Type 0 where
  pub bundles : new.bundles ≡ old.bundles ++ bundles_in e
  pub figures : new.figures ≡ old.figures ++ figures_in e
