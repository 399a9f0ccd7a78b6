-- The checks on a stored count before it resumes.
use Rattle.std.specs.Prelude.{◌≡◌, ◌<◌, ◌≤◌, List, length, reverse}
use Rattle.std.specs.List.{AllByRecursion}
use Rattle.votes.specs.Units.{max_units}
use Rattle.count.specs.Bundles.{Bundle, papers_of, AreBundles}
use Rattle.count.specs.Law.Contest.{contest_for, IsContest}
use Rattle.count.specs.Inside.Holdings.{newest_lost}
use Rattle.count.specs.Inside.Placing.{contest_on, IsSound}
use Rattle.count.specs.declared.placed.Placed.{Placed}
use Rattle.count.specs.declared.stages.Stage.{Stage}
use Rattle.count.specs.declared.terms.Terms.{Terms}

-- every number is in range for some count, and the quota is that of the papers and seats if a count can be held on them
pub record IsInRange (terms : Terms) (bundles : List Bundle) (places : List Placed) (stages : List Stage) : Type 0 where
  pub quota_is : IsContest (contest_for terms.candidates terms.seats (papers_of bundles)) → contest_on terms bundles ≡ contest_for terms.candidates terms.seats (papers_of bundles)
  pub bundles_are : AreBundles bundles
  pub sound : AllByRecursion IsSound places
  pub few : length stages < 255
  pub lost_few : newest_lost (reverse stages) ≤ max_units
