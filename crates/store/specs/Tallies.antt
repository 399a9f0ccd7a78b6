-- The tallies of a ward's batches.
use Rattle.std.specs.Prelude.{◌≡◌, ◌<◌, ◌^◌, if◌then◌else◌, List, map, length}
use Rattle.std.specs.List.{filter}
use Rattle.register.specs.declared.verdicts.JudgedPaper.{JudgedPaper}
use Rattle.register.specs.Offices.{BatchEntry, OfficeState, judged_entry}
use Rattle.register.specs.Agreement.{agreed, are_taken, differ, is_open, is_taken, is_differing, open_among}
use Rattle.store.specs.declared.status.Tally.{Tally}
use Rattle.store.specs.declared.views.papers.Keyings.{Keyings}
use Rattle.store.specs.Keyings.{keyings_by}

-- the tally of a batch, from its keyings and the verdicts on its papers
abbrev pub tally_by : Keyings → List JudgedPaper → Tally
tally_by keyings verdicts =
    record {
      taken = if are_taken (keyings_by keyings) then 1 else 0;
      differing = if differ (keyings_by keyings) then 1 else 0;
      doubtful_open = length (filter (is_open (map judged_entry verdicts)) (agreed (keyings_by keyings)));
    }

-- how many of the given batches are taken, how many differ, and how many doubtful papers in the taken batches have no verdict; each number is exact if it is
-- below 2^64
pub record IsTally (s : OfficeState) (batches : List BatchEntry) (tally : Tally) : Type 0 where
  pub taken : length (filter (is_taken s) batches) < 2 ^ 64 → tally.taken ≡ length (filter (is_taken s) batches)
  pub differing : length (filter (is_differing s) batches) < 2 ^ 64 → tally.differing ≡ length (filter (is_differing s) batches)
  pub doubtful_open : open_among s (filter (is_taken s) batches) < 2 ^ 64 → tally.doubtful_open ≡ open_among s (filter (is_taken s) batches)
