-- The invariant of the loop in `election_of`: the wards so far were made again.
use Rattle.std.proofs.Common.{◌≡◌, List, map, take}
use Rattle.std.specs.List.{All}
use Rattle.checker.specs.Folders.{FolderWard, listed_of}
use Rattle.checker.specs.FolderWards.{AreMadeAs, IsElectionMade, IsGiven, row_listed}
use Rattle.checker.specs.IndexPage.{row_entry}
use Rattle.checker.proofs.folder_election.election_of.Given as goal

abbrev pub invariant-loop-row : goal.invariant-loop-row
invariant-loop-row l = record {
  made : IsElectionMade l.title l.election;
  again : (wards : List FolderWard) → All (IsGiven l.found) wards → map row_entry l.rows ≡ map (λ ward. row_listed (listed_of ward)) wards → AreMadeAs l.title (take l.row-index wards) l.election;
}
