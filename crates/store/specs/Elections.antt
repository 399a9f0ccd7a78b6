-- The data read for the count of a ward.
use Rattle.std.specs.Prelude.{◌≡◌, ◌==◌, map, ℕ, true, false, List, Option, Some, None, ⊤, Bool, ◌&&◌}
use Rattle.std.specs.List.{filter}
use Rattle.count.specs.StoredCounts.{StoredCountEntry, IsStoredCountOf}
use Rattle.register.specs.Offices.{WardEntry, CandidateEntry, OfficeState, ward_at, candidates_of, ward_entry, candidate_entry, judged_entry}
use Rattle.register.specs.Polls.{Pile, poll_of}
use Rattle.register.specs.declared.elections.Count.{Count}
use Rattle.register.specs.declared.elections.CountedWard.{CountedWard}
use Rattle.register.specs.declared.elections.WardSheet.{WardSheet}
use Rattle.register.specs.declared.elections.Election.{Election}
use Rattle.register.specs.Elections.{ElectionEntry, IsElection, has_count, contest_of, stages_of, due_of, elected_of, election_of, is_counted, is_in_count}
use Rattle.register.specs.Nominations.{is_contested}
use Rattle.register.specs.CommandInputs.{CommandInputEntries, empty_input}
use Rattle.register.specs.Tabulated.{PlacedEntry, FigureEntry, tabulation_of, has_stages, IsCount, IsCountOf, IsCountedWard, IsSheetOf}
use Rattle.store.specs.declared.views.papers.BatchPapers.{BatchPapers}
use Rattle.store.specs.Keyings.{keyings_by}

-- the entry for a batch's papers
abbrev pub pile_by : BatchPapers → Pile
pile_by papers = record { keyings = keyings_by papers.keyings; verdicts = map judged_entry papers.verdicts.items }

-- the ward found has been sealed, and its election is contested with these candidates
abbrev pub is_counted_with : Option WardEntry → List CandidateEntry → Bool
is_counted_with None candidates = false
is_counted_with (Some w) candidates = is_counted w.phase && is_contested w candidates

-- there is a ward with the given number, and it is in count
abbrev pub IsInCount : OfficeState → ℕ → Type 0
IsInCount s ward = (w : WardEntry) × (ward_at s ward ≡ Some w) × (is_in_count (election_of s w) ≡ true)

-- the election found represents this one; none was found if this one doesn't exist
abbrev pub IsFoundFor : Option Election → Option ElectionEntry → Type 0
IsFoundFor None None = ⊤
IsFoundFor (Some e) (Some entry) = IsElection e entry
IsFoundFor None (Some entry) = ⊥
IsFoundFor (Some e) None = ⊥

-- the input for a command that needs the poll of an election
abbrev pub polled_part : Option ElectionEntry → CommandInputEntries
polled_part None = empty_input
polled_part (Some e) = record empty_input { ward = Some e.ward; poll = Some (poll_of e.ward.seats e.ballots) }

-- the input for a command that needs what an election's count requires next, and the elected candidates
abbrev pub counted_part : Option ElectionEntry → CommandInputEntries
counted_part None = empty_input
counted_part (Some e) = record empty_input { ward = Some e.ward; due = Some (due_of e); elected = elected_of e }

-- ---- the count

-- the bundles and the figures of a ward
abbrev pub bundles_at : OfficeState → ℕ → List PlacedEntry
bundles_at s ward = filter (λ (b : PlacedEntry). b.ward == ward) (tabulation_of s).bundles

abbrev pub figures_at : OfficeState → ℕ → List FigureEntry
figures_at s ward = filter (λ (f : FigureEntry). f.ward == ward) (tabulation_of s).figures

-- the election in the ward found
abbrev pub election_in : OfficeState → CountedWard → ElectionEntry
election_in s found = election_of s (ward_entry found.ward)

-- the ward found exists, and its candidates are those found with it
abbrev pub WasFound : OfficeState → CountedWard → Type 0
WasFound s found = (ward_at s found.ward.number ≡ Some (ward_entry found.ward)) × (map candidate_entry found.candidates.items ≡ candidates_of s found.ward.number)

-- the ward with the given number, if it exists, was found with its candidates and without its count
abbrev pub IsContestAt : OfficeState → ℕ → Option CountedWard → Type 0
IsContestAt s ward None = ward_at s ward ≡ None
IsContestAt s ward (Some found) = (ward_at s ward ≡ Some (ward_entry found.ward)) × WasFound s found × (found.count ≡ None)

-- the result is the stored count of this election
abbrev pub IsStoredCount : ElectionEntry → Option StoredCountEntry → Type 0
IsStoredCount e found = (kept : StoredCountEntry) × (found ≡ Some kept) × IsStoredCountOf (contest_of e) (stages_of e) kept

-- the count of an election if a stage has been done; `None` otherwise
abbrev pub IsCountIfBegun : ElectionEntry → Option Count → Type 0
IsCountIfBegun e None = has_stages e ≡ false
IsCountIfBegun e (Some count) = (has_stages e ≡ true) × IsCountOf e count

-- `IsCountIfBegun`, for an election that may not exist
abbrev pub IsCountIfBegunFor : Option ElectionEntry → Option Count → Type 0
IsCountIfBegunFor None found = found ≡ None
IsCountIfBegunFor (Some e) found = IsCountIfBegun e found

-- the count of an election if it is contested; `None` otherwise
abbrev pub IsCountIfContested : ElectionEntry → Option Count → Type 0
IsCountIfContested e None = has_count e ≡ false
IsCountIfContested e (Some count) = (has_count e ≡ true) × IsCountOf e count

-- the ward and the candidates of an election, and its count
pub record IsWardCount (e : ElectionEntry) (found : CountedWard) : Type 0 where
  pub ward_is : ward_entry found.ward ≡ e.ward
  pub candidates_are : map candidate_entry found.candidates.items ≡ e.candidates
  pub count_is : IsCountIfContested e found.count

-- the result is the ward and the candidates of an election, and its count
abbrev pub IsCounted : ElectionEntry → Option CountedWard → Type 0
IsCounted e found = (count : CountedWard) × (found ≡ Some count) × IsWardCount e count

-- the result is that of `IsCounted`, along with the number of rejected papers
abbrev pub IsBegun : ElectionEntry → Option WardSheet → Type 0
IsBegun e found = (sheet : WardSheet) × (found ≡ Some sheet) × IsWardCount e sheet.counted × (sheet.rejected ≡ e.ballots.rejected)

-- the result is that of `IsCounted` if the election exists
abbrev pub IsCountedFor : Option ElectionEntry → Option CountedWard → Type 0
IsCountedFor None found = found ≡ None
IsCountedFor (Some e) found = IsCounted e found

-- the count is that of an election if the election exists and is contested
abbrev pub IsCountIfExists : Option ElectionEntry → Option Count → Type 0
IsCountIfExists None shown = ⊤
IsCountIfExists (Some e) shown = has_count e ≡ true → IsCount e shown

-- ---- the texts

-- the result is the ward of an election, with its count if it is in count
abbrev pub IsCountedIn : ElectionEntry → Option CountedWard → Type 0
IsCountedIn e found = (counted : CountedWard) × (found ≡ Some counted) × IsCountedWard e counted

abbrev pub IsCountedInFor : Option ElectionEntry → Option CountedWard → Type 0
IsCountedInFor None found = found ≡ None
IsCountedInFor (Some e) found = IsCountedIn e found

-- the result is the data for the sheet of an election
abbrev pub IsSheet : ElectionEntry → Option WardSheet → Type 0
IsSheet e found = (sheet : WardSheet) × (found ≡ Some sheet) × IsSheetOf e sheet

abbrev pub IsSheetFor : Option ElectionEntry → Option WardSheet → Type 0
IsSheetFor None found = found ≡ None
IsSheetFor (Some e) found = IsSheet e found
