-- What never changes once a ward is sealed, and what may be added to its election.
use Rattle.std.specs.Prelude.{◌≡◌, ℕ, true, List, ◌++◌, Some}
use Rattle.std.specs.List.Sorted.{IsPermutation}
use Rattle.count.specs.Law.Contest.{History}
use Rattle.register.specs.declared.phase.Phase.{Phase}
use Rattle.register.specs.declared.command.Request.{Request}
use Rattle.register.specs.Offices.{OfficeState, WardEntry, candidates_of, empty_office, ward_at}
use Rattle.register.specs.Polls.{piles_of}
use Rattle.register.specs.Elections.{election_of, is_counted, is_declared, stages_of}
use Rattle.register.specs.StateConditions.{IsState}
use Rattle.register.specs.Machine.{after}

-- the ward exists in the given state and is past keying
pub record IsSealedIn (s : OfficeState) (w : WardEntry) : Type 0 where
  pub state : IsState s
  pub there : ward_at s w.number ≡ Some w
  pub sealed : is_counted w.phase ≡ true

-- A sealed ward in a later state. It still exists, has the same number, seats and name, and is still sealed. The following are unchanged: its
-- candidates; the keyings of each of its batches in the current round, and the verdicts on their papers; the preferences of each valid paper; and the
-- number of papers rejected with each code. The stages that had been completed are the first of those completed now. The lots that had been drawn are
-- among the lots drawn now. If the ward had been declared, its election is identical, including the result.
pub record StaysSealed (s later : OfficeState) (w : WardEntry) : Type 0 where
  pub ward : WardEntry
  pub there : ward_at later w.number ≡ Some ward
  pub number : ward.number ≡ w.number
  pub seats : ward.seats ≡ w.seats
  pub name : ward.name ≡ w.name
  pub sealed : is_counted ward.phase ≡ true
  pub candidates : candidates_of later w.number ≡ candidates_of s w.number
  pub papers : piles_of later w.number ≡ piles_of s w.number
  pub ballots : (election_of later ward).ballots ≡ (election_of s w).ballots
  pub stages : (more : History) × (stages_of (election_of later ward) ≡ more ++ stages_of (election_of s w))
  pub lots : (more : List (ℕ × ℕ)) × IsPermutation (more ++ (election_of s w).lots) (election_of later ward).lots
  pub declared : is_declared w.phase ≡ true → election_of later ward ≡ election_of s w

-- A sealed ward stays sealed, whatever requests follow.
abbrev pub SealedWardsStay : Type 0
SealedWardsStay = (s : OfficeState) (w : WardEntry) (requests : List Request) → IsSealedIn s w → StaysSealed s (after s requests) w

-- If a ward is sealed after a list of requests, its papers still produce the same ballots after any further requests.
abbrev pub SealedPapersStay : Type 0
SealedPapersStay =
    (earlier further : List Request) (w : WardEntry) → ward_at (after empty_office earlier) w.number ≡ Some w → is_counted w.phase ≡ true
    → (ward : WardEntry) × (ward_at (after empty_office (earlier ++ further)) w.number ≡ Some ward)
    × ((election_of (after empty_office (earlier ++ further)) ward).ballots ≡ (election_of (after empty_office earlier) w).ballots)

-- Every ward in the given phase stays sealed, whatever requests follow.
abbrev pub PhaseStays : Phase → Type 0
PhaseStays phase =
    (s : OfficeState) (w : WardEntry) (requests : List Request) → IsState s → ward_at s w.number ≡ Some w → w.phase ≡ phase → StaysSealed s (after s requests) w
