-- The election in a ward and its count, determined solely by the ward, its candidates, papers and lots.
use Rattle.std.specs.Prelude.{◌≡◌, ℕ, ◌+◌, ◌-◌, Bool, true, false, not, ◌&&◌, ◌||◌, ◌==◌, nat_le, nat_eq, if◌then◌else◌, List, map, length, Option, Some, None}
use Rattle.std.specs.List.{list_all, list_any}
use Rattle.count.specs.Law.Contest.{Contest, History, contest_for}
use Rattle.count.specs.Law.Elected.{elected_after}
use Rattle.count.specs.Law.Due.{due_after}
use Rattle.count.specs.Law.Count.{stages_to, due_by}
use Rattle.count.specs.declared.stages.Due.{Due}
use Rattle.count.specs.declared.stages.Due.TheVariants.{Act, Lot, Finished}
use Rattle.register.specs.declared.phase.Phase.{Phase}
use Rattle.register.specs.declared.phase.Phase.TheVariants.{Nominations, Keying, Sealed, Declared}
use Rattle.count.specs.Bundles.{Bundle}
use Rattle.register.specs.declared.elections.Election.{Election}
use Rattle.register.specs.declared.polls.Ballots.{Ballots}
use Rattle.register.specs.Phases.{phase_number}
use Rattle.register.specs.Offices.{WardEntry, CandidateEntry, LotEntry, OfficeState, candidates_of, lots_of, ward_entry, candidate_entry}
use Rattle.register.specs.Nominations.{is_contested}
use Rattle.register.specs.Marks.{columns_of}
use Rattle.register.specs.Polls.{BallotsEntry, StandFor, are_bundled, piles_of, ballots_in}

-- a ward, its candidates, the papers of its taken batches, and its recorded lots, each consisting of a stage and
-- a candidate
pub record ElectionEntry : Type 0 where
  pub ward : WardEntry
  pub candidates : List CandidateEntry
  pub ballots : BallotsEntry
  pub lots : List (ℕ × ℕ)

-- a lot in the form used by the count
abbrev pub lot_pair : LotEntry → ℕ × ℕ
lot_pair l = (l.stage, l.candidate)

-- the election in a ward of a state
abbrev pub election_of : OfficeState → WardEntry → ElectionEntry
election_of s w =
    let candidates = candidates_of s w.number in
    record { ward = w; candidates = candidates; ballots = ballots_in (columns_of candidates) (piles_of s w.number); lots = map lot_pair (lots_of s w.number) }

-- an election consists of the given parts, with its papers collected in bundles
pub record IsElectionFrom (entry : ElectionEntry) (ward : WardEntry) (candidates : List CandidateEntry) (ballots : Ballots (List Bundle)) (lots : List (ℕ × ℕ)) : Type 0 where
  pub ward_is : ward ≡ entry.ward
  pub candidates_are : candidates ≡ entry.candidates
  pub ballots_are : StandFor are_bundled ballots entry.ballots
  pub lots_are : lots ≡ entry.lots

-- a program value represents the given election
abbrev pub IsElection : Election → ElectionEntry → Type 0
IsElection e entry = IsElectionFrom entry (ward_entry e.ward) (map candidate_entry e.candidates.items) e.ballots e.lots.items

-- ---- the count

-- the election is contested
abbrev pub has_count : ElectionEntry → Bool
has_count e = is_contested e.ward e.candidates

-- the contest that is counted
abbrev pub contest_of : ElectionEntry → Contest
contest_of e = contest_for (columns_of e.candidates) e.ward.seats e.ballots.papers

-- the completed stages: the first stages of the count, most recent first
abbrev pub stages_of : ElectionEntry → History
stages_of e = stages_to (contest_of e) e.lots e.ward.done

-- what is due after the completed stages, given the recorded lots; in an uncontested ward, the count is finished
abbrev pub due_of : ElectionEntry → Due
due_of e = if has_count e then due_by (contest_of e) e.lots (stages_of e) else Finished

-- the candidates elected in the completed stages; in an uncontested ward, all candidates
abbrev pub elected_of : ElectionEntry → List ℕ
elected_of e = if has_count e then elected_after (contest_of e) (stages_of e) else columns_of e.candidates

-- ---- the counts that a state can have

-- a ward in the given phase has been sealed
abbrev pub is_counted : Phase → Bool
is_counted Nominations = false
is_counted Keying = false
is_counted Sealed = true
is_counted Declared = true

-- nothing more is due
abbrev pub is_finished : Due → Bool
is_finished (Act action) = false
is_finished (Lot stage kind tied) = false
is_finished Finished = true

-- a lot is due, and the candidate is among those tied
abbrev pub is_tied : Due → ℕ → Bool
is_tied (Act action) c = false
is_tied (Lot stage kind tied) c = list_any (nat_eq c) tied
is_tied Finished c = false

-- the same tests for what is due, if known; if it isn't known, both tests fail
abbrev pub has_finished : Option Due → Bool
has_finished None = false
has_finished (Some due) = is_finished due

abbrev pub is_among : ℕ → Option Due → Bool
is_among c None = false
is_among c (Some due) = is_tied due c

-- the lot is for a stage, no later than the next one, that needed or needs a lot, and it names one of the tied
-- candidates
abbrev pub is_drawn_for : ElectionEntry → (ℕ × ℕ) → Bool
is_drawn_for e lot = nat_le lot.0 (e.ward.done + 1) && is_tied (due_after (contest_of e) (stages_to (contest_of e) e.lots (lot.0 - 1))) lot.1

-- the ward is declared
abbrev pub is_declared : Phase → Bool
is_declared phase = phase_number phase == phase_number Declared

-- the count has as many stages as are recorded as completed, every lot was or is needed and, if the ward is
-- declared, the count is finished
abbrev pub is_right_so_far : ElectionEntry → Bool
is_right_so_far e =
    (length (stages_of e) == e.ward.done) && (list_all (is_drawn_for e) e.lots && (not (is_declared e.ward.phase) || is_finished (due_after (contest_of e) (stages_of e))))

-- the ward has been sealed, and its election is contested
abbrev pub is_in_count : ElectionEntry → Bool
is_in_count e = is_counted e.ward.phase && has_count e

-- no stage is done, and no lot is recorded
abbrev pub is_uncounted : ElectionEntry → Bool
is_uncounted e = (e.ward.done == 0) && (length e.lots == 0)

-- if the ward is in count, every batch is settled
abbrev pub is_agreed : ElectionEntry → Bool
is_agreed e = not (is_in_count e) || e.ballots.settled

-- if there is a count, it is correct so far; if there is no count yet, nothing has been counted
abbrev pub is_counted_right : ElectionEntry → Bool
is_counted_right e = (if is_in_count e then is_right_so_far e else is_uncounted e)
