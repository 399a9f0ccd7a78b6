-- The status of a ward's election, the columns of a batch's papers, a clerk's work, and the text of a batch's ballot papers.
use Rattle.std.specs.Prelude.{ℕ, Bool, ◌&&◌, List, map, length, Option, None, option_map, option_and_then, string_bytes, if◌then◌else◌}
use Rattle.std.specs.List.{filter}
use Rattle.register.specs.declared.phase.Phase.{Phase}
use Rattle.register.specs.declared.phase.Phase.TheVariants.{Keying}
use Rattle.register.specs.declared.status.BallotPaper.{BallotPaper}
use Rattle.register.specs.declared.status.Status.{Status}
use Rattle.register.specs.declared.status.Work.{Work}
use Rattle.register.specs.Offices.{WardEntry, CandidateEntry, BatchEntry, OfficeState, candidate_entry, ward_at, candidates_of, batch_at, third_at, keying_of}
use Rattle.register.specs.Marks.{columns_of}
use Rattle.register.specs.Agreement.{is_keyed, is_its_clerk, batches_of, taken_of, differing_of, open_among}
use Rattle.register.specs.CommandInputs.{is_in_phase}

-- The status of a ward: its number, its phase, its number of candidates and its number of batches, and how many of the batches are taken and how many
-- differ. It also includes how many doubtful papers in the taken batches have no verdict yet, and how many stages of the count are done.
pub record StatusEntry : Type 0 where
  pub ward : ℕ
  pub phase : Phase
  pub candidates : ℕ
  pub batches : ℕ
  pub taken : ℕ
  pub differing : ℕ
  pub doubtful_open : ℕ
  pub stages : ℕ

-- the status of a ward
abbrev pub status_of : OfficeState → WardEntry → StatusEntry
status_of s w =
    record {
      ward = w.number;
      phase = w.phase;
      candidates = length (candidates_of s w.number);
      batches = length (batches_of s w.number);
      taken = length (taken_of s w.number);
      differing = length (differing_of s w.number);
      doubtful_open = open_among s (taken_of s w.number);
      stages = w.done;
    }

-- the status of the ward with the given number, if there is one
abbrev pub status_at : OfficeState → ℕ → Option StatusEntry
status_at s ward = option_map (status_of s) (ward_at s ward)

-- the columns of the papers in the batch with the given number, if there is one: the columns of its ward
abbrev pub columns_at : OfficeState → ℕ → Option (List ℕ)
columns_at s batch = option_map (λ (b : BatchEntry). columns_of (candidates_of s b.ward)) (batch_at s batch)

-- the entry for a status
abbrev pub status_entry : Status → StatusEntry
status_entry t =
    record {
      ward = t.ward;
      phase = t.phase;
      candidates = t.candidates;
      batches = t.batches;
      taken = t.taken;
      differing = t.differing;
      doubtful_open = t.doubtful_open;
      stages = t.stages;
    }

-- ---- the work of a clerk

-- a batch assigned to a clerk: its number, its ward, the columns of its papers, the number of papers, its current round, and whether the clerk has keyed it
-- in that round
pub record WorkEntry : Type 0 where
  pub batch : ℕ
  pub ward : ℕ
  pub columns : List ℕ
  pub size : ℕ
  pub round : ℕ
  pub keyed : Bool

-- a batch is part of a clerk's work: it is assigned to the clerk, and its ward is in keying
abbrev pub is_work : OfficeState → ℕ → BatchEntry → Bool
is_work s clerk b = is_its_clerk clerk b (third_at s b.number) && is_in_phase Keying (ward_at s b.ward)

-- a batch as part of a clerk's work
abbrev pub work_on : OfficeState → ℕ → BatchEntry → WorkEntry
work_on s clerk b =
    record { batch = b.number; ward = b.ward; columns = columns_of (candidates_of s b.ward); size = b.size; round = b.round; keyed = is_keyed (keying_of s b.number b.round clerk) }

-- a clerk's work: the clerk's batches in wards that are in keying, ordered by number
abbrev pub work_of : OfficeState → ℕ → List WorkEntry
work_of s clerk = map (work_on s clerk) (filter (is_work s clerk) s.batches)

-- the entry for a piece of work
abbrev pub work_entry : Work → WorkEntry
work_entry w = record { batch = w.batch; ward = w.ward; columns = w.columns; size = w.size; round = w.round; keyed = w.keyed }

-- ---- the text of a batch's ballot papers

-- the text of a ballot paper: its ward's number and name, and the candidates
pub record BallotPaperEntry : Type 0 where
  pub ward : ℕ
  pub name : List ℕ
  pub candidates : List CandidateEntry

-- the ballot paper of a ward
abbrev pub paper_of : OfficeState → WardEntry → BallotPaperEntry
paper_of s w = record { ward = w.number; name = w.name; candidates = candidates_of s w.number }

-- the ballot paper of a batch, if the actor is one of its clerks
abbrev pub paper_for : OfficeState → ℕ → BatchEntry → Option BallotPaperEntry
paper_for s clerk b = if is_its_clerk clerk b (third_at s b.number) then option_map (paper_of s) (ward_at s b.ward) else None

-- the ballot paper of the batch with the given number, if there is one
abbrev pub paper_at : OfficeState → ℕ → ℕ → Option BallotPaperEntry
paper_at s clerk batch = option_and_then (paper_for s clerk) (batch_at s batch)

-- the entry for a ballot paper
abbrev pub paper_entry : BallotPaper → BallotPaperEntry
paper_entry p = record { ward = p.ward.number; name = string_bytes p.ward.name; candidates = map candidate_entry p.candidates.items }
