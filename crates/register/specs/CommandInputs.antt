-- The part of the state that a command needs.
use Rattle.std.specs.Prelude.{ℕ, Bool, false, not, ◌==◌, List, [], ◌∷◌, map, Option, Some, None, is_none, option_map}
use Rattle.count.specs.declared.stages.Due.{Due}
use Rattle.register.specs.declared.phase.Phase.{Phase}
use Rattle.register.specs.declared.phase.Phase.TheVariants.{Keying}
use Rattle.register.specs.declared.view.CommandInput.{CommandInput}
use Rattle.register.specs.declared.refusal.Reason.{Reason}
use Rattle.register.specs.declared.refusal.Reason.TheVariants.{NoSuchWard, NoSuchBatch, WrongPhase}
use Rattle.register.specs.Phases.{phase_number}
use Rattle.register.specs.Reasons.{objection}
use Rattle.register.specs.Agreement.{of_three}
use Rattle.register.specs.Polls.{PollEntry, poll_entry}
use Rattle.register.specs.Offices.{WardEntry, CandidateEntry, BatchEntry, ThirdEntry, KeyedEntry, JudgedEntry, ward_entry, candidate_entry, batch_entry, third_entry, keyed_entry, judged_entry}

-- What a command may need; each item is present only if the command needs it. For the ward that the command names, or to which the named batch
-- belongs: the ward, its candidates, its poll, what is due in its count, and the candidates elected. The candidate that the command names. The
-- batch that it names, and its third clerk; the actor's own keying of that batch; the existing keyings of its current round; and the verdict on
-- the paper that the command names.
pub record CommandInputEntries : Type 0 where
  pub ward : Option WardEntry
  pub candidate : Option CandidateEntry
  pub candidates : List CandidateEntry
  pub batch : Option BatchEntry
  pub third : Option ThirdEntry
  pub own : List KeyedEntry
  pub keyings : List (List KeyedEntry)
  pub verdict : Option JudgedEntry
  pub poll : Option PollEntry
  pub due : Option Due
  pub elected : List ℕ

-- an empty part, to be filled with what a command needs
abbrev pub empty_input : CommandInputEntries
empty_input = record { ward = None; candidate = None; candidates = []; batch = None; third = None; own = []; keyings = []; verdict = None; poll = None; due = None; elected = [] }

-- the ward exists and is in the given phase
abbrev pub is_in_phase : Phase → Option WardEntry → Bool
is_in_phase phase None = false
is_in_phase phase (Some w) = phase_number w.phase == phase_number phase

-- the objections to a command that requires a ward in the given phase: there is no such ward, or it is in another phase
abbrev pub phase_objections : Phase → Option WardEntry → List (Option Reason)
phase_objections phase ward = objection (is_none ward) NoSuchWard ∷ objection (not (is_in_phase phase ward)) WrongPhase ∷ []

-- the objections to a command that requires a batch whose ward is in keying: there is no such batch, or its ward is in another phase
abbrev pub batch_objections : CommandInputEntries → List (Option Reason)
batch_objections part = objection (is_none part.batch) NoSuchBatch ∷ objection (not (is_in_phase Keying part.ward)) WrongPhase ∷ []

-- the batch exists and passes a test
abbrev pub passes : (BatchEntry → Bool) → Option BatchEntry → Bool
passes test None = false
passes test (Some b) = test b

-- the entries of the part of a state that a command needs
abbrev pub input_entries : CommandInput → CommandInputEntries
input_entries part =
    record {
      ward = option_map ward_entry part.ward;
      candidate = option_map candidate_entry part.candidate;
      candidates = map candidate_entry part.candidates.items;
      batch = option_map batch_entry part.batch;
      third = option_map third_entry part.third_clerk;
      own = map keyed_entry part.own.items;
      keyings = of_three (map keyed_entry part.first.items) (map keyed_entry part.second.items) (map keyed_entry part.third.items);
      verdict = option_map judged_entry part.verdict;
      poll = option_map poll_entry part.poll;
      due = part.due;
      elected = part.elected;
    }
