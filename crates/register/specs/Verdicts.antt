-- The command that judges a doubtful paper: the part of the state that it needs, the objections to it, and its subject, reply and
-- effect.
use Rattle.std.specs.Prelude.{ℕ, Bool, not, ◌&&◌, List, [], ◌∷◌, ◌++◌, codes, string_bytes, Option, None, is_some}
use Rattle.std.specs.Fmt.{decimal}
use Rattle.register.specs.declared.refusal.Reason.{Reason}
use Rattle.register.specs.declared.refusal.Reason.TheVariants.{NumberOutOfRange, NotTaken, NotDoubtful, AlreadyJudged, BadVerdict}
use Rattle.register.specs.declared.verdicts.Verdict.{Verdict}
use Rattle.register.specs.declared.verdicts.Verdict.TheVariants.{Accept, Reject}
use Rattle.register.specs.declared.verdicts.VerdictCommand.{VerdictCommand}
use Rattle.register.specs.Reasons.{objection}
use Rattle.register.specs.Ranges.{is_between, is_office, is_batch_number, is_paper_number}
use Rattle.register.specs.Offices.{JudgedEntry, OfficeState, batch_at, verdict_at}
use Rattle.register.specs.Marks.{columns_of, marks_objection, is_valid}
use Rattle.register.specs.Agreement.{agreed, are_taken, has_doubtful}
use Rattle.register.specs.Batches.{ward_for, candidates_for, keyings_for}
use Rattle.register.specs.Effects.{EffectEntry, paper_judged}
use Rattle.register.specs.CommandInputs.{CommandInputEntries, empty_input, batch_objections}

-- the part of the state that the command needs
abbrev pub part_of : OfficeState → ℕ → VerdictCommand → CommandInputEntries
part_of s actor command =
    record empty_input {
      ward = ward_for s (batch_at s command.batch);
      candidates = candidates_for s (batch_at s command.batch);
      batch = batch_at s command.batch;
      keyings = keyings_for s (batch_at s command.batch);
      verdict = verdict_at s command.batch command.paper;
    }

-- the numbers are in range and the actor may send the command
abbrev pub is_in_range : ℕ → VerdictCommand → Bool
is_in_range actor command = is_office actor && (is_batch_number command.batch && is_paper_number command.paper)

-- a code with which the returning officer may reject a paper: no official mark, voter identifiable, or void for uncertainty
abbrev pub is_rejection_code : ℕ → Bool
is_rejection_code = is_between 3 5

-- the objection to the marks in an accepting verdict
abbrev pub verdict_objection : List ℕ → ℕ → Verdict → Option Reason
verdict_objection columns paper (Accept marks) = marks_objection columns paper (string_bytes marks)
verdict_objection columns paper (Reject code) = None

-- an accepted paper must be valid according to its marks, and a rejection must have a permitted code
abbrev pub is_verdict : List ℕ → Verdict → Bool
is_verdict columns (Accept marks) = is_valid columns (string_bytes marks)
is_verdict columns (Reject code) = is_rejection_code code

-- the objections to the command, ordered by reason number
abbrev pub objections : ℕ → VerdictCommand → CommandInputEntries → List (Option Reason)
objections actor command part =
    objection (not (is_in_range actor command)) NumberOutOfRange
    ∷ batch_objections part
    ++ (
    verdict_objection (columns_of part.candidates) command.paper command.verdict
    ∷ objection (not (are_taken part.keyings)) NotTaken
    ∷ objection (not (has_doubtful (agreed part.keyings) command.paper)) NotDoubtful
    ∷ objection (is_some part.verdict) AlreadyJudged
    ∷ objection (not (is_verdict (columns_of part.candidates) command.verdict)) BadVerdict
    ∷ []
    )

-- the subject of the receipt, which identifies a command that is repeated with the same id
unfoldable pub subject_of : VerdictCommand → List ℕ
subject_of command = codes "judge " ++ (decimal command.batch ++ (codes " " ++ decimal command.paper))

-- the word in the reply that reports the verdict
abbrev pub verdict_word : Verdict → List ℕ
verdict_word (Accept marks) = codes " accepted"
verdict_word (Reject code) = codes " rejected " ++ decimal code

-- the reply to an accepted command
unfoldable pub reply_to : VerdictCommand → List ℕ
reply_to command = codes "batch " ++ (decimal command.batch ++ (codes " paper " ++ (decimal command.paper ++ verdict_word command.verdict)))

-- the verdict as stored: 0 with the marks of an accepted paper, or a rejection code without marks
abbrev pub judged_as : ℕ → ℕ → Verdict → JudgedEntry
judged_as batch paper (Accept marks) = record { batch = batch; paper = paper; code = 0; marks = string_bytes marks }
judged_as batch paper (Reject code) = record { batch = batch; paper = paper; code = code; marks = [] }

-- the effect of an accepted command
abbrev pub effect_of : VerdictCommand → EffectEntry
effect_of command = paper_judged (judged_as command.batch command.paper command.verdict)
