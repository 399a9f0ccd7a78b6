-- The clerks' only command: the part of the state that it needs, the objections to it, and its subject, reply and effect.
use Rattle.std.specs.Prelude.{ℕ, ◌+◌, ◌^◌, ◌<◌, Bool, not, ◌&&◌, ◌==◌, List, [], ◌∷◌, ◌++◌, length, map, codes, string_bytes, Option}
use Rattle.std.specs.Fmt.{decimal}
use Rattle.register.specs.declared.refusal.Reason.{Reason}
use Rattle.register.specs.declared.refusal.Reason.TheVariants.{NumberOutOfRange, NotItsClerk, NotThisRound, AlreadyKeyed, WrongPaperCount}
use Rattle.register.specs.declared.keyings.KeyingCommand.{KeyingCommand}
use Rattle.register.specs.Reasons.{objection}
use Rattle.register.specs.Ranges.{is_clerk, is_batch_number, is_round}
use Rattle.register.specs.Offices.{KeyedEntry, OfficeState, batch_at, keying_of}
use Rattle.register.specs.Marks.{columns_of, first_bad_marks}
use Rattle.register.specs.Agreement.{is_keyed, is_its_clerk}
use Rattle.register.specs.Batches.{ward_for, candidates_for, third_for}
use Rattle.register.specs.Effects.{EffectEntry, papers_keyed}
use Rattle.register.specs.CommandInputs.{CommandInputEntries, empty_input, batch_objections, passes}

-- the marks texts, in paper order
abbrev pub texts_of : KeyingCommand → List (List ℕ)
texts_of command = map string_bytes command.papers.items

-- there are few enough papers to number them in 32 bits, as is always the case if there is no objection to the command
abbrev pub IsNumbered : KeyingCommand → Type 0
IsNumbered command = length command.papers.items < 2 ^ 32

-- the part of the state that the command needs; the only keyings it includes are the actor's own
abbrev pub part_of : OfficeState → ℕ → KeyingCommand → CommandInputEntries
part_of s actor command =
    record empty_input {
      ward = ward_for s (batch_at s command.batch);
      candidates = candidates_for s (batch_at s command.batch);
      batch = batch_at s command.batch;
      third = third_for s (batch_at s command.batch);
      own = keying_of s command.batch command.round actor;
    }

-- the numbers are in range and the actor may send the command
abbrev pub is_in_range : ℕ → KeyingCommand → Bool
is_in_range actor command = is_clerk actor && (is_batch_number command.batch && is_round command.round)

-- the objections to the command, ordered by reason number
abbrev pub objections : ℕ → KeyingCommand → CommandInputEntries → List (Option Reason)
objections actor command part =
    objection (not (is_in_range actor command)) NumberOutOfRange
    ∷ batch_objections part
    ++ (
    objection (not (passes (λ b. is_its_clerk actor b part.third) part.batch)) NotItsClerk
    ∷ objection (not (passes (λ b. b.round == command.round) part.batch)) NotThisRound
    ∷ objection (is_keyed part.own) AlreadyKeyed
    ∷ objection (not (passes (λ b. b.size == length (texts_of command)) part.batch)) WrongPaperCount
    ∷ first_bad_marks (columns_of part.candidates) 1 (texts_of command)
    ∷ []
    )

-- the subject of the receipt, which identifies a command that is repeated with the same id
unfoldable pub subject_of : KeyingCommand → List ℕ
subject_of command = codes "key " ++ (decimal command.batch ++ (codes " " ++ decimal command.round))

-- The reply to an accepted command depends only on the command, so no clerk learns anything about another clerk's keying.
unfoldable pub reply_to : KeyingCommand → List ℕ
reply_to command = codes "batch " ++ (decimal command.batch ++ (codes " round " ++ (decimal command.round ++ codes " keyed")))

-- the papers that a clerk keyed for a batch in the given round, numbered from the given number
unfoldable pub papers_from : ℕ → ℕ → ℕ → ℕ → List (List ℕ) → List KeyedEntry
papers_from batch round clerk paper [] = []
papers_from batch round clerk paper (marks ∷ others) = record { batch = batch; round = round; clerk = clerk; paper = paper; marks = marks } ∷ papers_from batch round clerk (paper + 1) others

-- the effect of an accepted command; the papers are numbered from 1
abbrev pub effect_of : ℕ → KeyingCommand → EffectEntry
effect_of actor command = papers_keyed (papers_from command.batch command.round actor 1 (texts_of command))
