-- The reasons for refusing requests: their numbers and texts.
use Rattle.std.specs.Prelude.{ℕ, Bool, if◌then◌else◌, List, [], ◌∷◌, ◌++◌, codes, Option, Some, None}
use Rattle.std.specs.Fmt.{decimal}
use Rattle.register.specs.Texts.{listed}
use Rattle.register.specs.declared.refusal.Reason.{Reason}
use Rattle.register.specs.declared.refusal.Reason.TheVariants.{BadId, IdUsed, NumberOutOfRange, BadName, NoSuchWard, WardExists, NoSuchBatch, BatchExists, WrongPhase, CandidateExists}
use Rattle.register.specs.declared.refusal.Reason.TheVariants.{NoSuchCandidate, NoCandidates, SameClerk, NotItsClerk, NotThisRound, AlreadyKeyed, WrongPaperCount, BadMarks, NoDifference}
use Rattle.register.specs.declared.refusal.Reason.TheVariants.{NotTaken, NotDoubtful, AlreadyJudged, BadVerdict, NotReady, CountFinished, LotNeeded, NoSuchLot, NotAmong, CountNotFinished}
use Rattle.register.specs.declared.refusal.Reason.TheVariants.{ThirdSet}

-- the number that represents a reason
abbrev pub reason_number : Reason → ℕ
reason_number BadId = 1
reason_number IdUsed = 2
reason_number NumberOutOfRange = 3
reason_number BadName = 4
reason_number NoSuchWard = 5
reason_number WardExists = 6
reason_number NoSuchBatch = 7
reason_number BatchExists = 8
reason_number WrongPhase = 9
reason_number CandidateExists = 10
reason_number NoSuchCandidate = 11
reason_number NoCandidates = 12
reason_number SameClerk = 13
reason_number NotItsClerk = 14
reason_number NotThisRound = 15
reason_number AlreadyKeyed = 16
reason_number WrongPaperCount = 17
reason_number (BadMarks paper fault) = 18
reason_number NoDifference = 19
reason_number NotTaken = 20
reason_number NotDoubtful = 21
reason_number AlreadyJudged = 22
reason_number BadVerdict = 23
reason_number NotReady = 24
reason_number CountFinished = 25
reason_number (LotNeeded stage among) = 26
reason_number NoSuchLot = 27
reason_number NotAmong = 28
reason_number CountNotFinished = 29
reason_number ThirdSet = 30

-- the text of a reason, up to the numbers that it includes, if any
abbrev pub reason_words : Reason → List ℕ
reason_words BadId = codes "bad id"
reason_words IdUsed = codes "id used for another subject"
reason_words NumberOutOfRange = codes "number out of range"
reason_words BadName = codes "bad name"
reason_words NoSuchWard = codes "no such ward"
reason_words WardExists = codes "ward exists"
reason_words NoSuchBatch = codes "no such batch"
reason_words BatchExists = codes "batch exists"
reason_words WrongPhase = codes "wrong phase"
reason_words CandidateExists = codes "candidate exists"
reason_words NoSuchCandidate = codes "no such candidate"
reason_words NoCandidates = codes "no candidates"
reason_words SameClerk = codes "clerks not different"
reason_words NotItsClerk = codes "clerk not of this batch"
reason_words NotThisRound = codes "not this round"
reason_words AlreadyKeyed = codes "already keyed"
reason_words WrongPaperCount = codes "wrong number of papers"
reason_words (BadMarks paper fault) = codes "bad marks on paper "
reason_words NoDifference = codes "keyings don't differ"
reason_words NotTaken = codes "batch not taken"
reason_words NotDoubtful = codes "paper not doubtful"
reason_words AlreadyJudged = codes "already judged"
reason_words BadVerdict = codes "bad verdict"
reason_words NotReady = codes "not ready to seal"
reason_words CountFinished = codes "count finished"
reason_words (LotNeeded stage among) = codes "lot needed at stage "
reason_words NoSuchLot = codes "no such lot due"
reason_words NotAmong = codes "not among the tied"
reason_words CountNotFinished = codes "count not finished"
reason_words ThirdSet = codes "third clerk is set"

-- the numbers in the text of a reason
abbrev pub reason_numbers : Reason → List ℕ
reason_numbers (BadMarks paper fault) = decimal paper ++ (codes ", fault " ++ decimal fault)
reason_numbers (LotNeeded stage among) = decimal stage ++ (codes " among " ++ listed among)
reason_numbers _ = []

-- the text of a reason, including its numbers
abbrev pub reason_text : Reason → List ℕ
reason_text why = reason_words why ++ reason_numbers why

-- an objection: the given reason, if a condition is met
abbrev pub objection : Bool → Reason → Option Reason
objection met why = if met then Some why else None

-- the first of several objections
abbrev pub first_reason : List (Option Reason) → Option Reason
first_reason [] = None
first_reason (Some why ∷ others) = Some why
first_reason (None ∷ others) = first_reason others
