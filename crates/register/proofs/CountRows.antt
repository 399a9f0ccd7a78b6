-- An example of a ward's count, checked by computation: the ward's papers are judged, it is sealed, stages are counted, a lot is
-- drawn, and the ward is declared.
use Rattle.std.proofs.Common.{ℕ, true, false, ◌≡◌, List, [], ◌∷◌, ◌++◌, codes, refl}
use Rattle.std.specs.Fmt.{digits}
use Rattle.paper.specs.Preferences.{preferences_from}
use Rattle.count.specs.Law.Count.{stages_to}
use Rattle.count.specs.declared.stages.Action.TheVariants.{First}
use Rattle.count.specs.declared.stages.Due.TheVariants.{Act}
use Rattle.register.specs.declared.phase.Phase.{Phase}
use Rattle.register.specs.declared.phase.Phase.TheVariants.{Keying, Sealed, Declared}
use Rattle.register.specs.declared.command.Command.{Command}
use Rattle.register.specs.declared.command.Command.TheVariants as commands
use Rattle.register.specs.declared.counts.CountCommand.{CountCommand}
use Rattle.register.specs.declared.counts.CountCommand.TheVariants.{Seal, Advance, Lot, Declare}
use Rattle.register.specs.declared.polls.Judgement.TheVariants.{Valid, Rejected, Open}
use Rattle.register.specs.declared.refusal.Reason.TheVariants.{NumberOutOfRange, NoSuchWard, WrongPhase, NoSuchCandidate, NotReady, CountFinished, LotNeeded, NoSuchLot, CountNotFinished}
use Rattle.register.specs.Ranges.{is_id}
use Rattle.register.specs.Texts.{listed}
use Rattle.register.specs.Offices.{WardEntry, KeyedEntry, JudgedEntry, LotEntry, ReceiptEntry, OfficeState}
use Rattle.register.specs.Agreement.{same_marks}
use Rattle.register.specs.Polls.{piles_of, judgements, poll_of}
use Rattle.register.specs.Elections.{election_of, due_of}
use Rattle.register.specs.StateConditions.{all_agreed, all_counted}
use Rattle.register.specs.Counts as counts
use Rattle.register.specs.Machine.{accepted, refused, step, decided}

abbrev ward : Phase → ℕ → ℕ → WardEntry
ward phase seats done = record { number = 7; seats = seats; phase = phase; done = done; name = codes "Harbour" }

-- ---- three candidates for two seats, and a batch of two papers, keyed identically by both clerks; the second paper is doubtful

-- the papers as keyed by the given clerk
abbrev keyed : ℕ → List KeyedEntry
keyed clerk =
    record { batch = 12; round = 1; clerk = clerk; paper = 1; marks = codes "1,2," } ∷ record { batch = 12; round = 1; clerk = clerk; paper = 2; marks = codes "D" } ∷ []

-- the ward in the given phase, with the given verdicts on the doubtful paper
abbrev polled : Phase → List JudgedEntry → OfficeState
polled phase judged =
    record {
      wards = ward phase 2 0 ∷ [];
      candidates = record { ward = 7; number = 1; name = codes "Dee" } ∷ record { ward = 7; number = 2; name = codes "Eve" } ∷ record { ward = 7; number = 3; name = codes "Fay" } ∷ [];
      batches = record { number = 12; ward = 7; size = 2; first_clerk = 4; second_clerk = 9; round = 1 } ∷ [];
      thirds = [];
      keyings = keyed 4 ++ keyed 9;
      verdicts = judged;
      lots = [];
      receipts = [];
    }

-- the doubtful paper is rejected as void for uncertainty, or accepted with marks
abbrev void : List JudgedEntry
void = record { batch = 12; paper = 2; code = 5; marks = [] } ∷ []

abbrev taken_as : List ℕ → List JudgedEntry
taken_as marks = record { batch = 12; paper = 2; code = 0; marks = marks } ∷ []

judged_open : judgements (1 ∷ 2 ∷ 3 ∷ []) (piles_of (polled Keying []) 7) ≡ Valid (1 ∷ 2 ∷ []) ∷ Open ∷ []
unfolding same_marks preferences_from
judged_open = refl

judged_void : judgements (1 ∷ 2 ∷ 3 ∷ []) (piles_of (polled Keying void) 7) ≡ Valid (1 ∷ 2 ∷ []) ∷ Rejected 5 ∷ []
unfolding same_marks preferences_from
judged_void = refl

judged_valid : judgements (1 ∷ 2 ∷ 3 ∷ []) (piles_of (polled Keying (taken_as (codes "2,,1"))) 7) ≡ Valid (1 ∷ 2 ∷ []) ∷ Valid (3 ∷ 1 ∷ []) ∷ []
unfolding same_marks preferences_from
judged_valid = refl

poll_open : poll_of 2 (election_of (polled Keying []) (ward Keying 2 0)).ballots ≡ record { valid = 1; rejected = 0 ∷ 0 ∷ 0 ∷ 0 ∷ 0 ∷ []; quota = 100000; settled = false }
unfolding same_marks preferences_from
poll_open = refl

poll_void : poll_of 2 (election_of (polled Keying void) (ward Keying 2 0)).ballots ≡ record { valid = 1; rejected = 0 ∷ 0 ∷ 0 ∷ 0 ∷ 1 ∷ []; quota = 100000; settled = true }
unfolding same_marks preferences_from
poll_void = refl

first_due : due_of (election_of (polled Sealed void) (ward Sealed 2 0)) ≡ Act First
unfolding same_marks preferences_from stages_to
first_due = refl

not_ready : step (polled Keying []) 0 (codes "s1") (commands.Count (Seal 7)) ≡ refused NotReady
unfolding step decided is_id same_marks preferences_from counts.subject_of digits
not_ready = refl

-- if a doubtful paper has no verdict, a sealed ward isn't part of any state
sealed_open : all_agreed (polled Sealed []) ≡ false
unfolding all_agreed same_marks preferences_from
sealed_open = refl

sealed_void : all_agreed (polled Sealed void) ≡ true
unfolding all_agreed same_marks preferences_from
sealed_void = refl

-- ---- two candidates for one seat, without papers

-- the ward with the given number of completed stages
abbrev quiet : Phase → ℕ → List LotEntry → List ReceiptEntry → OfficeState
quiet phase done lots receipts =
    record {
      wards = ward phase 1 done ∷ [];
      candidates = record { ward = 7; number = 1; name = codes "Dee" } ∷ record { ward = 7; number = 2; name = codes "Eve" } ∷ [];
      batches = [];
      thirds = [];
      keyings = [];
      verdicts = [];
      lots = lots;
      receipts = receipts;
    }

abbrev receipt : List ℕ → List ℕ → List ReceiptEntry
receipt subject reply = record { actor = 0; id = codes "c1"; subject = subject; reply = reply } ∷ []

abbrev lot : ℕ → List LotEntry
lot candidate = record { ward = 7; stage = 2; candidate = candidate } ∷ []

-- an office command
abbrev asked : CountCommand → Command
asked command = commands.Count command

sealed : step (quiet Keying 0 [] []) 0 (codes "c1") (asked (Seal 7))
    ≡ accepted (quiet Sealed 0 [] (receipt (codes "seal 7") (codes "ward 7 sealed: 0 valid, 0 rejected, quota 1.00000"))) (codes "ward 7 sealed: 0 valid, 0 rejected, quota 1.00000")
unfolding step decided is_id counts.subject_of counts.reply_to digits
sealed = refl

sealed_before : step (quiet Sealed 0 [] []) 0 (codes "c1") (asked (Seal 7)) ≡ refused WrongPhase
unfolding step decided is_id counts.subject_of digits
sealed_before = refl

too_early : step (quiet Keying 0 [] []) 0 (codes "c1") (asked (Advance 7)) ≡ refused WrongPhase
unfolding step decided is_id counts.subject_of stages_to digits
too_early = refl

in_no_ward : step (quiet Sealed 0 [] []) 0 (codes "c1") (asked (Advance 8)) ≡ refused NoSuchWard
unfolding step decided is_id counts.subject_of digits
in_no_ward = refl

by_a_clerk : step (quiet Sealed 0 [] []) 4 (codes "c1") (asked (Advance 7)) ≡ refused NumberOutOfRange
unfolding step decided is_id counts.subject_of stages_to digits
by_a_clerk = refl

first_stage : step (quiet Sealed 0 [] []) 0 (codes "c1") (asked (Advance 7))
    ≡ accepted (quiet Sealed 1 [] (receipt (codes "advance 7") (codes "ward 7 stage 1 first preferences"))) (codes "ward 7 stage 1 first preferences")
unfolding step decided is_id counts.subject_of counts.reply_to stages_to digits
first_stage = refl

lot_needed : step (quiet Sealed 1 [] []) 0 (codes "c1") (asked (Advance 7)) ≡ refused (LotNeeded 2 (1 ∷ 2 ∷ []))
unfolding step decided is_id counts.subject_of stages_to digits
lot_needed = refl

for_another_stage : step (quiet Sealed 1 [] []) 0 (codes "c1") (asked (Lot 7 3 1)) ≡ refused NoSuchLot
unfolding step decided is_id counts.subject_of stages_to digits
for_another_stage = refl

for_no_candidate : step (quiet Sealed 1 [] []) 0 (codes "c1") (asked (Lot 7 2 3)) ≡ refused NoSuchCandidate
unfolding step decided is_id counts.subject_of stages_to digits
for_no_candidate = refl

drawn : step (quiet Sealed 1 [] []) 0 (codes "c1") (asked (Lot 7 2 1))
    ≡ accepted (quiet Sealed 1 (lot 1) (receipt (codes "lot 7 2") (codes "lot at ward 7 stage 2: candidate 1"))) (codes "lot at ward 7 stage 2: candidate 1")
unfolding step decided is_id counts.subject_of counts.reply_to stages_to digits
drawn = refl

drawn_before : step (quiet Sealed 1 (lot 1) []) 0 (codes "c1") (asked (Lot 7 2 2)) ≡ refused NoSuchLot
unfolding step decided is_id counts.subject_of stages_to digits
drawn_before = refl

last_vacancy : step (quiet Sealed 1 (lot 1) []) 0 (codes "c1") (asked (Advance 7))
    ≡ accepted (quiet Sealed 2 (lot 1) (receipt (codes "advance 7") (codes "ward 7 stage 2 exclusion of 1, last vacancies"))) (codes "ward 7 stage 2 exclusion of 1, last vacancies")
unfolding step decided is_id counts.subject_of counts.reply_to stages_to digits
last_vacancy = refl

declared_too_early : step (quiet Sealed 1 (lot 1) []) 0 (codes "c1") (asked (Declare 7)) ≡ refused CountNotFinished
unfolding step decided is_id counts.subject_of stages_to digits
declared_too_early = refl

no_further_stage : step (quiet Sealed 2 (lot 1) []) 0 (codes "c1") (asked (Advance 7)) ≡ refused CountFinished
unfolding step decided is_id counts.subject_of stages_to digits
no_further_stage = refl

declared : step (quiet Sealed 2 (lot 1) []) 0 (codes "c1") (asked (Declare 7))
    ≡ accepted (quiet Declared 2 (lot 1) (receipt (codes "declare 7") (codes "ward 7 declared: 2"))) (codes "ward 7 declared: 2")
unfolding step decided is_id counts.subject_of counts.reply_to stages_to listed digits
declared = refl

-- ---- which of the offices are states

counted : all_counted (quiet Sealed 2 (lot 1) []) ≡ true
unfolding all_counted stages_to
counted = refl

-- a stage that needed a lot, although no lot was drawn
counted_without_lot : all_counted (quiet Sealed 2 [] []) ≡ false
unfolding all_counted stages_to
counted_without_lot = refl

-- a stage beyond the last one
counted_beyond : all_counted (quiet Sealed 3 (lot 1) []) ≡ false
unfolding all_counted stages_to
counted_beyond = refl

-- a ward declared before its count was finished
declared_unfinished : all_counted (quiet Declared 1 [] []) ≡ false
unfolding all_counted stages_to
declared_unfinished = refl

-- a ward counted before it was sealed
counted_in_keying : all_counted (quiet Keying 1 [] []) ≡ false
unfolding all_counted stages_to
counted_in_keying = refl
