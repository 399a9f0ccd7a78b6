-- Examples of batches, checked by computation: the refusals of batch commands, keyings and verdicts; the status of the
-- ward; and which of the offices are states.
use Rattle.std.proofs.Common.{ℕ, true, false, ◌≡◌, List, [], ◌∷◌, map, codes, refl, string_bytes, Some, ◌++◌}
use Rattle.std.specs.Fmt.{digits}
use Rattle.std.specs.declared.string.String.{String}
use Rattle.std.specs.declared.vec.Vec.{Vec}
use Rattle.std.specs.declared.alloc.Global.{Global}
use Rattle.register.specs.declared.phase.Phase.{Phase}
use Rattle.register.specs.declared.phase.Phase.TheVariants.{Nominations, Keying, Sealed}
use Rattle.register.specs.declared.command.Command.{Command}
use Rattle.register.specs.declared.command.Command.TheVariants as commands
use Rattle.register.specs.declared.batches.BatchCommand.TheVariants.{Add, Again}
use Rattle.register.specs.declared.verdicts.Verdict.{Verdict}
use Rattle.register.specs.declared.verdicts.Verdict.TheVariants.{Accept, Reject}
use Rattle.register.specs.declared.refusal.Reason.TheVariants.{NumberOutOfRange, NoSuchWard, NoSuchBatch, BatchExists, WrongPhase, SameClerk, NotItsClerk, NotThisRound, WrongPaperCount}
use Rattle.register.specs.declared.refusal.Reason.TheVariants.{BadMarks, NoDifference, NotTaken, AlreadyJudged, BadVerdict}
use Rattle.register.specs.Ranges.{is_id}
use Rattle.register.specs.Offices.{BatchEntry, KeyedEntry, JudgedEntry, ReceiptEntry, OfficeState}
use Rattle.register.specs.Agreement.{same_marks}
use Rattle.register.specs.BatchConditions.{are_numbered, are_rounds_to}
use Rattle.register.specs.StateConditions.{all_given_out, all_keyed, all_judged}
use Rattle.register.specs.Marks.{first_bad_marks}
use Rattle.register.specs.Batches as batches
use Rattle.register.specs.Keyings as keyings
use Rattle.register.specs.Verdicts as verdicts
use Rattle.register.specs.Machine.{accepted, refused, step, decided}
use Rattle.register.specs.Status.{status_at}

-- the batch with two papers from Harbour ward, keyed by clerks 4 and 9, in the given round; and another batch
abbrev batch_in : ℕ → BatchEntry
batch_in round = record { number = 12; ward = 7; size = 2; first_clerk = 4; second_clerk = 9; round = round }

abbrev other_batch : BatchEntry
other_batch = record { number = 13; ward = 7; size = 1; first_clerk = 9; second_clerk = 4; round = 1 }

-- an office with both batches, their ward in the given phase, and the given keyed papers, verdicts and receipts
abbrev with_batch : Phase → ℕ → List KeyedEntry → List JudgedEntry → List ReceiptEntry → OfficeState
with_batch phase round papers judged receipts =
    record {
      wards = record { number = 7; seats = 2; phase = phase; done = 0; name = codes "Harbour" } ∷ [];
      candidates = record { ward = 7; number = 1; name = codes "Dee" } ∷ record { ward = 7; number = 2; name = codes "Eve" } ∷ record { ward = 7; number = 3; name = codes "Fay" } ∷ [];
      batches = batch_in round ∷ other_batch ∷ [];
      thirds = [];
      keyings = papers;
      verdicts = judged;
      lots = [];
      receipts = receipts;
    }

-- the two papers of the batch as keyed by the given clerk in the first round; the second paper is keyed as doubtful
abbrev keyed : ℕ → List ℕ → List KeyedEntry
keyed clerk marks = record { batch = 12; round = 1; clerk = clerk; paper = 1; marks = marks } ∷ record { batch = 12; round = 1; clerk = clerk; paper = 2; marks = codes "D" } ∷ []

-- the receipt for the given clerk's request, with id k1
abbrev key_receipt : ℕ → ReceiptEntry
key_receipt clerk = record { actor = clerk; id = codes "k1"; subject = codes "key 12 1"; reply = codes "batch 12 round 1 keyed" }

-- ---- batches given out

given_out : step (with_batch Keying 1 [] [] []) 0 (codes "b1") (commands.Batch (Add 14 7 500 9 4))
    ≡ accepted
    (record (with_batch Keying 1 [] [] (record { actor = 0; id = codes "b1"; subject = codes "batch 14"; reply = codes "batch 14 added" } ∷ [])) {
      batches = batch_in 1 ∷ other_batch ∷ record { number = 14; ward = 7; size = 500; first_clerk = 9; second_clerk = 4; round = 1 } ∷ [];
    })
    (codes "batch 14 added")
unfolding step decided is_id batches.subject_of batches.reply_to digits
given_out = refl

too_large : step (with_batch Keying 1 [] [] []) 0 (codes "b1") (commands.Batch (Add 14 7 501 9 4)) ≡ refused NumberOutOfRange
unfolding step decided is_id batches.subject_of digits
too_large = refl

in_no_ward : step (with_batch Keying 1 [] [] []) 0 (codes "b1") (commands.Batch (Add 14 8 2 9 4)) ≡ refused NoSuchWard
unfolding step decided is_id batches.subject_of digits
in_no_ward = refl

there_already : step (with_batch Sealed 1 [] [] []) 0 (codes "b1") (commands.Batch (Add 12 7 2 4 9)) ≡ refused BatchExists
unfolding step decided is_id batches.subject_of digits
there_already = refl

too_late : step (with_batch Sealed 1 [] [] []) 0 (codes "b1") (commands.Batch (Add 14 7 2 4 4)) ≡ refused WrongPhase
unfolding step decided is_id batches.subject_of digits
too_late = refl

one_clerk : step (with_batch Keying 1 [] [] []) 0 (codes "b1") (commands.Batch (Add 14 7 2 4 4)) ≡ refused SameClerk
unfolding step decided is_id batches.subject_of digits
one_clerk = refl

-- ---- keyings

-- after the first clerk's keying, and after the second clerk's keying, which may or may not be equal to the first
abbrev once : OfficeState
once = with_batch Keying 1 (keyed 4 (codes "1,2,")) [] (key_receipt 4 ∷ [])

abbrev twice : List ℕ → List JudgedEntry → OfficeState
twice marks judged = with_batch Keying 1 (keyed 4 (codes "1,2,") ++ keyed 9 marks) judged (key_receipt 4 ∷ key_receipt 9 ∷ [])

module _ (papers : Vec (String Global) Global) where
  -- a command with which a clerk keys a batch in a round
  abbrev keys : ℕ → ℕ → Command
  keys batch round = commands.Keying (record { batch = batch; round = round; papers = papers })

  no_batch : step once 4 (codes "k2") (keys 14 1) ≡ refused NoSuchBatch
  unfolding step decided is_id keyings.subject_of digits
  no_batch = refl

  not_its_clerk : step once 5 (codes "k2") (keys 12 2) ≡ refused NotItsClerk
  unfolding step decided is_id keyings.subject_of digits
  not_its_clerk = refl

  not_this_round : step once 4 (codes "k2") (keys 12 2) ≡ refused NotThisRound
  unfolding step decided is_id keyings.subject_of digits
  not_this_round = refl

  one_paper : map string_bytes papers.items ≡ codes "x" ∷ [] → step once 9 (codes "k1") (keys 12 1) ≡ refused WrongPaperCount
  unfolding step decided is_id keyings.subject_of digits
  one_paper are = simp are refl

  bad_marks : map string_bytes papers.items ≡ codes "1,2," ∷ codes "x,," ∷ [] → step once 9 (codes "k1") (keys 12 1) ≡ refused (BadMarks 2 2)
  unfolding step decided is_id keyings.subject_of first_bad_marks digits
  bad_marks are = simp are refl

-- ---- the status of the ward

taken : status_at (twice (codes "1,2,") []) 7 ≡ Some (record { ward = 7; phase = Keying; candidates = 3; batches = 2; taken = 1; differing = 0; doubtful_open = 1; stages = 0 })
unfolding same_marks
taken = refl

differing : status_at (twice (codes "2,1,") []) 7 ≡ Some (record { ward = 7; phase = Keying; candidates = 3; batches = 2; taken = 0; differing = 1; doubtful_open = 0; stages = 0 })
unfolding same_marks
differing = refl

-- ---- another round

agreed : step (twice (codes "1,2,") []) 0 (codes "a1") (commands.Batch (Again 12)) ≡ refused NoDifference
unfolding step decided is_id batches.subject_of same_marks digits
agreed = refl

half_keyed : step once 0 (codes "a1") (commands.Batch (Again 12)) ≡ refused NoDifference
unfolding step decided is_id batches.subject_of same_marks digits
half_keyed = refl

no_further_round : step (with_batch Keying 99 [] [] []) 0 (codes "a1") (commands.Batch (Again 12)) ≡ refused NumberOutOfRange
unfolding step decided is_id batches.subject_of digits
no_further_round = refl

-- ---- doubtful papers

-- a verdict on one of the batch's papers
abbrev judge : ℕ → Verdict → Command
judge paper verdict = commands.Verdict (record { batch = 12; paper = paper; verdict = verdict })

abbrev judged_receipt : List ℕ → ReceiptEntry
judged_receipt reply = record { actor = 0; id = codes "j1"; subject = codes "judge 12 2"; reply = reply }

module _ (marks : String Global) where
  unreadable : string_bytes marks ≡ codes "1,2" → step once 0 (codes "j1") (judge 2 (Accept marks)) ≡ refused (BadMarks 2 1)
  unfolding step decided is_id verdicts.subject_of same_marks digits
  unreadable is = simp is refl

  no_first_preference : string_bytes marks ≡ codes ",2," → step (twice (codes "1,2,") []) 0 (codes "j1") (judge 2 (Accept marks)) ≡ refused BadVerdict
  unfolding step decided is_id verdicts.subject_of same_marks digits
  no_first_preference is = simp is refl

  doubtful_still : string_bytes marks ≡ codes "D" → step (twice (codes "1,2,") []) 0 (codes "j1") (judge 2 (Accept marks)) ≡ refused BadVerdict
  unfolding step decided is_id verdicts.subject_of same_marks digits
  doubtful_still is = simp is refl

rejected : step (twice (codes "1,2,") []) 0 (codes "j1") (judge 2 (Reject 5))
    ≡ accepted (record (twice (codes "1,2,") (record { batch = 12; paper = 2; code = 5; marks = [] } ∷ [])) {
      receipts = judged_receipt (codes "batch 12 paper 2 rejected 5") ∷ key_receipt 4
          ∷ key_receipt 9 ∷ [];
    }) (codes "batch 12 paper 2 rejected 5")
unfolding step decided is_id verdicts.subject_of verdicts.reply_to same_marks digits
rejected = refl

not_taken : step (twice (codes "2,1,") []) 0 (codes "j1") (judge 2 (Reject 3)) ≡ refused NotTaken
unfolding step decided is_id verdicts.subject_of same_marks digits
not_taken = refl

no_such_code : step (twice (codes "1,2,") []) 0 (codes "j1") (judge 2 (Reject 2)) ≡ refused BadVerdict
unfolding step decided is_id verdicts.subject_of same_marks digits
no_such_code = refl

judged_already : step (twice (codes "1,2,") (record { batch = 12; paper = 2; code = 5; marks = [] } ∷ [])) 0 (codes "j2") (judge 2 (Reject 3)) ≡ refused AlreadyJudged
unfolding step decided is_id verdicts.subject_of same_marks digits
judged_already = refl

-- ---- which of the offices are states

in_nominations : all_given_out (with_batch Nominations 1 [] [] []) ≡ false
in_nominations = refl

half_a_keying : all_keyed (with_batch Keying 1 (record { batch = 12; round = 1; clerk = 4; paper = 1; marks = codes "1,2," } ∷ []) [] []) ≡ false
unfolding are_rounds_to are_numbered same_marks
half_a_keying = refl

agreed_before : all_keyed (with_batch Keying 2 (keyed 4 (codes "1,2,") ++ keyed 9 (codes "1,2,")) [] []) ≡ false
unfolding are_rounds_to are_numbered same_marks
agreed_before = refl

differed_before : all_keyed (with_batch Keying 2 (keyed 4 (codes "1,2,") ++ keyed 9 (codes "2,1,")) [] []) ≡ true
unfolding are_rounds_to are_numbered same_marks
differed_before = refl

judged_too_early : all_judged (record once { verdicts = record { batch = 12; paper = 2; code = 5; marks = [] } ∷ [] }) ≡ false
unfolding same_marks
judged_too_early = refl
