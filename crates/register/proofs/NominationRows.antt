-- Examples of nominations, checked by computation: candidates are added and withdrawn, and each refusal occurs.
use Rattle.std.proofs.Common.{ℕ, true, false, ◌≡◌, List, [], ◌∷◌, codes, refl, string_bytes}
use Rattle.std.specs.Fmt.{digits}
use Rattle.std.specs.declared.string.String.{String}
use Rattle.std.specs.declared.alloc.Global.{Global}
use Rattle.register.specs.declared.phase.Phase.{Phase}
use Rattle.register.specs.declared.phase.Phase.TheVariants.{Nominations, Keying, Sealed, Declared}
use Rattle.register.specs.declared.command.Command.TheVariants.{Ward, Candidate}
use Rattle.register.specs.declared.wards.WardCommand.TheVariants.{Close}
use Rattle.register.specs.declared.candidates.CandidateCommand.TheVariants.{Add, Withdraw}
use Rattle.register.specs.declared.refusal.Reason.TheVariants.{NumberOutOfRange, BadName, NoSuchWard, WrongPhase, CandidateExists, NoSuchCandidate, NoCandidates}
use Rattle.register.specs.Ranges.{is_id}
use Rattle.register.specs.Offices.{CandidateEntry, ReceiptEntry, OfficeState, empty_office}
use Rattle.register.specs.StateConditions.{all_nominated, all_counted}
use Rattle.count.specs.Law.Count.{stages_to}
use Rattle.register.specs.Wards as wards
use Rattle.register.specs.Candidates as candidates
use Rattle.register.specs.Machine.{accepted, kept, refused, step, decided}
use Rattle.register.proofs.WorkedRows.{name_eve, nameless}

-- an office with Quay ward, which has two seats and is in the given phase, and with the given candidates and receipts
abbrev with_quay : Phase → List CandidateEntry → List ReceiptEntry → OfficeState
with_quay phase candidates receipts = record empty_office { wards = record { number = 8; seats = 2; phase = phase; done = 0; name = codes "Quay" } ∷ []; candidates = candidates; receipts = receipts }

dee : CandidateEntry
dee = record { ward = 8; number = 1; name = codes "Dee" }

eve : CandidateEntry
eve = record { ward = 8; number = 2; name = codes "Eve" }

fay : CandidateEntry
fay = record { ward = 8; number = 3; name = codes "Fay" }

-- a receipt for an office request, with the given id, subject and reply
abbrev office_receipt : List ℕ → List ℕ → List ℕ → ReceiptEntry
office_receipt id subject reply = record { actor = 0; id = id; subject = subject; reply = reply }

-- the receipt for adding Eve, with id c2; and the receipt for her withdrawal, with id x1
eve_stands : ReceiptEntry
eve_stands = office_receipt (codes "c2") (codes "candidate 8 2") (codes "candidate 2 of ward 8 added")

eve_withdrew : ReceiptEntry
eve_withdrew = office_receipt (codes "x1") (codes "withdraw 8 2") (codes "candidate 2 of ward 8 withdrawn")

-- ---- each refusal, once

no_candidates : step (with_quay Nominations [] []) 0 (codes "k1") (Ward (Close 8)) ≡ refused NoCandidates
unfolding step decided is_id wards.subject_of wards.reply_to digits
no_candidates = refl

closed_already : step (with_quay Sealed (dee ∷ []) []) 0 (codes "k2") (Ward (Close 8)) ≡ refused WrongPhase
unfolding step decided is_id wards.subject_of wards.reply_to digits dee
closed_already = refl

no_ward_to_close : step (with_quay Nominations (dee ∷ []) []) 0 (codes "k1") (Ward (Close 7)) ≡ refused NoSuchWard
unfolding step decided is_id wards.subject_of wards.reply_to digits dee
no_ward_to_close = refl

ward_out_of_range : step (with_quay Nominations (dee ∷ []) []) 0 (codes "k1") (Ward (Close 100)) ≡ refused NumberOutOfRange
unfolding step decided is_id wards.subject_of wards.reply_to digits dee
ward_out_of_range = refl

clerk_closes : step (with_quay Nominations (dee ∷ []) []) 4 (codes "k1") (Ward (Close 8)) ≡ refused NumberOutOfRange
unfolding step decided is_id wards.subject_of wards.reply_to digits dee
clerk_closes = refl

no_candidate : step (with_quay Nominations (dee ∷ []) []) 0 (codes "x1") (Candidate (Withdraw 8 2)) ≡ refused NoSuchCandidate
unfolding step decided is_id candidates.subject_of candidates.reply_to digits dee
no_candidate = refl

no_such_number : step (with_quay Nominations (dee ∷ []) []) 0 (codes "x1") (Candidate (Withdraw 8 0)) ≡ refused NumberOutOfRange
unfolding step decided is_id candidates.subject_of candidates.reply_to digits dee
no_such_number = refl

no_ward_to_withdraw : step (with_quay Nominations (dee ∷ []) []) 0 (codes "x1") (Candidate (Withdraw 7 1)) ≡ refused NoSuchWard
unfolding step decided is_id candidates.subject_of candidates.reply_to digits dee
no_ward_to_withdraw = refl

too_late_to_withdraw : step (with_quay Sealed (dee ∷ []) []) 0 (codes "x1") (Candidate (Withdraw 8 1)) ≡ refused WrongPhase
unfolding step decided is_id candidates.subject_of candidates.reply_to digits dee
too_late_to_withdraw = refl

-- ---- which of the offices are states

contested_in_keying : all_nominated (with_quay Keying (dee ∷ eve ∷ fay ∷ []) []) ≡ true
unfolding dee eve fay
contested_in_keying = refl

uncontested_in_keying : all_nominated (with_quay Keying (dee ∷ eve ∷ []) []) ≡ false
unfolding dee eve
uncontested_in_keying = refl

sealed_with_none : all_nominated (with_quay Sealed [] []) ≡ false
sealed_with_none = refl

candidate_of_no_ward : all_nominated (with_quay Nominations (dee ∷ record { ward = 9; number = 1; name = codes "Gil" } ∷ []) []) ≡ false
unfolding dee
candidate_of_no_ward = refl

contested_and_sealed : all_counted (with_quay Sealed (dee ∷ eve ∷ fay ∷ []) []) ≡ true
unfolding all_counted stages_to dee eve fay
contested_and_sealed = refl

declared_uncounted : all_counted (with_quay Declared (dee ∷ eve ∷ fay ∷ []) []) ≡ false
unfolding all_counted stages_to dee eve fay
declared_uncounted = refl

declared_uncontested : all_counted (with_quay Declared (dee ∷ eve ∷ []) []) ≡ true
unfolding all_counted dee eve
declared_uncontested = refl

-- ---- names, valid and invalid

module _ (name : String Global) (is : string_bytes name ≡ codes "Eve") where
  past_thirty : step (with_quay Nominations (dee ∷ []) []) 0 (codes "c2") (Candidate (Add 8 31 name)) ≡ refused NumberOutOfRange
  unfolding step decided is_id candidates.subject_of candidates.reply_to digits dee
  past_thirty = refl

  no_ward_to_stand_in : step (with_quay Nominations (dee ∷ []) []) 0 (codes "c2") (Candidate (Add 7 2 name)) ≡ refused NoSuchWard
  unfolding step decided is_id candidates.subject_of candidates.reply_to digits dee
  no_ward_to_stand_in = simp (is, name_eve) refl

  too_late_to_stand : step (with_quay Keying (dee ∷ []) []) 0 (codes "c2") (Candidate (Add 8 2 name)) ≡ refused WrongPhase
  unfolding step decided is_id candidates.subject_of candidates.reply_to digits dee
  too_late_to_stand = simp (is, name_eve) refl

  stands_already : step (with_quay Nominations (dee ∷ []) []) 0 (codes "c2") (Candidate (Add 8 1 name)) ≡ refused CandidateExists
  unfolding step decided is_id candidates.subject_of candidates.reply_to digits dee
  stands_already = simp (is, name_eve) refl

  stands : step (with_quay Nominations (dee ∷ []) []) 0 (codes "c2") (Candidate (Add 8 2 name))
      ≡ accepted (with_quay Nominations (dee ∷ eve ∷ []) (eve_stands ∷ [])) (codes "candidate 2 of ward 8 added")
  unfolding step decided is_id candidates.subject_of candidates.reply_to digits dee eve eve_stands
  stands = simp (is, name_eve) refl

  -- Eve withdraws, and her number can be used again; but the old id always gets the old reply, and only a new id adds her
  -- again
  withdraws : step (with_quay Nominations (dee ∷ eve ∷ []) (eve_stands ∷ [])) 0 (codes "x1") (Candidate (Withdraw 8 2))
      ≡ accepted (with_quay Nominations (dee ∷ []) (eve_stands ∷ eve_withdrew ∷ [])) (codes "candidate 2 of ward 8 withdrawn")
  unfolding step decided is_id candidates.subject_of candidates.reply_to digits dee eve eve_stands eve_withdrew
  withdraws = refl

  kept_for_ever : step (with_quay Nominations (dee ∷ []) (eve_stands ∷ eve_withdrew ∷ [])) 0 (codes "c2") (Candidate (Add 8 2 name)) ≡ kept (codes "candidate 2 of ward 8 added")
  unfolding step decided is_id candidates.subject_of candidates.reply_to digits dee eve_stands eve_withdrew
  kept_for_ever = refl

  stands_again : step (with_quay Nominations (dee ∷ []) (eve_stands ∷ eve_withdrew ∷ [])) 0 (codes "c9") (Candidate (Add 8 2 name))
      ≡ accepted (with_quay Nominations (dee ∷ eve ∷ []) (eve_stands ∷ office_receipt (codes "c9") (codes "candidate 8 2") (codes "candidate 2 of ward 8 added") ∷ eve_withdrew ∷ []))
      (codes "candidate 2 of ward 8 added")
  unfolding step decided is_id candidates.subject_of candidates.reply_to digits dee eve eve_stands eve_withdrew
  stands_again = simp (is, name_eve) refl

  no_name : (empty : String Global) → string_bytes empty ≡ codes "" → step (with_quay Nominations [] []) 0 (codes "c2") (Candidate (Add 7 2 empty)) ≡ refused BadName
  unfolding step decided is_id candidates.subject_of candidates.reply_to digits
  no_name empty written = simp (written, nameless) refl
