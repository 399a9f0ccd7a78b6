-- An example office, worked out by hand, request by request, starting with the empty office: the reply to each request, and the state to which it leads.
-- A row that follows another starts in the state to which the other row leads.
use Rattle.std.specs.Prelude.{◌≡◌, ℕ, true, false, List, [], ◌∷◌, ◌++◌, map, codes, string_bytes}
use Rattle.std.specs.declared.string.String.{String}
use Rattle.std.specs.declared.vec.Vec.{Vec}
use Rattle.std.specs.declared.alloc.Global.{Global}
use Rattle.register.specs.declared.phase.Phase.{Phase}
use Rattle.register.specs.declared.phase.Phase.TheVariants.{Nominations, Keying, Sealed, Declared}
use Rattle.register.specs.declared.command.Command.{Command}
use Rattle.register.specs.declared.command.Command.TheVariants as commands
use Rattle.register.specs.declared.wards.WardCommand.TheVariants as wards
use Rattle.register.specs.declared.candidates.CandidateCommand.TheVariants as candidates
use Rattle.register.specs.declared.batches.BatchCommand.TheVariants as batches
use Rattle.register.specs.declared.counts.CountCommand.TheVariants as counts
use Rattle.register.specs.declared.verdicts.Verdict.{Verdict}
use Rattle.register.specs.declared.verdicts.Verdict.TheVariants.{Accept, Reject}
use Rattle.register.specs.declared.refusal.Reason.TheVariants.{BadId, IdUsed, NumberOutOfRange, WardExists, AlreadyKeyed, NotDoubtful, NotReady, CountFinished, NotItsClerk, SameClerk}
use Rattle.register.specs.declared.refusal.Reason.TheVariants.{NoDifference, ThirdSet}
use Rattle.register.specs.Offices.{WardEntry, CandidateEntry, BatchEntry, KeyedEntry, JudgedEntry, ReceiptEntry, OfficeState, empty_office}
use Rattle.register.specs.Agreement.{is_taken, is_differing, taken_papers}
use Rattle.register.specs.Machine.{accepted, kept, refused, step}
use Rattle.register.specs.Repeats.{is_otherwise}

-- ---- requests

-- a statement about every text that consists of the given bytes
abbrev pub Written : List ℕ → (String Global → Type 0) → Type 0
Written letters P = (text : String Global) → string_bytes text ≡ letters → P text

-- a statement about every list of papers that have the given marks
abbrev pub Marked : List (List ℕ) → (Vec (String Global) Global → Type 0) → Type 0
Marked marks P = (papers : Vec (String Global) Global) → map string_bytes papers.items ≡ marks → P papers

-- adds a ward
abbrev pub adds_ward : ℕ → ℕ → String Global → Command
adds_ward ward seats name = commands.Ward (wards.Add ward seats name)

-- closes a ward's nominations
abbrev pub closes : ℕ → Command
closes ward = commands.Ward (wards.Close ward)

-- adds a candidate to a ward
abbrev pub adds_candidate : ℕ → ℕ → String Global → Command
adds_candidate ward number name = commands.Candidate (candidates.Add ward number name)

-- assigns a batch of a ward to two clerks
abbrev pub adds_batch : ℕ → ℕ → ℕ → ℕ → ℕ → Command
adds_batch batch ward size first_clerk second_clerk = commands.Batch (batches.Add batch ward size first_clerk second_clerk)

-- reopens a batch for its next round
abbrev pub opens_again : ℕ → Command
opens_again batch = commands.Batch (batches.Again batch)

-- assigns a batch to a third clerk
abbrev pub sets_third : ℕ → ℕ → Command
sets_third batch clerk = commands.Batch (batches.Third batch clerk)

-- keys a batch in a round
abbrev pub keys : ℕ → ℕ → Vec (String Global) Global → Command
keys batch round papers = commands.Keying (record { batch = batch; round = round; papers = papers })

-- judges a paper
abbrev pub judges : ℕ → ℕ → Verdict → Command
judges batch paper verdict = commands.Verdict (record { batch = batch; paper = paper; verdict = verdict })

-- ---- entries

-- the wards Harbour and Quay, with two seats each
abbrev pub harbour : Phase → WardEntry
harbour phase = record { number = 7; seats = 2; phase = phase; done = 0; name = codes "Harbour" }

abbrev pub quay : Phase → WardEntry
quay phase = record { number = 8; seats = 2; phase = phase; done = 0; name = codes "Quay" }

-- the candidates of a ward
abbrev pub dee : ℕ → CandidateEntry
dee ward = record { ward = ward; number = 1; name = codes "Dee" }

abbrev pub eve : ℕ → CandidateEntry
eve ward = record { ward = ward; number = 2; name = codes "Eve" }

abbrev pub fay : ℕ → CandidateEntry
fay ward = record { ward = ward; number = 3; name = codes "Fay" }

-- the batch with two papers from Harbour, keyed by clerks 4 and 9, in the given round; and a batch with one paper
abbrev pub batch_in : ℕ → BatchEntry
batch_in round = record { number = 12; ward = 7; size = 2; first_clerk = 4; second_clerk = 9; round = round }

abbrev pub other_batch : BatchEntry
other_batch = record { number = 13; ward = 7; size = 1; first_clerk = 9; second_clerk = 4; round = 1 }

-- the two papers of the batch as keyed by the given clerk in the first round; the second paper is keyed as doubtful
abbrev pub keyed : ℕ → List ℕ → List KeyedEntry
keyed clerk marks = record { batch = 12; round = 1; clerk = clerk; paper = 1; marks = marks } ∷ record { batch = 12; round = 1; clerk = clerk; paper = 2; marks = codes "D" } ∷ []

-- a receipt for an office request with the given id, subject and reply; and the receipt for a clerk's keying
abbrev pub told : List ℕ → List ℕ → List ℕ → ReceiptEntry
told id subject reply = record { actor = 0; id = id; subject = subject; reply = reply }

abbrev pub told_keyed : ℕ → ReceiptEntry
told_keyed clerk = record { actor = clerk; id = codes "k1"; subject = codes "key 12 1"; reply = codes "batch 12 round 1 keyed" }

-- ---- states

-- Harbour in nominations, with the given candidates, and with the given receipts after the ward's own receipt
abbrev pub in_nominations : List CandidateEntry → List ReceiptEntry → OfficeState
in_nominations stand behind = record empty_office { wards = harbour Nominations ∷ []; candidates = stand; receipts = told (codes "w1") (codes "ward 7") (codes "ward 7 added") ∷ behind }

-- the receipts for the candidates in Harbour
abbrev pub told_of_dee : ReceiptEntry
told_of_dee = told (codes "x1") (codes "candidate 7 1") (codes "candidate 1 of ward 7 added")

abbrev pub told_of_eve : ReceiptEntry
told_of_eve = told (codes "x2") (codes "candidate 7 2") (codes "candidate 2 of ward 7 added")

abbrev pub told_of_fay : ReceiptEntry
told_of_fay = told (codes "x3") (codes "candidate 7 3") (codes "candidate 3 of ward 7 added")

-- the receipt for Dee's withdrawal
abbrev pub told_withdrawn : ReceiptEntry
told_withdrawn = told (codes "x4") (codes "withdraw 7 1") (codes "candidate 1 of ward 7 withdrawn")

-- Harbour, after all three candidates have been added
abbrev pub three_stand : OfficeState
three_stand = in_nominations (dee 7 ∷ eve 7 ∷ fay 7 ∷ []) (told_of_dee ∷ told_of_eve ∷ told_of_fay ∷ [])

-- Harbour in keying, with its three candidates, the given batches, keyed papers and verdicts, and the given receipts after those from the nominations
abbrev pub in_keying : List BatchEntry → List KeyedEntry → List JudgedEntry → List ReceiptEntry → OfficeState
in_keying given papers verdicts behind =
    record {
      wards = harbour Keying ∷ [];
      candidates = dee 7 ∷ eve 7 ∷ fay 7 ∷ [];
      batches = given;
      thirds = [];
      keyings = papers;
      verdicts = verdicts;
      lots = [];
      receipts = told (codes "w1") (codes "ward 7") (codes "ward 7 added") ∷ told_of_dee ∷ told_of_eve ∷ told_of_fay ∷ told (codes "y1") (codes "close 7") (codes "ward 7 polled") ∷ behind;
    }

abbrev pub told_of_batch : ReceiptEntry
told_of_batch = told (codes "z1") (codes "batch 12") (codes "batch 12 added")

abbrev pub told_of_other : ReceiptEntry
told_of_other = told (codes "z2") (codes "batch 13") (codes "batch 13 added")

-- both batches are assigned; then clerk 4 keys the first batch; then clerk 9 keys it too, with the given marks on its first paper
abbrev pub given_out : OfficeState
given_out = in_keying (batch_in 1 ∷ other_batch ∷ []) [] [] (told_of_batch ∷ told_of_other ∷ [])

abbrev pub keyed_once : OfficeState
keyed_once = in_keying (batch_in 1 ∷ other_batch ∷ []) (keyed 4 (codes "1,2,")) [] (told_of_batch ∷ told_of_other ∷ told_keyed 4 ∷ [])

abbrev pub keyed_twice : List ℕ → OfficeState
keyed_twice marks = in_keying (batch_in 1 ∷ other_batch ∷ []) (keyed 4 (codes "1,2,") ++ keyed 9 marks) [] (told_of_batch ∷ told_of_other ∷ told_keyed 4 ∷ told_keyed 9 ∷ [])

-- the keyings of the batch agree, and its doubtful paper is accepted with candidate 1 as first preference and candidate 3 as second
abbrev pub judged : OfficeState
judged =
    in_keying (batch_in 1 ∷ other_batch ∷ []) (keyed 4 (codes "1,2,") ++ keyed 9 (codes "1,2,")) (record { batch = 12; paper = 2; code = 0; marks = codes "1,,2" } ∷ [])
    (told_of_batch ∷ told_of_other ∷ told (codes "z3") (codes "judge 12 2") (codes "batch 12 paper 2 accepted") ∷ told_keyed 4 ∷ told_keyed 9 ∷ [])

-- the keyings of the batch differ, and it is in its second round
abbrev pub reopened : OfficeState
reopened =
    in_keying (batch_in 2 ∷ other_batch ∷ []) (keyed 4 (codes "1,2,") ++ keyed 9 (codes "2,1,")) []
    (told_of_batch ∷ told_of_other ∷ told (codes "z3") (codes "again 12") (codes "batch 12 round 2 open") ∷ told_keyed 4 ∷ told_keyed 9 ∷ [])

-- the keyings of the batch differ, and it is assigned to clerk 5 as well; then clerk 5 keys it, with the given marks on its first paper
abbrev pub given_to_third : List KeyedEntry → List ReceiptEntry → OfficeState
given_to_third papers behind =
    record (in_keying (batch_in 1 ∷ other_batch ∷ []) papers [] (told_of_batch ∷ told_of_other ∷ told (codes "z3") (codes "third 12") (codes "batch 12 third clerk 5") ∷ behind)) {
      thirds = record { batch = 12; clerk = 5 } ∷ [];
    }

abbrev pub third_set : OfficeState
third_set = given_to_third (keyed 4 (codes "1,2,") ++ keyed 9 (codes "2,1,")) (told_keyed 4 ∷ told_keyed 9 ∷ [])

abbrev pub third_keyed : List ℕ → OfficeState
third_keyed marks = given_to_third (keyed 4 (codes "1,2,") ++ (keyed 5 marks ++ keyed 9 (codes "2,1,"))) (told_keyed 4 ∷ told_keyed 5 ∷ told_keyed 9 ∷ [])

-- an office in which Quay is the only ward, in the given phase, with the given candidates and receipts
abbrev pub with_quay : Phase → List CandidateEntry → List ReceiptEntry → OfficeState
with_quay phase stand behind = record empty_office { wards = quay phase ∷ []; candidates = stand; receipts = told (codes "w1") (codes "ward 8") (codes "ward 8 added") ∷ behind }

-- Quay's two candidates, their receipts, and the receipt for closing Quay's nominations
abbrev pub both_there : List CandidateEntry
both_there = dee 8 ∷ eve 8 ∷ []

abbrev pub told_of_dee_there : ReceiptEntry
told_of_dee_there = told (codes "x1") (codes "candidate 8 1") (codes "candidate 1 of ward 8 added")

abbrev pub told_of_both : List ReceiptEntry
told_of_both = told_of_dee_there ∷ told (codes "x2") (codes "candidate 8 2") (codes "candidate 2 of ward 8 added") ∷ []

abbrev pub told_closed : ReceiptEntry
told_closed = told (codes "y1") (codes "close 8") (codes "ward 8 uncontested")

-- ---- the rows

-- The first ward is added once, even if the request is repeated. An id belongs to a single subject and has no capital letters.
pub record WardRows : Type 0 where
  pub added : Written (codes "Harbour") (λ name. step empty_office 0 (codes "w1") (adds_ward 7 2 name) ≡ accepted (in_nominations [] []) (codes "ward 7 added"))
  pub again : Written (codes "Harbour") (λ name. step (in_nominations [] []) 0 (codes "w1") (adds_ward 7 2 name) ≡ kept (codes "ward 7 added"))
  pub id_used : Written (codes "Quay") (λ name. step (in_nominations [] []) 0 (codes "w1") (adds_ward 8 2 name) ≡ refused IdUsed)
  pub id_of_capitals : Written (codes "Quay") (λ name. step (in_nominations [] []) 0 (codes "Z1") (adds_ward 8 2 name) ≡ refused BadId)
  pub no_ward_zero : Written (codes "Quay") (λ name. step (in_nominations [] []) 0 (codes "w2") (adds_ward 0 2 name) ≡ refused NumberOutOfRange)
  pub there_already : Written (codes "Pier") (λ name. step (in_nominations [] []) 0 (codes "w2") (adds_ward 7 3 name) ≡ refused WardExists)

-- Three candidates contest the ward's two seats, so it is polled, and its batches are assigned.
pub record NominationRows : Type 0 where
  pub dee_stands : Written (codes "Dee") (λ name. step (in_nominations [] []) 0 (codes "x1") (adds_candidate 7 1 name)
      ≡ accepted (in_nominations (dee 7 ∷ []) (told_of_dee ∷ [])) (codes "candidate 1 of ward 7 added"))
  pub eve_stands : Written (codes "Eve") (λ name. step (in_nominations (dee 7 ∷ []) (told_of_dee ∷ [])) 0 (codes "x2") (adds_candidate 7 2 name)
      ≡ accepted (in_nominations (dee 7 ∷ eve 7 ∷ []) (told_of_dee ∷ told_of_eve ∷ [])) (codes "candidate 2 of ward 7 added"))
  pub fay_stands : Written (codes "Fay") (λ name. step (in_nominations (dee 7 ∷ eve 7 ∷ []) (told_of_dee ∷ told_of_eve ∷ [])) 0 (codes "x3") (adds_candidate 7 3 name)
      ≡ accepted three_stand (codes "candidate 3 of ward 7 added"))
  pub polled : step three_stand 0 (codes "y1") (closes 7) ≡ accepted (in_keying [] [] [] []) (codes "ward 7 polled")
  pub batch_given_out : step (in_keying [] [] [] []) 0 (codes "z1") (adds_batch 12 7 2 4 9) ≡ accepted (in_keying (batch_in 1 ∷ []) [] [] (told_of_batch ∷ [])) (codes "batch 12 added")
  pub other_given_out : step (in_keying (batch_in 1 ∷ []) [] [] (told_of_batch ∷ [])) 0 (codes "z2") (adds_batch 13 7 1 9 4) ≡ accepted given_out (codes "batch 13 added")

-- Two clerks key a batch, and each gets the same reply no matter what the other keyed. If their keyings are equal, the batch is taken, and its doubtful
-- paper is judged. If they differ, the ward isn't ready to be sealed, and the batch is keyed again.
pub record KeyedRows : Type 0 where
  pub first_clerk : Marked (codes "1,2," ∷ codes "D" ∷ []) (λ papers. step given_out 4 (codes "k1") (keys 12 1 papers) ≡ accepted keyed_once (codes "batch 12 round 1 keyed"))
  pub kept_whatever : (papers : Vec (String Global) Global) → step keyed_once 4 (codes "k1") (keys 12 1 papers) ≡ kept (codes "batch 12 round 1 keyed")
  pub id_used : (papers : Vec (String Global) Global) → step keyed_once 4 (codes "k1") (keys 13 1 papers) ≡ refused IdUsed
  pub keyed_already : (papers : Vec (String Global) Global) → step keyed_once 4 (codes "k2") (keys 12 1 papers) ≡ refused AlreadyKeyed
  pub second_clerk : Marked (codes "1,2," ∷ codes "D" ∷ []) (λ papers. step keyed_once 9 (codes "k1") (keys 12 1 papers) ≡ accepted (keyed_twice (codes "1,2,")) (codes "batch 12 round 1 keyed"))
  pub taken : is_taken (keyed_twice (codes "1,2,")) (batch_in 1) ≡ true
  pub paper_accepted : Written (codes "1,,2") (λ marks. step (keyed_twice (codes "1,2,")) 0 (codes "z3") (judges 12 2 (Accept marks)) ≡ accepted judged (codes "batch 12 paper 2 accepted"))
  pub not_doubtful : step (keyed_twice (codes "1,2,")) 0 (codes "z3") (judges 12 1 (Reject 3)) ≡ refused NotDoubtful
  pub second_otherwise : Marked (codes "2,1," ∷ codes "D" ∷ []) (λ papers. step keyed_once 9 (codes "k1") (keys 12 1 papers) ≡ accepted (keyed_twice (codes "2,1,")) (codes "batch 12 round 1 keyed"))
  pub differs : is_differing (keyed_twice (codes "2,1,")) (batch_in 1) ≡ true
  pub not_ready : step (keyed_twice (codes "2,1,")) 0 (codes "z3") (commands.Count (counts.Seal 7)) ≡ refused NotReady
  pub open_again : step (keyed_twice (codes "2,1,")) 0 (codes "z3") (opens_again 12) ≡ accepted reopened (codes "batch 12 round 2 open")

-- A third clerk is assigned once, only if the two keyings differ, and is neither of the two clerks. The batch is taken as soon as any two keyings agree,
-- with the papers of those keyings; until then the batch differs.
pub record ThirdRows : Type 0 where
  pub not_his_yet : (papers : Vec (String Global) Global) → step (keyed_twice (codes "2,1,")) 5 (codes "k1") (keys 12 1 papers) ≡ refused NotItsClerk
  pub one_of_two : step (keyed_twice (codes "2,1,")) 0 (codes "z3") (sets_third 12 9) ≡ refused SameClerk
  pub not_where_they_agree : step (keyed_twice (codes "1,2,")) 0 (codes "z3") (sets_third 12 5) ≡ refused NoDifference
  pub not_before_both : step keyed_once 0 (codes "z3") (sets_third 12 5) ≡ refused NoDifference
  pub set : step (keyed_twice (codes "2,1,")) 0 (codes "z3") (sets_third 12 5) ≡ accepted third_set (codes "batch 12 third clerk 5")
  pub set_already : step third_set 0 (codes "z4") (sets_third 12 6) ≡ refused ThirdSet
  pub keyed_by_him : Marked (codes "1,2," ∷ codes "D" ∷ []) (λ papers. step third_set 5 (codes "k1") (keys 12 1 papers) ≡ accepted (third_keyed (codes "1,2,")) (codes "batch 12 round 1 keyed"))
  pub taken : is_taken (third_keyed (codes "1,2,")) (batch_in 1) ≡ true
  pub papers : taken_papers (third_keyed (codes "1,2,")) (batch_in 1) ≡ keyed 4 (codes "1,2,")
  pub taken_otherwise : taken_papers (third_keyed (codes "2,1,")) (batch_in 1) ≡ keyed 5 (codes "2,1,")
  pub none_agree : is_differing (third_keyed (codes ",1,")) (batch_in 1) ≡ true
  pub no_difference : step (third_keyed (codes "1,2,")) 0 (codes "z4") (opens_again 12) ≡ refused NoDifference

-- There are as many candidates as seats, so there is no poll and nothing to count, and all candidates are elected.
pub record UncontestedRows : Type 0 where
  pub added : Written (codes "Quay") (λ name. step empty_office 0 (codes "w1") (adds_ward 8 2 name) ≡ accepted (with_quay Nominations [] []) (codes "ward 8 added"))
  pub dee_stands : Written (codes "Dee") (λ name. step (with_quay Nominations [] []) 0 (codes "x1") (adds_candidate 8 1 name)
      ≡ accepted (with_quay Nominations (dee 8 ∷ []) (told_of_dee_there ∷ [])) (codes "candidate 1 of ward 8 added"))
  pub eve_stands : Written (codes "Eve") (λ name. step (with_quay Nominations (dee 8 ∷ []) (told_of_dee_there ∷ [])) 0 (codes "x2") (adds_candidate 8 2 name)
      ≡ accepted (with_quay Nominations both_there told_of_both) (codes "candidate 2 of ward 8 added"))
  pub uncontested : step (with_quay Nominations both_there told_of_both) 0 (codes "y1") (closes 8)
      ≡ accepted (with_quay Sealed both_there (told_of_both ++ told_closed ∷ [])) (codes "ward 8 uncontested")
  pub nothing_to_count : step (with_quay Sealed both_there (told_of_both ++ told_closed ∷ [])) 0 (codes "z1") (commands.Count (counts.Advance 8)) ≡ refused CountFinished
  pub all_elected : step (with_quay Sealed both_there (told_of_both ++ told_closed ∷ [])) 0 (codes "z1") (commands.Count (counts.Declare 8))
      ≡ accepted (with_quay Declared both_there (told_of_both ++ told_closed ∷ told (codes "z1") (codes "declare 8") (codes "ward 8 declared: 1, 2") ∷ [])) (codes "ward 8 declared: 1, 2")

-- A repeated command either matches what is stored about the original or differs from it: in seats, name, size, third clerk, marks or verdict. Nothing
-- is stored about a withdrawn candidate, and a later candidate with the same number is a different one. A command that its subject describes completely
-- never differs.
pub record RepeatRows : Type 0 where
  pub same_ward : Written (codes "Harbour") (λ name. is_otherwise (in_nominations [] []) 0 (adds_ward 7 2 name) ≡ false)
  pub other_seats : Written (codes "Harbour") (λ name. is_otherwise (in_nominations [] []) 0 (adds_ward 7 3 name) ≡ true)
  pub other_name : Written (codes "Quay") (λ name. is_otherwise (in_nominations [] []) 0 (adds_ward 7 2 name) ≡ true)
  pub same_candidate : Written (codes "Dee") (λ name. is_otherwise three_stand 0 (adds_candidate 7 1 name) ≡ false)
  pub other_candidate : Written (codes "Eve") (λ name. is_otherwise three_stand 0 (adds_candidate 7 1 name) ≡ true)
  pub withdrawn : Written (codes "Eve") (λ name. is_otherwise (in_nominations [] (told_of_dee ∷ told_withdrawn ∷ [])) 0 (adds_candidate 7 1 name) ≡ false)
  pub given_again : Written (codes "Eve") (λ name. is_otherwise (in_nominations (dee 7 ∷ []) (told_of_dee ∷ told_withdrawn ∷ [])) 0 (adds_candidate 7 1 name) ≡ false)
  pub same_batch : is_otherwise given_out 0 (adds_batch 12 7 2 4 9) ≡ false
  pub other_size : is_otherwise given_out 0 (adds_batch 12 7 20 4 9) ≡ true
  pub same_third : is_otherwise third_set 0 (sets_third 12 5) ≡ false
  pub other_third : is_otherwise third_set 0 (sets_third 12 6) ≡ true
  pub same_papers : Marked (codes "1,2," ∷ codes "D" ∷ []) (λ papers. is_otherwise keyed_once 4 (keys 12 1 papers) ≡ false)
  pub other_papers : Marked (codes "2,1," ∷ codes "D" ∷ []) (λ papers. is_otherwise keyed_once 4 (keys 12 1 papers) ≡ true)
  pub same_verdict : Written (codes "1,,2") (λ marks. is_otherwise judged 0 (judges 12 2 (Accept marks)) ≡ false)
  pub other_verdict : is_otherwise judged 0 (judges 12 2 (Reject 3)) ≡ true
  pub opened_again : is_otherwise reopened 0 (opens_again 12) ≡ false
