-- Whether a repeated request differs from what an office has stored about the original. A receipt contains only the request's id and subject, so a
-- request that is repeated with the same id may have different contents and still get the same reply.
use Rattle.std.specs.Prelude.{ℕ, Bool, true, false, not, ◌&&◌, ◌==◌, List, [], ◌∷◌, string_bytes, Option, Some, None}
use Rattle.std.specs.List.{list_any, filter}
use Rattle.std.specs.Str.{bytes_eq}
use Rattle.register.specs.declared.command.Command.{Command}
use Rattle.register.specs.declared.command.Command.TheVariants.{Ward, Candidate, Batch, Keying, Verdict, Count}
use Rattle.register.specs.declared.command.Request.{Request}
use Rattle.register.specs.declared.wards.WardCommand.{WardCommand}
use Rattle.register.specs.declared.wards.WardCommand.TheVariants as wards
use Rattle.register.specs.declared.candidates.CandidateCommand.{CandidateCommand}
use Rattle.register.specs.declared.candidates.CandidateCommand.TheVariants as candidates
use Rattle.register.specs.declared.batches.BatchCommand.{BatchCommand}
use Rattle.register.specs.declared.batches.BatchCommand.TheVariants as batches
use Rattle.register.specs.declared.keyings.KeyingCommand.{KeyingCommand}
use Rattle.register.specs.declared.verdicts.VerdictCommand.{VerdictCommand}
use Rattle.register.specs.declared.counts.CountCommand.{CountCommand}
use Rattle.register.specs.declared.counts.CountCommand.TheVariants as counts
use Rattle.register.specs.Offices.{WardEntry, CandidateEntry, BatchEntry, KeyedEntry, JudgedEntry, LotEntry, ReceiptEntry, OfficeState}
use Rattle.register.specs.Offices.{ward_at, candidate_at, batch_at, third_at, keying_of, verdict_at, lots_of}
use Rattle.register.specs.Candidates.{subject_of}
use Rattle.register.specs.Agreement.{is_third_clerk}
use Rattle.register.specs.Keyings.{texts_of}
use Rattle.register.specs.Verdicts.{judged_as}

-- ---- comparing what is stored with a command

-- an entry exists and passes a test
abbrev pub is_there : {X : Type 0} → (X → Bool) → Option X → Bool
is_there test None = false
is_there test (Some x) = test x

-- a ward has the given number of seats and the given name
abbrev pub is_ward_of : ℕ → List ℕ → WardEntry → Bool
is_ward_of seats name w = (w.seats == seats) && bytes_eq w.name name

-- a candidate has a different name
abbrev pub has_other_name : List ℕ → CandidateEntry → Bool
has_other_name name c = not (bytes_eq c.name name)

-- a receipt has the given subject
abbrev pub has_subject : List ℕ → ReceiptEntry → Bool
has_subject subject r = bytes_eq r.subject subject

-- the receipts of the returning officer, who alone may add and withdraw candidates
abbrev pub office_receipts : OfficeState → List ReceiptEntry
office_receipts s = filter (λ (r : ReceiptEntry). r.actor == 0) s.receipts

-- a batch belongs to the given ward, has the given size, and is assigned to the two given clerks
abbrev pub is_batch_of : ℕ → ℕ → ℕ → ℕ → BatchEntry → Bool
is_batch_of ward size first_clerk second_clerk b = (b.ward == ward) && ((b.size == size) && ((b.first_clerk == first_clerk) && (b.second_clerk == second_clerk)))

-- a keying consists of exactly the given marks texts, one per paper, in order
unfoldable pub has_texts : List KeyedEntry → List (List ℕ) → Bool
has_texts [] [] = true
has_texts (k ∷ ks) (text ∷ texts) = bytes_eq k.marks text && has_texts ks texts
has_texts ks texts = false

-- a verdict has the same code and marks as another
abbrev pub is_judged_alike : JudgedEntry → JudgedEntry → Bool
is_judged_alike other v = (v.code == other.code) && bytes_eq v.marks other.marks

-- a lot is for the given stage and names the given candidate
abbrev pub is_drawn : ℕ → ℕ → LotEntry → Bool
is_drawn stage candidate l = (l.stage == stage) && (l.candidate == candidate)

-- ---- what is compared for each command; a command that its subject describes completely never differs from what is stored

-- for a ward: its number of seats and its name
abbrev pub is_ward_otherwise : OfficeState → WardCommand → Bool
is_ward_otherwise s (wards.Add ward seats name) = not (is_there (is_ward_of seats (string_bytes name)) (ward_at s ward))
is_ward_otherwise s (wards.Close ward) = false

-- a candidate with the given number has withdrawn from the ward
abbrev pub has_withdrawn : OfficeState → ℕ → ℕ → Bool
has_withdrawn s ward candidate = list_any (has_subject (subject_of (candidates.Withdraw ward candidate))) (office_receipts s)

-- for a candidate: the name. If a candidate with the given number has withdrawn, nothing is stored about that candidate, and any candidate who now has
-- the number is a different one.
abbrev pub is_candidate_otherwise : OfficeState → CandidateCommand → Bool
is_candidate_otherwise s (candidates.Add ward candidate name) =
    is_there (has_other_name (string_bytes name)) (candidate_at s ward candidate) && not (has_withdrawn s ward candidate)
is_candidate_otherwise s (candidates.Withdraw ward candidate) = false

-- for a batch: its ward, its size and its two clerks; or its third clerk
abbrev pub is_batch_otherwise : OfficeState → BatchCommand → Bool
is_batch_otherwise s (batches.Add batch ward size first_clerk second_clerk) = not (is_there (is_batch_of ward size first_clerk second_clerk) (batch_at s batch))
is_batch_otherwise s (batches.Again batch) = false
is_batch_otherwise s (batches.Third batch clerk) = not (is_third_clerk clerk (third_at s batch))

-- for a keying: the papers that the clerk keyed for the batch in that round
abbrev pub is_keying_otherwise : OfficeState → ℕ → KeyingCommand → Bool
is_keying_otherwise s clerk command = not (has_texts (keying_of s command.batch command.round clerk) (texts_of command))

-- for a verdict: its code and its marks
abbrev pub is_verdict_otherwise : OfficeState → VerdictCommand → Bool
is_verdict_otherwise s command = not (is_there (is_judged_alike (judged_as command.batch command.paper command.verdict)) (verdict_at s command.batch command.paper))

-- for a lot: the candidate
abbrev pub is_count_otherwise : OfficeState → CountCommand → Bool
is_count_otherwise s (counts.Seal ward) = false
is_count_otherwise s (counts.Advance ward) = false
is_count_otherwise s (counts.Lot ward stage candidate) = not (list_any (is_drawn stage candidate) (lots_of s ward))
is_count_otherwise s (counts.Declare ward) = false

-- what the state has stored about an actor's command differs from the command
abbrev pub is_otherwise : OfficeState → ℕ → Command → Bool
is_otherwise s actor (Ward command) = is_ward_otherwise s command
is_otherwise s actor (Candidate command) = is_candidate_otherwise s command
is_otherwise s actor (Batch command) = is_batch_otherwise s command
is_otherwise s actor (Keying command) = is_keying_otherwise s actor command
is_otherwise s actor (Verdict command) = is_verdict_otherwise s command
is_otherwise s actor (Count command) = is_count_otherwise s command

-- what the state has stored about a kept request differs from the request
abbrev pub is_kept_otherwise : OfficeState → Request → Bool
is_kept_otherwise s r = is_otherwise s r.actor r.command
