-- The JSON of what the officer's console reads: the value that each body represents.
use Rattle.std.specs.Prelude.{◌&&◌, ◌==◌, Bool, List, [], Option, Some, None, codes, if◌then◌else◌, min, unwrap_or, ℕ}
use Rattle.std.specs.List.{sum_by}
use Rattle.serde_json.specs.Data.{Data, boolean, member, no_members, object, string}
use Rattle.count.specs.declared.stages.Action.{Action}
use Rattle.count.specs.declared.stages.Action.TheVariants.{First, Surplus, Exclude, ExcludeLast}
use Rattle.count.specs.declared.stages.Due.{Due}
use Rattle.count.specs.declared.stages.Due.TheVariants.{Act, Lot, Finished}
use Rattle.count.specs.declared.stages.TiedFor.{TiedFor}
use Rattle.count.specs.declared.stages.TiedFor.TheVariants.{Surplus as for_surplus, Exclusion as for_exclusion}
use Rattle.register.specs.Offices.{JudgedEntry, ReceiptEntry}
use Rattle.register.specs.Status.{StatusEntry}
use Rattle.register.specs.NextSteps.{NextStepEntry, nominations_end, papers_stand, count_goes, nothing_comes}
use Rattle.register.specs.declared.phase.Phase.{Phase}
use Rattle.register.specs.declared.phase.Phase.TheVariants as phase
use Rattle.register.specs.declared.polls.Judgement.{Judgement}
use Rattle.register.specs.declared.polls.Judgement.TheVariants as judged
use Rattle.store.specs.declared.overviews.differences.Shift.{Shift}
use Rattle.store.specs.Overviews.{BatchView, DifferencesView, DoubtfulPapersView, DoubtfulView, PaperView, PapersView, WardView}
use Rattle.store.specs.declared.overviews.batches.BatchStanding.{BatchStanding}
use Rattle.store.specs.declared.overviews.batches.BatchStanding.TheVariants.{Taken, Differing, Waiting}
use Rattle.wire.specs.OfficeReads.{WardPapersView, WardsReadView}
use Rattle.wire.specs.Replies.{candidate_data, list_data, number_data}

-- numbers
abbrev pub numbers_data : List ℕ → Data
numbers_data numbers = list_data number_data numbers

-- ---- the wards

-- the word for a phase
abbrev pub phase_word : Phase → List ℕ
phase_word phase.Nominations = codes "nominations"
phase_word phase.Keying = codes "keying"
phase_word phase.Sealed = codes "sealed"
phase_word phase.Declared = codes "declared"

-- a ward: its status, and the elected candidates once it is declared
abbrev pub ward_data : WardView → Data
ward_data v = object
    (member (codes "batches") (number_data v.status.batches)
    (member (codes "candidates") (number_data v.status.candidates)
    (member (codes "differing") (number_data v.status.differing)
    (member (codes "doubtful_open") (number_data v.status.doubtful_open)
    (member (codes "elected") (numbers_data (unwrap_or v.elected []))
    (member (codes "name") (string v.ward.name)
    (member (codes "phase") (string (phase_word v.ward.phase))
    (member (codes "seats") (number_data v.ward.seats)
    (member (codes "stages") (number_data v.status.stages)
    (member (codes "taken") (number_data v.status.taken)
    (member (codes "ward") (number_data v.ward.number) no_members)))))))))))

-- all wards, and the number of receipts
abbrev pub wards_data : WardsReadView → Data
wards_data v = object (member (codes "receipts") (number_data v.receipts) (member (codes "wards") (list_data ward_data v.wards) no_members))

-- ---- the next step in a ward

-- a step that needs no further details
abbrev pub word_data : List ℕ → Data
word_data word = object (member (codes "step") (string word) no_members)

-- the next step of keying: to create batches, if there are none; to seal, once all batches are taken and all their doubtful papers have a verdict; until then, the remaining
-- papers
abbrev pub papers_word : StatusEntry → List ℕ
papers_word s = if s.batches == 0 then codes "batches" else (if s.taken == s.batches && s.doubtful_open == 0 then codes "seal" else codes "papers")

-- the word for what a stage does
abbrev pub action_word : Action → List ℕ
action_word First = codes "first"
action_word (Surplus candidate) = codes "surplus"
action_word (Exclude candidate) = codes "exclusion"
action_word (ExcludeLast candidate) = codes "last exclusion"

-- the candidate that a stage concerns, or 0
abbrev pub action_candidate : Action → ℕ
action_candidate First = 0
action_candidate (Surplus candidate) = candidate
action_candidate (Exclude candidate) = candidate
action_candidate (ExcludeLast candidate) = candidate

abbrev pub stage_data : ℕ → Action → Data
stage_data stage action = object
    (member (codes "action") (string (action_word action))
    (member (codes "candidate") (number_data (action_candidate action))
    (member (codes "stage") (number_data stage)
    (member (codes "step") (string (codes "stage")) no_members))))

-- the word for what a lot decides
abbrev pub lot_word : TiedFor → List ℕ
lot_word for_surplus = codes "surplus"
lot_word for_exclusion = codes "exclusion"

abbrev pub lot_data : ℕ → TiedFor → List ℕ → Data
lot_data stage kind tied = object
    (member (codes "decides") (string (lot_word kind))
    (member (codes "stage") (number_data stage)
    (member (codes "step") (string (codes "lot"))
    (member (codes "tied") (numbers_data tied) no_members))))

-- what comes next in a count: the next stage, with the given number; a lot; or the declaration
abbrev pub due_data : ℕ → Due → Data
due_data stage (Act action) = stage_data stage action
due_data stage (Lot at kind tied) = lot_data at kind tied
due_data stage Finished = word_data (codes "declaration")

abbrev pub step_data : NextStepEntry → Data
step_data (nominations_end candidates seats) = word_data (codes "nominations")
step_data (papers_stand status) = word_data (papers_word status)
step_data (count_goes stage due candidates) = due_data stage due
step_data nothing_comes = word_data (codes "nothing")

-- ---- the batches of a ward

-- a clerk of a batch, and whether the clerk has keyed the current round
abbrev pub batch_clerk_data : ℕ × Bool → Data
batch_clerk_data (clerk, keyed) = object (member (codes "clerk") (number_data clerk) (member (codes "keyed") (boolean keyed) no_members))

abbrev pub standing_word : BatchStanding → List ℕ
standing_word Taken = codes "taken"
standing_word Differing = codes "differing"
standing_word Waiting = codes "waiting"

-- a batch; its twin is 0 if it has none
abbrev pub batch_data : BatchView → Data
batch_data v = object
    (member (codes "batch") (number_data v.batch.number)
    (member (codes "clerks") (list_data batch_clerk_data v.clerks)
    (member (codes "doubtful_open") (number_data v.doubtful_open)
    (member (codes "round") (number_data v.batch.round)
    (member (codes "size") (number_data v.batch.size)
    (member (codes "standing") (string (standing_word v.standing))
    (member (codes "twin") (number_data (unwrap_or v.twin 0)) no_members)))))))

abbrev pub batches_data : ℕ → List BatchView → Data
batches_data ward batches = object (member (codes "batches") (list_data batch_data batches) (member (codes "ward") (number_data ward) no_members))

-- ---- one ward

-- the maximum number of papers in a reply
abbrev pub most_papers : ℕ
most_papers = 18446744073709551615

-- the total size of the batches
abbrev pub given_out : List BatchView → ℕ
given_out batches = min (sum_by (λ (v : BatchView). v.batch.size) batches) most_papers

-- the size of a batch if it is taken, otherwise 0
abbrev pub size_in : BatchStanding → ℕ → ℕ
size_in Taken size = size
size_in Differing size = 0
size_in Waiting size = 0

-- the total size of the taken batches
abbrev pub agreed_in : List BatchView → ℕ
agreed_in batches = min (sum_by (λ (v : BatchView). size_in v.standing v.batch.size) batches) most_papers

-- the ward, with its next step and its papers
abbrev pub ward_read_data : WardView → NextStepEntry → WardPapersView → Data
ward_read_data ward next papers = object
    (member (codes "candidates") (list_data candidate_data papers.doubtful.candidates)
    (member (codes "next") (step_data next)
    (member (codes "papers_agreed") (number_data (agreed_in papers.batches))
    (member (codes "papers_given_out") (number_data (given_out papers.batches))
    (member (codes "ward") (ward_data ward) no_members)))))

-- ---- papers

-- the preferences of a valid paper
abbrev pub preferences_of : Judgement → List ℕ
preferences_of (judged.Valid preferences) = preferences
preferences_of (judged.Rejected code) = []
preferences_of judged.Open = []

-- the word for how a paper counts
abbrev pub judgement_word : Judgement → List ℕ
judgement_word (judged.Valid preferences) = codes "valid"
judgement_word (judged.Rejected code) = codes "rejected"
judgement_word judged.Open = codes "open"

-- the code of a rejected paper, or 0 for any other
abbrev pub judgement_code : Judgement → ℕ
judgement_code (judged.Valid preferences) = 0
judgement_code (judged.Rejected code) = code
judgement_code judged.Open = 0

abbrev pub counted_data : PaperView → Data
counted_data p = object
    (member (codes "code") (number_data (judgement_code p.judgement))
    (member (codes "paper") (number_data p.paper)
    (member (codes "preferences") (numbers_data (preferences_of p.judgement))
    (member (codes "state") (string (judgement_word p.judgement)) no_members))))

abbrev pub papers_data : ℕ → PapersView → Data
papers_data batch v = object
    (member (codes "batch") (number_data batch)
    (member (codes "candidates") (list_data candidate_data v.candidates)
    (member (codes "papers") (list_data counted_data v.papers) no_members)))

-- ---- doubtful papers

-- the word for a verdict
abbrev pub verdict_word : Option JudgedEntry → List ℕ
verdict_word None = codes "open"
verdict_word (Some v) = if v.code == 0 then codes "accepted" else codes "rejected"

-- the code of a rejected paper, or 0 for any other
abbrev pub verdict_code : Option JudgedEntry → ℕ
verdict_code None = 0
verdict_code (Some v) = v.code

-- the marks of an accepted paper
abbrev pub verdict_marks : Option JudgedEntry → List ℕ
verdict_marks None = []
verdict_marks (Some v) = if v.code == 0 then v.marks else []

abbrev pub doubtful_data : DoubtfulView → Data
doubtful_data v = object
    (member (codes "batch") (number_data v.counted.batch)
    (member (codes "code") (number_data (verdict_code v.verdict))
    (member (codes "marks") (string (verdict_marks v.verdict))
    (member (codes "paper") (number_data v.counted.paper)
    (member (codes "preferences") (numbers_data (preferences_of v.counted.judgement))
    (member (codes "verdict") (string (verdict_word v.verdict)) no_members))))))

abbrev pub doubtful_papers_data : ℕ → DoubtfulPapersView → Data
doubtful_papers_data ward v = object
    (member (codes "candidates") (list_data candidate_data v.candidates)
    (member (codes "papers") (list_data doubtful_data v.papers)
    (member (codes "ward") (number_data ward) no_members)))

-- ---- differences and receipts

-- the clerk whose papers are shifted, and the paper from which on they are; 0 if there is no shift
abbrev pub shifted_clerk : Option Shift → ℕ
shifted_clerk None = 0
shifted_clerk (Some shift) = shift.clerk

abbrev pub shifted_from : Option Shift → ℕ
shifted_from None = 0
shifted_from (Some shift) = shift.paper

abbrev pub differences_data : ℕ → DifferencesView → Data
differences_data batch v = object
    (member (codes "batch") (number_data batch)
    (member (codes "papers") (numbers_data v.papers)
    (member (codes "round") (number_data v.batch.round)
    (member (codes "shifted_clerk") (number_data (shifted_clerk v.shift))
    (member (codes "shifted_from") (number_data (shifted_from v.shift)) no_members)))))

abbrev pub receipt_data : ReceiptEntry → Data
receipt_data r = object
    (member (codes "actor") (number_data r.actor)
    (member (codes "id") (string r.id)
    (member (codes "reply") (string r.reply)
    (member (codes "subject") (string r.subject) no_members))))

abbrev pub receipts_data : List ReceiptEntry → Data
receipts_data receipts = object (member (codes "receipts") (list_data receipt_data receipts) no_members)
