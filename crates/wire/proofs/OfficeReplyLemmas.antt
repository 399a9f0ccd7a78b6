-- The JSON values that the console reads contain no floats.
use Rattle.std.proofs.Common.{◌≡◌, false, ℕ, List, map, refl}
use Rattle.std.specs.Prelude.{[], unwrap_or}
use Rattle.serde_json.specs.Written.{has_float}
use Rattle.count.specs.declared.stages.Due.{Due}
use Rattle.count.specs.declared.stages.Due.TheVariants.{Act, Lot, Finished}
use Rattle.register.specs.Offices.{ReceiptEntry}
use Rattle.register.specs.NextSteps.{NextStepEntry, nominations_end, papers_stand, count_goes, nothing_comes}
use Rattle.store.specs.Overviews.{BatchView, DifferencesView, DoubtfulPapersView, DoubtfulView, PaperView, PapersView, WardView}
use Rattle.wire.specs.OfficeReads.{WardPapersView, WardsReadView}
use Rattle.wire.specs.OfficeReplies.{batch_clerk_data, batch_data, batches_data, counted_data, differences_data, doubtful_data, doubtful_papers_data, due_data, numbers_data, papers_data}
use Rattle.wire.specs.OfficeReplies.{preferences_of, receipt_data, receipts_data, step_data, ward_data, ward_read_data, wards_data}
use Rattle.wire.specs.Replies.{candidate_data, list_data, number_data}
use Rattle.wire.proofs.ReplyLemmas.{list-float}

numbers-float : (numbers : List ℕ) → has_float (numbers_data numbers) ≡ false
numbers-float numbers = list-float number_data (λ _. refl) numbers

-- ---- the wards

ward-float : (v : WardView) → has_float (ward_data v) ≡ false
ward-float v = rw (numbers-float (unwrap_or v.elected [])) refl

pub wards-float : (v : WardsReadView) → has_float (wards_data v) ≡ false
wards-float v = rw (list-float ward_data ward-float v.wards) refl

due-float : (stage : ℕ) (due : Due) → has_float (due_data stage due) ≡ false
due-float stage (Act action) = refl
due-float stage (Lot at kind tied) = rw (numbers-float tied) refl
due-float stage Finished = refl

step-float : (next : NextStepEntry) → has_float (step_data next) ≡ false
step-float (nominations_end candidates seats) = refl
step-float (papers_stand status) = refl
step-float (count_goes stage due candidates) = due-float stage due
step-float nothing_comes = refl

pub ward-read-float : (ward : WardView) (next : NextStepEntry) (papers : WardPapersView) → has_float (ward_read_data ward next papers) ≡ false
ward-read-float ward next papers = rw (list-float candidate_data (λ _. refl) papers.doubtful.candidates, step-float next, ward-float ward) refl

-- ---- batches

batch-float : (v : BatchView) → has_float (batch_data v) ≡ false
batch-float v = rw (list-float batch_clerk_data (λ _. refl) v.clerks) refl

pub batches-float : (ward : ℕ) (batches : List BatchView) → has_float (batches_data ward batches) ≡ false
batches-float ward batches = rw (list-float batch_data batch-float batches) refl

-- ---- papers

counted-float : (p : PaperView) → has_float (counted_data p) ≡ false
counted-float p = rw (numbers-float (preferences_of p.judgement)) refl

pub papers-float : (batch : ℕ) (v : PapersView) → has_float (papers_data batch v) ≡ false
papers-float batch v = rw (list-float candidate_data (λ _. refl) v.candidates, list-float counted_data counted-float v.papers) refl

doubtful-float : (v : DoubtfulView) → has_float (doubtful_data v) ≡ false
doubtful-float v = rw (numbers-float (preferences_of v.counted.judgement)) refl

pub doubtful-papers-float : (ward : ℕ) (v : DoubtfulPapersView) → has_float (doubtful_papers_data ward v) ≡ false
doubtful-papers-float ward v = rw (list-float candidate_data (λ _. refl) v.candidates, list-float doubtful_data doubtful-float v.papers) refl

pub differences-float : (batch : ℕ) (v : DifferencesView) → has_float (differences_data batch v) ≡ false
differences-float batch v = rw (numbers-float v.papers) refl

-- ---- receipts

pub receipts-float : (receipts : List ReceiptEntry) → has_float (receipts_data receipts) ≡ false
receipts-float receipts = rw (list-float receipt_data (λ _. refl) receipts) refl
