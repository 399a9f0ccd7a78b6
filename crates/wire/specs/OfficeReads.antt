-- Reads of the officer's console that combine several answers from the office.
use Rattle.std.specs.Prelude.{List, None, Result, Ok, Err, length, map, ℕ}
use Rattle.register.specs.Offices.{OfficeState, ReceiptEntry}
use Rattle.register.specs.NextSteps.{NextStepEntry, step_entry}
use Rattle.register.specs.declared.refusal.Reason.{Reason}
use Rattle.store.specs.Overviews.{BatchView, DoubtfulPapersView, WardView, batch_view, doubtful_papers_view, ward_view}
use Rattle.office.specs.Overviews.{batches_answer, doubtful_answer, receipts_answer, wards_answer}
use Rattle.office.specs.Reads.{next_answer}
use Rattle.wire.specs.declared.read_responses.found.WardsRead.{WardsRead}
use Rattle.wire.specs.declared.read_responses.found.WardProgress.{WardProgress}
use Rattle.wire.specs.declared.read_responses.found.WardPapers.{WardPapers}
use Rattle.wire.specs.declared.read_responses.found.WardRead.{WardRead}

-- the value made from two answers; or the reason for refusal, from the first answer that is a refusal
abbrev pub made_of : {X Y Z : Type 0} → (X → Y → Z) → Result X Reason → Result Y Reason → Result Z Reason
made_of make (Ok x) (Ok y) = Ok (make x y)
made_of make (Ok x) (Err why) = Err why
made_of make (Err why) other = Err why

-- ---- all wards

-- the number of receipts, and the wards
pub record WardsReadView : Type 0 where
  pub receipts : ℕ
  pub wards : List WardView

abbrev pub wards_with : List ReceiptEntry → List WardView → WardsReadView
wards_with receipts wards = record { receipts = length receipts; wards = wards }

abbrev pub wards_read_told : OfficeState → Result WardsReadView Reason
wards_read_told s = made_of wards_with (receipts_answer s None) (wards_answer s)

abbrev pub wards_read_view : WardsRead → WardsReadView
wards_read_view found = record { receipts = found.receipts; wards = map ward_view found.wards.items }

-- ---- one ward

-- the ward's next step, and all wards
pub record WardProgressView : Type 0 where
  pub next : NextStepEntry
  pub wards : List WardView

abbrev pub progress_with : NextStepEntry → List WardView → WardProgressView
progress_with next wards = record { next = next; wards = wards }

abbrev pub progress_told : OfficeState → ℕ → Result WardProgressView Reason
progress_told s ward = made_of progress_with (next_answer s ward) (wards_answer s)

abbrev pub progress_view : WardProgress → WardProgressView
progress_view found = record { next = step_entry found.next; wards = map ward_view found.wards.items }

-- the ward's batches, and its doubtful papers with its candidates
pub record WardPapersView : Type 0 where
  pub batches : List BatchView
  pub doubtful : DoubtfulPapersView

abbrev pub papers_with : List BatchView → DoubtfulPapersView → WardPapersView
papers_with batches doubtful = record { batches = batches; doubtful = doubtful }

abbrev pub ward_papers_told : OfficeState → ℕ → Result WardPapersView Reason
ward_papers_told s ward = made_of papers_with (batches_answer s ward) (doubtful_answer s ward)

abbrev pub ward_papers_view : WardPapers → WardPapersView
ward_papers_view found = record { batches = map batch_view found.batches.items; doubtful = doubtful_papers_view found.doubtful }

-- everything that is read about one ward
pub record WardReadView : Type 0 where
  pub progress : WardProgressView
  pub papers : WardPapersView

abbrev pub ward_with : WardProgressView → WardPapersView → WardReadView
ward_with progress papers = record { progress = progress; papers = papers }

abbrev pub ward_read_told : OfficeState → ℕ → Result WardReadView Reason
ward_read_told s ward = made_of ward_with (progress_told s ward) (ward_papers_told s ward)

abbrev pub ward_read_view : WardRead → WardReadView
ward_read_view found = record { progress = progress_view found.progress; papers = ward_papers_view found.papers }
