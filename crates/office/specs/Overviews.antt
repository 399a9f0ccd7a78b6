-- The results of reading overviews, which are for the office alone.
use Rattle.std.specs.Prelude.{ℕ, Bool, true, ◌||◌, if◌then◌else◌, List, Option, Some, None, Result, Ok, Err}
use Rattle.register.specs.declared.refusal.Reason.{Reason}
use Rattle.register.specs.declared.refusal.Reason.TheVariants.{NumberOutOfRange, NoSuchWard, NoSuchBatch, NoDifference, NotTaken}
use Rattle.register.specs.Ranges.{is_batch_number, is_clerk, is_office, is_ward_number}
use Rattle.register.specs.Offices.{OfficeState, ReceiptEntry}
use Rattle.store.specs.Overviews.{BatchView, DifferencesView, DoubtfulPapersView, PapersView, WardView, batch_views_at, differences_at, doubtful_at, papers_at, receipts_of, ward_views}
use Rattle.office.specs.Reads.{found_or}

-- the result of reading the overviews of all wards
abbrev pub wards_answer : OfficeState → Result (List WardView) Reason
wards_answer s = Ok (ward_views s)

-- the result of reading the overviews of a ward's batches
abbrev pub batches_answer : OfficeState → ℕ → Result (List BatchView) Reason
batches_answer s ward = if is_ward_number ward then found_or NoSuchWard (batch_views_at s ward) else Err NumberOutOfRange

-- the result of reading a ward's doubtful papers
abbrev pub doubtful_answer : OfficeState → ℕ → Result DoubtfulPapersView Reason
doubtful_answer s ward = if is_ward_number ward then found_or NoSuchWard (doubtful_at s ward) else Err NumberOutOfRange

-- the papers in a batch on which its keyings differ, if the batch was found and they do differ
abbrev pub differing_or : Reason → Option DifferencesView → Result DifferencesView Reason
differing_or why None = Err why
differing_or why (Some d) = if d.differs then Ok d else Err NoDifference

-- the result of reading the papers on which a batch's keyings differ
abbrev pub differences_answer : OfficeState → ℕ → Result DifferencesView Reason
differences_answer s batch = if is_batch_number batch then differing_or NoSuchBatch (differences_at s batch) else Err NumberOutOfRange

-- how each paper in a batch counts, if the batch was found and is taken
abbrev pub taken_or : Reason → Option PapersView → Result PapersView Reason
taken_or why None = Err why
taken_or why (Some p) = if p.taken then Ok p else Err NotTaken

-- the result of reading how each paper in a batch counts
abbrev pub papers_answer : OfficeState → ℕ → Result PapersView Reason
papers_answer s batch = if is_batch_number batch then taken_or NoSuchBatch (papers_at s batch) else Err NumberOutOfRange

-- whether an actor may have receipts, as the office and the clerks may; None stands for all actors
abbrev pub may_have_receipts : Option ℕ → Bool
may_have_receipts None = true
may_have_receipts (Some actor) = is_office actor || is_clerk actor

-- the result of reading receipts
abbrev pub receipts_answer : OfficeState → Option ℕ → Result (List ReceiptEntry) Reason
receipts_answer s actor = if may_have_receipts actor then Ok (receipts_of s actor) else Err NumberOutOfRange
