-- Proof that `answer_office` meets its contract.
use Rattle.std.proofs.Common.{List, ap, map}
use Rattle.register.specs.Offices.{ReceiptEntry, receipt_entry}
use Rattle.store.specs.Overviews.{BatchView, DifferencesView, DoubtfulPapersView, PapersView, batch_view, differences_view, doubtful_papers_view, papers_view}
use Rattle.office.specs.Overviews.{batches_answer, differences_answer, doubtful_answer, papers_answer, receipts_answer}
use Rattle.wire.specs.OfficeReads.{WardsReadView, ward_read_told, ward_read_view, wards_read_told, wards_read_view}
use Rattle.wire.specs.OfficeReplies.{batches_data, differences_data, doubtful_papers_data, papers_data, receipts_data, wards_data}
use Rattle.wire.specs.Serving.{data_response, office_response, ward_response}
use Rattle.wire.specs.declared.target.Resource.TheVariants.{Office}
use Rattle.wire.proofs.AnswerLemmas.{Readies-read}
use Rattle.wire.proofs.read_responses.answer_office.Goals as goal

pub returns-in-Wards-clause-answers : goal.returns-in-Wards-clause-answers
returns-in-Wards-clause-answers g c = λ clean open_before s at.
    Readies-read s (Office c.args.read) (λ (wards : WardsReadView). data_response (wards_data wards))
    wards_read_view (wards_read_told s) c.read_wards.result c.answer_wards.result _ _
    (ap (office_response s) c.in-Wards.is) (c.read_wards.ensures.reads clean open_before s at) c.answer_wards.ensures

pub returns-in-Ward-clause-answers : goal.returns-in-Ward-clause-answers
returns-in-Ward-clause-answers g c = λ clean open_before s at.
    Readies-read s (Office c.args.read) (ward_response c.in-Ward.ward) ward_read_view (ward_read_told s c.in-Ward.ward) c.read_ward.result c.answer_ward.result _ _
    (ap (office_response s) c.in-Ward.is) (c.read_ward.ensures.reads clean open_before s at) c.answer_ward.ensures

pub returns-in-Batches-clause-answers : goal.returns-in-Batches-clause-answers
returns-in-Batches-clause-answers g c = λ clean open_before s at.
    Readies-read s (Office c.args.read) (λ (batches : List BatchView). data_response (batches_data c.in-Batches.ward batches))
    (λ batches. map batch_view batches.items) (batches_answer s c.in-Batches.ward) c.batches.result c.answer_batches.result _ _
    (ap (office_response s) c.in-Batches.is) (c.batches.ensures.reads clean open_before s at) c.answer_batches.ensures

pub returns-in-Doubtful-clause-answers : goal.returns-in-Doubtful-clause-answers
returns-in-Doubtful-clause-answers g c = λ clean open_before s at.
    Readies-read s (Office c.args.read) (λ (papers : DoubtfulPapersView). data_response (doubtful_papers_data c.in-Doubtful.ward papers))
    doubtful_papers_view (doubtful_answer s c.in-Doubtful.ward) c.doubtful.result c.answer_doubtful.result _ _
    (ap (office_response s) c.in-Doubtful.is) (c.doubtful.ensures.reads clean open_before s at) c.answer_doubtful.ensures

pub returns-in-Differences-clause-answers : goal.returns-in-Differences-clause-answers
returns-in-Differences-clause-answers g c = λ clean open_before s at.
    Readies-read s (Office c.args.read) (λ (differences : DifferencesView). data_response (differences_data c.in-Differences.batch differences))
    differences_view (differences_answer s c.in-Differences.batch) c.differences.result c.answer_differences.result _ _
    (ap (office_response s) c.in-Differences.is) (c.differences.ensures.reads clean open_before s at) c.answer_differences.ensures

pub returns-in-Papers-clause-answers : goal.returns-in-Papers-clause-answers
returns-in-Papers-clause-answers g c = λ clean open_before s at.
    Readies-read s (Office c.args.read) (λ (papers : PapersView). data_response (papers_data c.in-Papers.batch papers))
    papers_view (papers_answer s c.in-Papers.batch) c.papers.result c.answer_papers.result _ _
    (ap (office_response s) c.in-Papers.is) (c.papers.ensures.reads clean open_before s at) c.answer_papers.ensures

pub returns-in-Receipts-clause-answers : goal.returns-in-Receipts-clause-answers
returns-in-Receipts-clause-answers g c = λ clean open_before s at.
    Readies-read s (Office c.args.read) (λ (receipts : List ReceiptEntry). data_response (receipts_data receipts))
    (λ receipts. map receipt_entry receipts.items) (receipts_answer s c.in-Receipts.actor) c.receipts.result c.answer_receipts.result _ _
    (ap (office_response s) c.in-Receipts.is) (c.receipts.ensures.reads clean open_before s at) c.answer_receipts.ensures
