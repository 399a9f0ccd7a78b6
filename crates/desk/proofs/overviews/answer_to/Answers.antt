-- Proof that `answer_to` meets its contract.
use Rattle.sqlite.specs.Held.{state}
use Rattle.register.specs.Offices.{receipt_entry}
use Rattle.store.specs.Overviews.{batch_view, ward_view}
use Rattle.office.specs.Overviews.{batches_answer, receipts_answer, wards_answer}
use Rattle.desk.specs.Overviews.{batch_line, receipt_line, ward_line}
use Rattle.desk.specs.Pages.{page_of}
use Rattle.desk.proofs.OverviewLemmas.{lines_found}
use Rattle.desk.proofs.overviews.answer_to.Goals as goal

pub returns-in-Wards-clause-found : goal.returns-in-Wards-clause-found
returns-in-Wards-clause-found g c = λ clean is_open s at.
    rw c.in-Wards.is (lines_found (λ v. v.items) ward_line ward_view s (wards_answer s) c.wards.result (page_of c.outcome_of.result) c.wards.new.self.closed
    (state g.S.Store c.args.office.now.held) (state g.S.Store c.wards.new.self.held)
    (c.wards.ensures.reads clean is_open s at) c.outcome_of.ensures.lines c.outcome_of.ensures.stop (c.wards.ensures.cause clean is_open s at))

pub returns-in-Batches-clause-found : goal.returns-in-Batches-clause-found
returns-in-Batches-clause-found g c = λ clean is_open s at.
    rw c.in-Batches.is (lines_found (λ v. v.items) batch_line batch_view s (batches_answer s c.in-Batches.ward) c.batches.result
    (page_of c.outcome_of-in-Batches.result) c.batches.new.self.closed (state g.S.Store c.args.office.now.held) (state g.S.Store c.batches.new.self.held)
    (c.batches.ensures.reads clean is_open s at) c.outcome_of-in-Batches.ensures.lines c.outcome_of-in-Batches.ensures.stop (c.batches.ensures.cause clean is_open s at))

pub returns-in-Receipts-clause-found : goal.returns-in-Receipts-clause-found
returns-in-Receipts-clause-found g c = λ clean is_open s at.
    rw c.in-Receipts.is (lines_found (λ v. v.items) receipt_line receipt_entry s (receipts_answer s c.in-Receipts.actor) c.receipts.result
    (page_of c.outcome_of-in-Receipts.result) c.receipts.new.self.closed (state g.S.Store c.args.office.now.held) (state g.S.Store c.receipts.new.self.held)
    (c.receipts.ensures.reads clean is_open s at) c.outcome_of-in-Receipts.ensures.lines c.outcome_of-in-Receipts.ensures.stop (c.receipts.ensures.cause clean is_open s at))
