-- Proof that `do_open` meets its contract.
use Rattle.std.proofs.Common.{◌∙◌, refl, sym}
use Rattle.desk.specs.Pages.{failed}
use Rattle.desk.proofs.PageLemmas.{error_shown}
use Rattle.server.proofs.OrderLemmas.{any_described}
use Rattle.server.proofs.order_response.do_open.Goals as goal

pub returns-in-Refused-clause-did : goal.returns-in-Refused-clause-did
returns-in-Refused-clause-did g c =
    let shows = error_shown g.O.Sink.taken g.O.Sink.failed g.E.Sink.taken g.E.Sink.failed c.args.out.now c.args.err.now c.tell_failure.new.err
    (failed c.in-Refused.failure) c.tell_failure.result refl c.tell_failure.ensures in
    record { page = failed c.in-Refused.failure; cut = shows.0; shown = shows.1; is = λ clean is_open s at. rw c.in-Refused.is (refl, record { is_open = is_open; at = at }, refl) }

pub returns-in-Journal-clause-did : goal.returns-in-Journal-clause-did
returns-in-Journal-clause-did g c =
    let told = c.journal.ensures.told in
    record { page = told.page; cut = told.cut; shown = told.shown; is = λ clean is_open s at. rw c.in-Journal.is (told.is clean is_open s at, c.journal.ensures.stays clean is_open s at, refl) }

pub returns-in-Mend-clause-did : goal.returns-in-Mend-clause-did
returns-in-Mend-clause-did g c =
    let told = c.mend_for_order.ensures.told in
    record { page = told.page; cut = told.cut; shown = told.shown; is = λ clean is_open s at. let it = told.is clean is_open s at in rw c.in-Mend.is (it.0, it.1, refl) }

pub returns-in-Second-clause-did : goal.returns-in-Second-clause-did
returns-in-Second-clause-did g c =
    let told = c.second.ensures.told in
    record { page = told.page; cut = told.cut; shown = told.shown; is = λ clean is_open s at. rw c.in-Second.is (told.is clean is_open s at, c.second.ensures.stays clean is_open s at, refl) }

pub returns-in-Record-clause-did : goal.returns-in-Record-clause-did
returns-in-Record-clause-did g c =
    let told = c.tell_record.ensures in
    let page = any_described (g.A.ServedFile.described c.args.order.now.served_file.now) (g.R.Recorder.failed c.args.recorder.now) told.page told.is in
    record { page = told.page; cut = told.cut; shown = told.shown; is = λ clean is_open s at. rw c.in-Record.is (page, record { is_open = is_open; at = at }, refl) }

pub returns-in-Record-clause-recorded : goal.returns-in-Record-clause-recorded
returns-in-Record-clause-recorded g c = λ asks. c.tell_record.ensures

pub returns-in-Copy-clause-did : goal.returns-in-Copy-clause-did
returns-in-Copy-clause-did g c =
    let told = c.copy_for_order.ensures.told in
    record { page = told.page; cut = told.cut; shown = told.shown; is = λ clean is_open s at. let it = told.is clean is_open s at in rw c.in-Copy.is (it.0, it.1, refl) }

pub returns-in-Publish-clause-did : goal.returns-in-Publish-clause-did
returns-in-Publish-clause-did g c =
    let told = c.publish_for_order.ensures.told in
    record { page = told.page; cut = told.cut; shown = told.shown; is = λ clean is_open s at. let it = told.is clean is_open s at in rw c.in-Publish.is (it.0, it.1, refl) }

pub returns-in-Do-clause-did : goal.returns-in-Do-clause-did
returns-in-Do-clause-did g c =
    let told = c.follow_recorded-status.ensures.did in
    record { page = told.page; cut = told.cut; shown = told.shown; is = λ clean is_open s at. rw c.in-Do.is (told.is clean is_open s at) }

-- a record that failed is there
pub returns-in-Do-clause-fails : goal.returns-in-Do-clause-fails
returns-in-Do-clause-fails g c = λ had has. sym c.follow_recorded-status.ensures.same ∙ c.has_failed.ensures.recorded has

-- a copy, a new office and published results are made where the order's path means, or nowhere
pub returns-in-Copy-clause-ended : goal.returns-in-Copy-clause-ended
returns-in-Copy-clause-ended g c = rw c.in-Copy.is (c.copy_for_order.ensures.somewhere, c.copy_for_order.ensures.nowhere)

pub returns-in-Mend-clause-ended : goal.returns-in-Mend-clause-ended
returns-in-Mend-clause-ended g c = rw c.in-Mend.is (c.mend_for_order.ensures.somewhere, c.mend_for_order.ensures.nowhere)

pub returns-in-Publish-clause-ended : goal.returns-in-Publish-clause-ended
returns-in-Publish-clause-ended g c = rw c.in-Publish.is (c.publish_for_order.ensures.somewhere, c.publish_for_order.ensures.nowhere)
