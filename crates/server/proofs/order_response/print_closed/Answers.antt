-- Proof that `print_closed` meets its contract.
use Rattle.std.proofs.Common.{refl}
use Rattle.desk.specs.Pages.{closed_page, failed}
use Rattle.desk.proofs.PageLemmas.{error_shown}
use Rattle.server.proofs.order_response.print_closed.Goals as goal

pub returns-in-Refused : goal.returns-in-Refused
returns-in-Refused g c =
    rw c.in-Refused.is (error_shown g.O.Sink.taken g.O.Sink.failed g.E.Sink.taken g.E.Sink.failed _ _ _ (failed c.in-Refused.failure) c.tell_failure.result refl c.tell_failure.ensures)

pub returns-in-Do : goal.returns-in-Do
returns-in-Do g c =
    rw c.in-Do.is (error_shown g.O.Sink.taken g.O.Sink.failed g.E.Sink.taken g.E.Sink.failed _ _ _ closed_page c.tell_failure-in-Do.result refl c.tell_failure-in-Do.ensures)

pub returns-in-Copy : goal.returns-in-Copy
returns-in-Copy g c =
    rw c.in-Copy.is (error_shown g.O.Sink.taken g.O.Sink.failed g.E.Sink.taken g.E.Sink.failed _ _ _ closed_page c.tell_failure-in-Copy.result refl c.tell_failure-in-Copy.ensures)

pub returns-in-Journal : goal.returns-in-Journal
returns-in-Journal g c =
    rw c.in-Journal.is (error_shown g.O.Sink.taken g.O.Sink.failed g.E.Sink.taken g.E.Sink.failed _ _ _ closed_page c.tell_failure-in-Journal.result refl c.tell_failure-in-Journal.ensures)

pub returns-in-Second : goal.returns-in-Second
returns-in-Second g c =
    rw c.in-Second.is (error_shown g.O.Sink.taken g.O.Sink.failed g.E.Sink.taken g.E.Sink.failed _ _ _ closed_page c.tell_failure-in-Second.result refl c.tell_failure-in-Second.ensures)

pub returns-in-Record : goal.returns-in-Record
returns-in-Record g c =
    rw c.in-Record.is (error_shown g.O.Sink.taken g.O.Sink.failed g.E.Sink.taken g.E.Sink.failed _ _ _ closed_page c.tell_failure-in-Record.result refl c.tell_failure-in-Record.ensures)

pub returns-in-Mend : goal.returns-in-Mend
returns-in-Mend g c =
    rw c.in-Mend.is (error_shown g.O.Sink.taken g.O.Sink.failed g.E.Sink.taken g.E.Sink.failed _ _ _ closed_page c.tell_failure-in-Mend.result refl c.tell_failure-in-Mend.ensures)

pub returns-in-Publish : goal.returns-in-Publish
returns-in-Publish g c =
    rw c.in-Publish.is (error_shown g.O.Sink.taken g.O.Sink.failed g.E.Sink.taken g.E.Sink.failed _ _ _ closed_page c.tell_failure-in-Publish.result refl c.tell_failure-in-Publish.ensures)
