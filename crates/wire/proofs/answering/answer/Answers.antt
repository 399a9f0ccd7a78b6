-- Proof that `answer` meets its contract.
use Rattle.std.proofs.Common.{ap, sym}
use Rattle.sqlite.specs.Held.{state}
use Rattle.wire.specs.Gates.{public_entry}
use Rattle.wire.specs.Requests.{http_request_entry, public, reading}
use Rattle.wire.proofs.AnswerLemmas.{Readies-same}
use Rattle.wire.proofs.answering.answer.Goals as goal

pub returns-in-Resource-clause-answers : goal.returns-in-Resource-clause-answers
returns-in-Resource-clause-answers g c = λ clean open_before s at.
    Readies-same s (reading c.in-Resource.what) (http_request_entry c.args.asked) c.answer_reading.result c.answer_reading.new.office.closed (state g.S.Store c.answer_reading.new.office.held)
    (ap http_request_entry (sym c.in-Resource.is)) (c.answer_reading.ensures.answers clean open_before s at)

pub returns-clause-answers : goal.returns-clause-answers
returns-clause-answers g c = λ clean open_before s at.
    Readies-same s (public (public_entry c.in-Public.shown) c.in-Public.what) (http_request_entry c.args.asked) c.answer_public.result c.answer_public.new.office.closed
    (state g.S.Store c.answer_public.new.office.held) (ap http_request_entry (sym c.in-Public.is)) (c.answer_public.ensures.answers clean open_before s at)
