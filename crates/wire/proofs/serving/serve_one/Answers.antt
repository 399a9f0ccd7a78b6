-- Proof that `serve_one` meets its contract.
use Rattle.sqlite.specs.Held.{state}
use Rattle.wire.specs.Requests.{http_request_entry}
use Rattle.wire.specs.Gates.{settings_entry}
use Rattle.wire.proofs.ServingLemmas.{OnAnswered-both, OnWriteFailed-both, ServesClosed-asked, ServesClosed-memory, Serves-asked, Serves-memory, unread}
use Rattle.wire.proofs.serving.serve_one.Goals as goal

pub returns-in-Ok-clause-served : goal.returns-in-Ok-clause-served
returns-in-Ok-clause-served g c = λ clean open_before s at.
    Serves-asked (settings_entry c.args.settings) (g.R.Source.held c.args.reader.now) (g.W.Sink.taken c.args.writer.now) (g.W.Sink.taken c.respond.new.writer) s
    (http_request_entry c.in-Ok.asked) c.respond.result
    c.respond.new.office.closed (state g.S.Store c.respond.new.office.held) c.in-Ok.ensures.asks (c.respond.ensures.served clean open_before s at)

pub returns-in-Ok-clause-read_failed : goal.returns-in-Ok-clause-read_failed
returns-in-Ok-clause-read_failed g c = unread c.respond.result _ c.respond.ensures.put

pub returns-in-Ok-clause-wanting : goal.returns-in-Ok-clause-wanting
returns-in-Ok-clause-wanting g c = unread c.respond.result _ c.respond.ensures.put

pub returns-in-Ok-clause-answered : goal.returns-in-Ok-clause-answered
returns-in-Ok-clause-answered g c = OnAnswered-both c.respond.result _ _ c.in-Ok.ensures.ok c.respond.ensures.answered

pub returns-in-Ok-clause-write_failed : goal.returns-in-Ok-clause-write_failed
returns-in-Ok-clause-write_failed g c = OnWriteFailed-both c.respond.result _ _ c.in-Ok.ensures.ok c.respond.ensures.write_failed

pub returns-in-Ok-clause-closed_served : goal.returns-in-Ok-clause-closed_served
returns-in-Ok-clause-closed_served g c = λ closed.
    ServesClosed-asked (settings_entry c.args.settings) (g.R.Source.held c.args.reader.now) (g.W.Sink.taken c.args.writer.now) (g.W.Sink.taken c.respond.new.writer)
    (http_request_entry c.in-Ok.asked) c.respond.result
    c.in-Ok.ensures.asks (c.respond.ensures.closed_served closed)

-- memory ran out for it
pub returns-in-Err-Memory-clause-served : goal.returns-in-Err-Memory-clause-served
returns-in-Err-Memory-clause-served g c = λ clean open_before s at.
    Serves-memory (settings_entry c.args.settings) (g.R.Source.held c.args.reader.now) (g.W.Sink.taken c.args.writer.now)
    (g.W.Sink.taken c.write_no_memory_response.new.writer) s c.write_no_memory_response.result c.args.office.now.closed
    (state g.S.Store c.args.office.now.held) (record { is_open = open_before; at = at }) c.write_no_memory_response.ensures.told

pub returns-in-Err-Memory-clause-closed_served : goal.returns-in-Err-Memory-clause-closed_served
returns-in-Err-Memory-clause-closed_served g c = λ closed.
    ServesClosed-memory (settings_entry c.args.settings) (g.R.Source.held c.args.reader.now) (g.W.Sink.taken c.args.writer.now)
    (g.W.Sink.taken c.write_no_memory_response.new.writer) c.write_no_memory_response.result c.write_no_memory_response.ensures.told
