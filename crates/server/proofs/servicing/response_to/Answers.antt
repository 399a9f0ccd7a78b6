-- Proof that `response_to` meets its contract.
use Rattle.sqlite.specs.Held.{state}
use Rattle.connections.specs.Clients.{written_in}
use Rattle.wire.specs.Requests.{http_request_entry}
use Rattle.server.proofs.AnswerLemmas.{call_answers, call_only, call_read}
use Rattle.server.proofs.servicing.response_to.Goals as goal

pub returns-clause-answers : goal.returns-clause-answers
returns-clause-answers g c =
    let did = c.respond-served in
    call_answers (state g.S.Store) c.args.office.now did.new.office (http_request_entry c.args.asked) (written_in c.new-writer.result) (written_in did.new.writer) c.into_bytes.result.items did.result
    c.new-writer.ensures.bytes c.into_bytes.ensures did.ensures.served did.ensures.closed_served did.ensures.closed did.ensures.clean

pub returns-clause-read : goal.returns-clause-read
returns-clause-read g c = λ told.
    let did = c.respond-served in
    call_read (state g.S.Store) c.args.office.now did.new.office (http_request_entry c.args.asked) (written_in c.new-writer.result) (written_in did.new.writer) c.into_bytes.result.items did.result
    c.new-writer.ensures.bytes c.into_bytes.ensures (c.may_be_cached-is_cacheable.ensures told) did.ensures.served

pub returns-clause-only : goal.returns-clause-only
returns-clause-only g c = λ still.
    let did = c.respond-served in
    call_only (state g.S.Store) c.args.office.now did.new.office (http_request_entry c.args.asked) (written_in c.new-writer.result) (written_in did.new.writer) c.into_bytes.result.items did.result
    c.new-writer.ensures.bytes c.into_bytes.ensures did.ensures.served still
