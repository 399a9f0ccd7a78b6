-- Proof that `serve` meets its contract, once the office was opened.
use Rattle.std.proofs.Common.{◌≡◌, inr, subst, sym}
use Rattle.sqlite.specs.Held.{state}
use Rattle.connections.specs.Streams.{stream_of}
use Rattle.server.specs.RecordChanges.{served_view}
use Rattle.desk.specs.Pages.{IsErrorTold}
use Rattle.count_office.specs.Serving.{ServesOrder}
use Rattle.count_office.proofs.ServingLemmas.{shut_or_served}
use Rattle.count_office.proofs.serving.serve.Goals as goal

pub returns : goal.returns
returns g c =
    let tells = IsErrorTold g.E.Sink.taken g.E.Sink.failed c.args.err.now c.tell_outcome-status.new.err in
    let quiet = c.tell_outcome-status.new.err ≡ c.args.err.now in
    let line = stream_of g.H.Sockets.Stream.Stream.held g.H.Sockets.Stream.Stream.taken g.H.Sockets.Stream.Stream.failed in
    let view = served_view (state g.S.Store) g.R.Recorder.found g.R.Recorder.failed in
    let recorded = g.R.Recorder.records c.args.recorder in
    let served = c.serve_at-outcome in
    let opened = c.in-Ok-open_from in
    subst
    (λ conn. ServesOrder tells quiet c.tell_outcome-status.result c.args.serving (g.H.Host.codes_at c.args.host.now) (g.H.Host.file c.args.host.now) recorded line view
    (g.H.Host.known c.args.host.now) (g.H.Host.known served.new.host) c.args.conn conn c.args.recorder served.result.1)
    (sym c.into_connection.ensures)
    (inr (shut_or_served tells quiet c.tell_outcome-status.result c.args.serving (g.H.Host.codes_at c.args.host.now) c.in-Ok.gate_files (g.H.Host.file c.args.host.now) recorded line view
    (g.H.Host.known c.args.host.now) (g.H.Host.known served.new.host) c.args.conn opened.office served.new.office c.args.recorder served.result.0 served.result.1
    (record { is_open = opened.ensures.is_open; reads = opened.ensures.reads; at = opened.ensures.reopens }) c.in-Ok.ensures.gate served.ensures c.tell_outcome-status.ensures))
