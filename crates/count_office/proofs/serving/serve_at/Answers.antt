-- Proof that `serve_at` meets its contract if the network was opened.
use Rattle.std.proofs.Common.{◌∙◌, option_map, subst, sym}
use Rattle.std.specs.Prelude.{Result}
use Rattle.sqlite.specs.Held.{state}
use Rattle.connections.specs.Streams.{stream_of}
use Rattle.server.specs.RecordChanges.{served_view}
use Rattle.wire.specs.Gates.{public_entry}
use Rattle.desk.specs.declared.lines.Failure.{Failure}
use Rattle.count_office.specs.Serving.{MayServe}
use Rattle.count_office.proofs.ServingLemmas.{IsGivenBy, served_on}
use Rattle.count_office.proofs.serving.serve_at.Goals as goal

pub returns : goal.returns
returns g c =
    let serving = c.args.given.serving in
    let gate_files = c.args.given.gate_files.now in
    let line = stream_of g.H.Sockets.Stream.Stream.held g.H.Sockets.Stream.Stream.taken g.H.Sockets.Stream.Stream.failed in
    let view = served_view (state g.S.Store) g.R.Recorder.found g.R.Recorder.failed in
    let recorded = g.R.Recorder.records c.args.recorder in
    let known = g.H.Host.known in
    let found = c.in-Ok-open in
    let through = c.serve_through-ended in
    subst (λ (outcome : Result (Unit {0}) Failure). MayServe (IsGivenBy serving gate_files (g.H.Host.file c.args.host.now) recorded) line view serving.port
    (known c.args.host.now) (known c.close.new.self) serving.connections c.args.office.now through.new.office c.args.recorder outcome through.result.1) (sym c.outcome_of.ensures)
    (served_on serving gate_files (option_map public_entry c.public_of.result)
    (g.H.Host.file c.args.host.now) found.opened.file (g.H.OfficeFile.ServedFile.whole found.opened.served_file) recorded line
    view (known c.args.host.now) (known c.open.new.self) (known c.close.new.self)
    (g.H.Sockets.Network.known found.opened.network) (g.H.Sockets.Network.known through.new.network) c.args.office.now through.new.office c.args.recorder through.result.0 through.result.1
    found.ensures.same found.ensures.known c.close.ensures.known c.close.ensures.others found.ensures.file (c.public_of.ensures ∙ c.in-Ok.ensures) through.ensures)
