-- Proof that `serve_through` meets its contract: the gate is that of the settings, and so is the number of clients.
use Rattle.std.proofs.Common.{subst, ℕ}
use Rattle.std.specs.Prelude.{Option, option_map}
use Rattle.sqlite.specs.Held.{state}
use Rattle.connections.specs.Streams.{stream_of}
use Rattle.server.specs.RecordChanges.{served_view}
use Rattle.wire.specs.Gates.{GateEntry, public_entry}
use Rattle.wire.specs.Origins.{origin_setting}
use Rattle.count_office.specs.Serving.{ServesAtNetwork, settings_with}
use Rattle.count_office.proofs.serving.serve_through.Goals as goal

pub returns : goal.returns
returns g c =
    let settings = c.args.settings in
    let at = λ (gate : Option GateEntry) (most : Option ℕ). ServesAtNetwork
    (settings_with (origin_setting settings.serving.origin) gate (option_map public_entry settings.public) settings.file (g.A.ServedFile.whole c.args.served_file.now)
    (g.R.Recorder.records c.args.recorder))
    (stream_of g.D.Stream.Stream.held g.D.Stream.Stream.taken g.D.Stream.Stream.failed) (served_view (state g.S.Store) g.R.Recorder.found g.R.Recorder.failed)
    (g.D.Network.known c.args.network.now) (g.D.Network.known c.serve_recorded.new.network) most
    c.args.office.now c.serve_recorded.new.office c.args.recorder c.serve_recorded.result.0 c.serve_recorded.result.1 in
    let served = c.serve_recorded.ensures in
    subst (λ (gate : Option GateEntry). at gate settings.serving.connections) c.gate_of.ensures
    (subst (at _) c.most_of-most.ensures (record { serves = served.served; ended = served.ended; closed = served.closed; clean = served.clean }))
