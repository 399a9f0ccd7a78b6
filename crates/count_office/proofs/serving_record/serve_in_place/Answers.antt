-- Proof that `serve_in_place` meets its contract if there is no second record.
use Rattle.std.proofs.Common.{◌≡◌, List, ℕ, subst, sym}
use Rattle.std.specs.Borrow.{Bor}
use Rattle.std.specs.Prelude.{Option}
use Rattle.sqlite.specs.Held.{state}
use Rattle.connections.specs.Streams.{stream_of}
use Rattle.desk.specs.Pages.{IsErrorTold}
use Rattle.count_office.specs.Serving.{ServesWith}
use Rattle.count_office.proofs.serving_record.serve_in_place.Goals as goal

pub returns-in-None : goal.returns-in-None
returns-in-None g c =
    subst
    (λ (second : Option (Bor (List ℕ))). ServesWith second (IsErrorTold g.E.Sink.taken g.E.Sink.failed c.args.err.now c.serve-status.new.err) (c.serve-status.new.err ≡ c.args.err.now)
    c.serve-status.result.0 c.args.serving (g.H.Host.codes_at c.args.host.now) (g.H.Host.file c.args.host.now)
    (stream_of g.H.Sockets.Stream.Stream.held g.H.Sockets.Stream.Stream.taken g.H.Sockets.Stream.Stream.failed) (state g.S.Store) (g.H.Host.known c.args.host.now)
    (g.H.Host.known c.serve-status.new.host) c.args.conn c.serve-status.result.1)
    (sym c.in-None.is) c.serve-status.ensures
