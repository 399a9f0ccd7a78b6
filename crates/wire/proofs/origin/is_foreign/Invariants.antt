-- The loop invariant of `is_foreign`.
use Rattle.std.proofs.Common.{◌≡◌, drop, map}
use Rattle.httparse.specs.Spans.{header_bytes}
use Rattle.wire.specs.Origins.{origin_setting, is_foreign}
use Rattle.wire.proofs.origin.is_foreign.Given as goal

abbrev pub invariant-loop-header : goal.invariant-loop-header
invariant-loop-header l =
    is_foreign (origin_setting l.given) (map (header_bytes l.buffer) (drop l.header-index l.headers)) ≡ is_foreign (origin_setting l.given) (map (header_bytes l.buffer) l.headers)
