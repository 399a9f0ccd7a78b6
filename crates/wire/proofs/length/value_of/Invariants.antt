-- The loop invariant of `value_of`.
use Rattle.std.proofs.Common.{◌≡◌, map, take}
use Rattle.httparse.specs.Spans.{header_bytes}
use Rattle.wire.specs.Lengths.{value_listed, values_of}
use Rattle.wire.proofs.length.value_of.Given as goal

abbrev pub invariant-loop-header : goal.invariant-loop-header
invariant-loop-header l = values_of l.name (map (header_bytes l.buffer) (take l.header-index l.headers)) ≡ value_listed l.found
