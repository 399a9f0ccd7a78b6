-- The loop invariant and the measure of `read_head`.
use Rattle.std.proofs.Common.{◌≡◌, ◌≤◌, ◌-◌, length, take}
use Rattle.std.specs.Io.KnownBytes.{Consumes}
use Rattle.wire.proofs.head.read_head.Given as goal

abbrev pub invariant-reading : goal.invariant-reading
invariant-reading g l = record {
  room : length l.buffer ≡ 8192;
  filled : l.filled ≤ 8192;
  places : length l.headers ≡ 32;
  failed : g.R.Source.failed l.reader ≡ g.R.Source.failed l.fn.reader;
  consumed : Consumes (g.R.Source.held l.fn.reader) (g.R.Source.held l.reader) (take l.filled l.buffer);
}

abbrev pub decreases-reading : goal.decreases-reading
decreases-reading g l = 8192 - l.filled
