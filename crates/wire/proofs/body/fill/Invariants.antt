-- The loop invariant and the measure of `fill`.
use Rattle.std.proofs.Common.{◌≡◌, ◌≤◌, ◌-◌, length, take}
use Rattle.std.specs.Io.KnownBytes.{Consumes}
use Rattle.wire.proofs.body.fill.Given as goal

abbrev pub invariant-loop-filled : goal.invariant-loop-filled
invariant-loop-filled g l = record {
  room : length l.room ≡ length l.fn.room;
  within : l.filled ≤ length l.room;
  failed : g.R.Source.failed l.reader ≡ g.R.Source.failed l.fn.reader;
  consumed : Consumes (g.R.Source.held l.fn.reader) (g.R.Source.held l.reader) (take l.filled l.room);
}

abbrev pub decreases-loop-filled : goal.decreases-loop-filled
decreases-loop-filled g l = length l.room - l.filled
