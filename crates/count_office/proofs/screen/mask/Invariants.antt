-- The loop invariant of `mask`: the bytes read so far are masked, and the remaining ones follow them.
use Rattle.std.proofs.Common.{◌≡◌, ◌++◌, length, take, drop}
use Rattle.count_office.specs.Screens.{masked}
use Rattle.count_office.proofs.screen.mask.Given as goal

abbrev pub invariant-loop-i : goal.invariant-loop-i
invariant-loop-i l = record {
  size : length l.room ≡ 512;
  so_far : masked l.first l.second l.bytes ≡ take l.i l.room ++ masked l.before l.last (drop l.i l.bytes);
}
