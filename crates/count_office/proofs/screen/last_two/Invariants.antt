-- The loop invariant of `last_two`: the last two of all bytes are the last two after the remaining ones.
use Rattle.std.proofs.Common.{◌≡◌, drop}
use Rattle.count_office.specs.Screens.{last_two}
use Rattle.count_office.proofs.screen.last_two.Given as goal

abbrev pub invariant-loop-i : goal.invariant-loop-i
invariant-loop-i l = last_two l.first l.second l.bytes ≡ last_two l.before l.last (drop l.i l.bytes)
