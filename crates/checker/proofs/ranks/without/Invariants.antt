-- The invariant of the loop in `without`: the candidates so far, followed by the remaining ones who haven't withdrawn, are all candidates who haven't.
use Rattle.std.proofs.Common.{◌≡◌, ◌++◌, drop}
use Rattle.checker.specs.Ranks.{without}
use Rattle.checker.proofs.ranks.without.Given as goal

abbrev pub invariant-loop-c : goal.invariant-loop-c
invariant-loop-c l = l.list.items ++ without l.withdrawn (drop l.c-index l.named) ≡ without l.withdrawn l.named
