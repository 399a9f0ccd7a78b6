-- The invariant of the loop in `figures_of`.
use Rattle.std.proofs.Common.{◌≡◌, ◌∷◌, map, take, reverse}
use Rattle.count.specs.Marks.{no_candidate, figure_of}
use Rattle.count.proofs.figures.figures_of.Given as goal

abbrev pub invariant-loop-c : goal.invariant-loop-c
invariant-loop-c l = l.figures.items ≡ record { candidate = no_candidate; units = l.newest.non_transferable; mark = 0 } ∷ map (figure_of l.newest (reverse l.stages)) (take l.c-index l.c-items)
