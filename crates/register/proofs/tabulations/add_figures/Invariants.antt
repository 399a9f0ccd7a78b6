-- The invariant of the loop in `add_figures`.
use Rattle.std.proofs.Common.{◌≡◌, ◌++◌, map, take, reverse}
use Rattle.register.specs.Tabulated.{figure_entry, figures_to}
use Rattle.register.proofs.tabulations.add_figures.Given as goal

abbrev pub invariant-loop-done : goal.invariant-loop-done
invariant-loop-done l = map figure_entry l.to.items ≡ map figure_entry l.fn.to.items ++ figures_to l.ward l.candidates (reverse (take l.done l.stages))
