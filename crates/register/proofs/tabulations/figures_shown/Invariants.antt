-- The invariant of the loop in `figures_shown`.
use Rattle.std.proofs.Common.{◌≡◌, ◌++◌, map, drop}
use Rattle.register.specs.Tabulated.{figure_entry, shown_of}
use Rattle.register.proofs.tabulations.figures_shown.Given as goal

abbrev pub invariant-loop-figure : goal.invariant-loop-figure
invariant-loop-figure l = l.figures.items ++ map shown_of (map figure_entry (drop l.figure-index l.tabulated)) ≡ map shown_of (map figure_entry l.tabulated)
