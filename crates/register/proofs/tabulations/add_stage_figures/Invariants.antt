-- The invariant of the loop in `add_stage_figures`.
use Rattle.std.proofs.Common.{◌≡◌, ◌++◌, map, drop}
use Rattle.register.specs.Tabulated.{figure_entry, figure_at}
use Rattle.register.proofs.tabulations.add_stage_figures.Given as goal

abbrev pub invariant-loop-figure : goal.invariant-loop-figure
invariant-loop-figure l = map figure_entry l.to.items ++ map (figure_at l.ward l.stage) (drop l.figure-index l.figures) ≡ map figure_entry l.fn.to.items ++ map (figure_at l.ward l.stage) l.figures
