-- Proof that `add_figures` meets its contract.
use Rattle.std.proofs.Common.{rules, ◌≡◌, ◌+◌, map, take, reverse}
use Rattle.count.specs.Marks.{figures_at}
use Rattle.register.specs.Tabulated.{figure_entry}
use Rattle.register.proofs.AddedLemmas.{figures_more}
use Rattle.register.proofs.tabulations.add_figures.Goals as goal

pub loop-done-preserved : goal.loop-done-preserved
loop-done-preserved c =
    let number : c.in-Ok.stage ≡ c.loop-done.done + 1 = search rules in
    let shown : c.deref.result.now ≡ figures_at c.args.candidates.now (reverse (take (c.loop-done.done + 1) c.args.stages.now)) = search rules in
    figures_more c.args.ward c.args.candidates.now c.args.stages.now c.loop-done.done c.in-Ok.stage c.deref.result.now (map figure_entry c.args.to.now.items)
    (map figure_entry c.loop-done.to.items) (map figure_entry c.add_stage_figures.new.to.items) c.loop-done-test.true
    number shown c.loop-done.invariant c.in_ok-add_stage_figures.ensures
