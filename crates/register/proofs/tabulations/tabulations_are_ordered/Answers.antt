-- Proof that `tabulations_are_ordered` meets its contract.
use Rattle.register.proofs.TabulatedLemmas.{tabulation_rises, bundles_of_ward, figures_of_ward}
use Rattle.register.proofs.CountReadBackLemmas.{counted_at}
use Rattle.register.proofs.TabulatedRows.{worked_tabulation}
use Rattle.register.proofs.tabulations.tabulations_are_ordered.Goals as goal

pub returns-clause-rise : goal.returns-clause-rise
returns-clause-rise c = tabulation_rises

pub returns-clause-bundles : goal.returns-clause-bundles
returns-clause-bundles c = bundles_of_ward

pub returns-clause-figures : goal.returns-clause-figures
returns-clause-figures c = figures_of_ward

pub returns-clause-counted : goal.returns-clause-counted
returns-clause-counted c = counted_at

pub returns-clause-worked : goal.returns-clause-worked
returns-clause-worked c = worked_tabulation
