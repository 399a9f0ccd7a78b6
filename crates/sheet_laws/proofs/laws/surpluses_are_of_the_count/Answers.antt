-- Proof that `surpluses_are_of_the_count` meets its contract.
use Rattle.sheet_laws.proofs.FigureLemmas.{figures_accounted}
use Rattle.sheet_laws.proofs.GroupLemmas.{all_papers, transfer_values}
use Rattle.sheet_laws.proofs.OnlyLemmas.{only_groups}
use Rattle.sheet_laws.proofs.StageLemmas.{of_each_surplus}
use Rattle.sheet_laws.proofs.laws.surpluses_are_of_the_count.Goals as goal

pub returns-clause-stages : goal.returns-clause-stages
returns-clause-stages c = of_each_surplus

pub returns-clause-papers : goal.returns-clause-papers
returns-clause-papers c = all_papers

pub returns-clause-values : goal.returns-clause-values
returns-clause-values c = transfer_values

pub returns-clause-only : goal.returns-clause-only
returns-clause-only c = only_groups

pub returns-clause-figures : goal.returns-clause-figures
returns-clause-figures c = figures_accounted
