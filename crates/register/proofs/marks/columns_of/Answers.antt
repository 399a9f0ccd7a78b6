use Rattle.register.proofs.WardColumnLemmas.{columns_are}
use Rattle.register.proofs.marks.columns_of.Goals as goal

pub returns-clause-of_a_ward : goal.returns-clause-of_a_ward
returns-clause-of_a_ward c = columns_are
