use Rattle.register.proofs.WorkedRows.{ward_rows, nomination_rows, keyed_rows, third_rows, uncontested_rows, repeat_rows}
use Rattle.register.proofs.machine.rows_are_worked.Goals as goal

pub returns-clause-wards : goal.returns-clause-wards
returns-clause-wards c = ward_rows

pub returns-clause-nominations : goal.returns-clause-nominations
returns-clause-nominations c = nomination_rows

pub returns-clause-keyings : goal.returns-clause-keyings
returns-clause-keyings c = keyed_rows

pub returns-clause-third : goal.returns-clause-third
returns-clause-third c = third_rows

pub returns-clause-uncontested : goal.returns-clause-uncontested
returns-clause-uncontested c = uncontested_rows

pub returns-clause-repeats : goal.returns-clause-repeats
returns-clause-repeats c = repeat_rows
