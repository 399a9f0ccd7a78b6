-- Proof that `number_of` meets its contract.
use Rattle.std.proofs.Common.{refl, ap, Some}
use Rattle.desk.proofs.NumbersRead.{fitting_is_number, unfitting_is_none}
use Rattle.desk.proofs.order_meanings.number_of.Goals as goal

pub returns-in-Ok : goal.returns-in-Ok
returns-in-Ok c = rw (fitting_is_number c.args.text.now c.in-Ok.ensures.value.0.0) (ap Some c.in-Ok.ensures.value.0.1)

pub returns-in-Err : goal.returns-in-Err
returns-in-Err c = rw (unfitting_is_none c.args.text.now c.in-Err.ensures.value.0) refl
