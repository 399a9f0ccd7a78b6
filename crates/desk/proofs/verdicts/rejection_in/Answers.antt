use Rattle.std.proofs.Common.{refl, ap, Some}
use Rattle.desk.specs.Verdicts.{rejected}
use Rattle.desk.proofs.NumbersRead.{fitting_is_number, unfitting_is_none}
use Rattle.desk.proofs.verdicts.rejection_in.Goals as goal

pub returns-in-Ok : goal.returns-in-Ok
returns-in-Ok c = rw (fitting_is_number c.args.code.now c.in-Ok.ensures.value.0.0) (ap (λ n. Some (rejected n)) c.in-Ok.ensures.value.0.1)

pub returns-in-Err : goal.returns-in-Err
returns-in-Err c = rw (unfitting_is_none c.args.code.now c.in-Err.ensures.value.0) refl
