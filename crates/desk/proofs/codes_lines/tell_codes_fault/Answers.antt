use Rattle.std.proofs.Common.{inl, inr, refl}
use Rattle.desk.proofs.codes_lines.tell_codes_fault.Goals as goal

pub returns-in-Ok : goal.returns-in-Ok
returns-in-Ok g c = inl (c.in-Ok.ensures.all, c.in-Ok.ensures.ok, refl)

pub returns-in-Err : goal.returns-in-Err
returns-in-Err g c = inr (c.in-Err.ensures.cut_off, c.in-Err.ensures.err, refl)
