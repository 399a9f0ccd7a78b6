-- Proof that `ward_status_of` meets its contract if an allocation for the words failed.
use Rattle.std.proofs.Common.{inl, inr, refl}
use Rattle.tables.specs.declared.fault.Fault.TheVariants.{Memory}
use Rattle.desk.proofs.ward_status.ward_status_of.Goals as goal

pub returns-in-Err-clause-found : goal.returns-in-Err-clause-found
returns-in-Err-clause-found g c = λ clean is_open s at. inr (Memory, refl, (inl refl, inl (record { memory = refl; open_at = (c.in-Ok.ensures.reads clean is_open s at).1 })))
