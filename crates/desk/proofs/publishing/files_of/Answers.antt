-- Proof that `files_of` reports a failed allocation.
use Rattle.std.proofs.Common.{inl, refl}
use Rattle.tables.specs.declared.fault.Fault.TheVariants.{Memory}
use Rattle.desk.specs.declared.lines.Failure.TheVariants.{Office}
use Rattle.desk.proofs.publishing.files_of.Goals as goal

pub returns-in-Err-clause-err : goal.returns-in-Err-clause-err
returns-in-Err-clause-err c = (Office Memory, refl, inl refl)
