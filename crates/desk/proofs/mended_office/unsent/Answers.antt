-- Proof that `unsent` meets its contract.
use Rattle.std.proofs.Common.{inl, inr, ap, refl}
use Rattle.desk.specs.Pages.{unmended}
use Rattle.desk.proofs.mended_office.unsent.Goals as goal

-- the text is the constant
pub returns-in-Ok : goal.returns-in-Ok
returns-in-Ok c = inl (ap unmended c.in-Ok.ensures.ok)

-- an allocation for it failed
pub returns-in-Err : goal.returns-in-Err
returns-in-Err c = inr refl
