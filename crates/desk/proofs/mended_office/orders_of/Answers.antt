-- Proof that `orders_of` meets its contract.
use Rattle.std.proofs.Common.{inr, refl}
use Rattle.tables.specs.declared.fault.Fault.TheVariants.{Memory}
use Rattle.desk.specs.declared.lines.Failure.TheVariants.{Office}
use Rattle.desk.proofs.mended_office.orders_of.Goals as goal

-- the orders lead to the state of the rows
pub returns-in-Ok-true-clause-leads : goal.returns-in-Ok-true-clause-leads
returns-in-Ok-true-clause-leads g c clean blank =
    let lead = rw (c.in-Ok-true.is, c.in-Ok-true.field-0-test) at (c.leads_to-led.ensures.leads clean blank) in
    rw c.deref.ensures.value at (lead refl)

-- an allocation for the journal failed
pub returns-in-Err-clause-told : goal.returns-in-Err-clause-told
returns-in-Err-clause-told g c = inr (Office Memory, refl)

-- the orders couldn't be replayed
pub returns-in-Err-led-clause-told : goal.returns-in-Err-led-clause-told
returns-in-Err-led-clause-told g c = inr (Office c.in-Err-led.fault, refl)
