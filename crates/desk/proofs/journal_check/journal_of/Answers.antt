-- Proof that `journal_of` meets its contract.
use Rattle.std.proofs.Common.{inl, inr, refl}
use Rattle.std.specs.Prelude.{string_bytes}
use Rattle.tables.specs.declared.fault.Fault.TheVariants.{Memory}
use Rattle.desk.proofs.journal_check.journal_of.Goals as goal

-- it was read back, and its requests lead to the state of the rows
pub returns-in-Ok-true : goal.returns-in-Ok-true
returns-in-Ok-true g c clean blank =
    let script = rw c.in-Some.is at c.in-Ok.ensures.some in
    let lead = rw (c.in-Ok-true.is, c.in-Ok-true.field-0-test) at (c.leads_to-led.ensures.leads clean blank) in
    inl (string_bytes c.in-Ok.draft.text, refl, (c.in-Some.requests.items, script, rw c.deref.ensures.value at (lead refl)))

-- an allocation for its text failed
pub returns-in-Err : goal.returns-in-Err
returns-in-Err g c clean blank = inr (inr (Memory, refl, inl refl))
