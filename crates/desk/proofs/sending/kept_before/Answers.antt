-- Proof that `kept_before` meets its contract.
use Rattle.std.proofs.Common.{◌∙◌, ap, inl, inr, refl, Ok}
use Rattle.tables.specs.declared.fault.Fault.TheVariants.{Memory}
use Rattle.desk.proofs.NoteLemmas.{note_told}
use Rattle.desk.proofs.sending.kept_before.Goals as goal

pub returns-in-Ok-clause-found : goal.returns-in-Ok-clause-found
returns-in-Ok-clause-found g c = λ clean is_open s at.
    let read = c.in-Ok-true.ensures.reads clean is_open s at in
    inl (note_told _ _ _ _ c.in-Ok.ensures.cases (read.0 ∙ ap Ok c.in-Ok-true.field-0-test), read.1)

pub returns-in-Ok-true-clause-found : goal.returns-in-Ok-true-clause-found
returns-in-Ok-true-clause-found g c = λ clean is_open s at.
    let read = c.in-Ok-true.ensures.reads clean is_open s at in
    inr (Memory, refl, (inl refl, inl (record { memory = refl; open_at = read.1 })))
