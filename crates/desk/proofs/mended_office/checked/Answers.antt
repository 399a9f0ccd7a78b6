-- Proof that `checked` meets its contract.
use Rattle.std.proofs.Common.{inl, inr, refl, ap, map, string_bytes}
use Rattle.sqlite.specs.Held.{state}
use Rattle.tables.specs.declared.fault.Fault.TheVariants.{Memory}
use Rattle.desk.specs.Pages.{failed, unmended}
use Rattle.desk.specs.declared.copying.CopyState.TheVariants.{Untouched}
use Rattle.desk.specs.declared.lines.Failure.TheVariants.{Office}
use Rattle.desk.proofs.MendLemmas.{unmade}
use Rattle.desk.proofs.mended_office.checked.Goals as goal

-- the changes can be made
pub made-requires : goal.made-requires
made-requires g c = rw c.in-Ok-None.field-0-is at c.in-Ok-None.ensures.none

-- they can't be made, and nothing was written
pub returns-in-Ok-clause-made : goal.returns-in-Ok-clause-made
returns-in-Ok-clause-made g c clean blank =
    unmade (map string_bytes c.args.before.now) c.args.changes (unmended (string_bytes c.in-Ok.text)) Untouched (state g.N.Store c.args.new.now)
    (inl (c.in-Ok-Some.flaw, rw c.in-Ok-Some.field-0-is at c.in-Ok-Some.ensures.some, ap unmended c.in-Ok.ensures))

pub returns-in-Ok-clause-whole : goal.returns-in-Ok-clause-whole
returns-in-Ok-clause-whole g c honest blank trees may = inl may

-- an allocation failed
pub returns-in-Ok-Some-clause-made : goal.returns-in-Ok-Some-clause-made
returns-in-Ok-Some-clause-made g c clean blank =
    unmade (map string_bytes c.args.before.now) c.args.changes (failed (Office Memory)) Untouched (state g.N.Store c.args.new.now) (inr (Office Memory, refl))

pub returns-in-Ok-Some-clause-whole : goal.returns-in-Ok-Some-clause-whole
returns-in-Ok-Some-clause-whole g c honest blank trees may = inl may

pub returns-clause-made : goal.returns-clause-made
returns-clause-made g c clean blank =
    unmade (map string_bytes c.args.before.now) c.args.changes (failed (Office Memory)) Untouched (state g.N.Store c.args.new.now) (inr (Office Memory, refl))

pub returns-clause-whole : goal.returns-clause-whole
returns-clause-whole g c honest blank trees may = inl may
