-- Proof that `made` meets its contract.
use Rattle.std.proofs.Common.{inl, inr, refl, subst, map, string_bytes}
use Rattle.sqlite.specs.Held.{state}
use Rattle.sqlite.specs.State.{HasCleanDisk}
use Rattle.desk.specs.Pages.{failed}
use Rattle.desk.specs.declared.copying.CopyState.TheVariants.{Untouched}
use Rattle.desk.specs.declared.lines.Failure.TheVariants.{Office}
use Rattle.desk.proofs.MendLemmas.{unmade}
use Rattle.desk.proofs.mended_office.made.Goals as goal

-- the empty office was created
pub returns-in-Ok-clause-made : goal.returns-in-Ok-clause-made
returns-in-Ok-clause-made g c clean blank =
    let ended = subst (λ conn. HasCleanDisk (state g.T.Store conn)) c.into_connection.ensures clean in
    let begun = c.in-Ok.ensures.made (c.copied-outcome.ensures.clean ended) blank in
    c.copied-outcome.ensures.made ended begun.is_open begun.at

-- it couldn't be created, and nothing was written
pub returns-in-Err-clause-made : goal.returns-in-Err-clause-made
returns-in-Err-clause-made g c clean blank =
    unmade (map string_bytes c.args.before.now) c.args.changes (failed (Office c.in-Err.fault)) Untouched (state g.N.Store c.args.new.now) (inr (Office c.in-Err.fault, refl))

pub returns-in-Err-clause-whole : goal.returns-in-Err-clause-whole
returns-in-Err-clause-whole g c honest blank trees may = inl may
