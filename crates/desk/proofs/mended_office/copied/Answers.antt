-- Proof that `copied` meets its contract.
use Rattle.std.proofs.Common.{inl, inr, refl, sym, subst, ap, ◌∙◌, map, string_bytes}
use Rattle.sqlite.specs.Held.{state}
use Rattle.mending.specs.Mending.{mended}
use Rattle.desk.specs.Mends.{HoldsMended}
use Rattle.desk.specs.Pages.{failed, failure_of, printed}
use Rattle.desk.specs.declared.copying.CopyState.TheVariants.{Untouched}
use Rattle.desk.specs.declared.lines.Failure.TheVariants.{Office}
use Rattle.desk.proofs.CopyingLemmas.{unbegun_behind}
use Rattle.desk.proofs.MendLemmas.{mended_behind, unmade}
use Rattle.desk.proofs.mended_office.copied.Goals as goal

-- the new office couldn't be made, and nothing was written
pub returns-in-Err-clause-made : goal.returns-in-Err-clause-made
returns-in-Err-clause-made g c clean is_open at =
    unmade (map string_bytes c.args.before.now) c.args.changes (failed (Office c.in-Err.fault)) Untouched (state g.N.Store c.args.new.now) (inr (Office c.in-Err.fault, refl))

pub returns-in-Err-clause-whole : goal.returns-in-Err-clause-whole
returns-in-Err-clause-whole g c honest blank trees may = inl may

-- it was made, and copied
pub returns-in-Ok-copy_open-clause-made : goal.returns-in-Ok-copy_open-clause-made
returns-in-Ok-copy_open-clause-made g c clean is_open at =
    let told = c.in-Ok.ensures.mended (c.copy_open.ensures.reads.clean clean) is_open at in
    let kept = c.in-Ok-copy_open.ensures.copies clean told.1.is_open (mended c.args.changes).state told.1.at in
    record {
      told = inl (record { can = c.requires; list = c.report.ensures.list; told = ap printed told.0; whole = refl; at = λ honest blank. kept.0.same.1 honest blank });
      stops = λ honest blank. kept.0.stops honest blank;
    }

pub returns-in-Ok-copy_open-clause-clean : goal.returns-in-Ok-copy_open-clause-clean
returns-in-Ok-copy_open-clause-clean g c clean = c.report.ensures.clean (c.copy_open.ensures.reads.clean clean)

-- it was made, but not copied
pub returns-in-Err-copy_open-clause-made : goal.returns-in-Err-copy_open-clause-made
returns-in-Err-copy_open-clause-made g c clean is_open at =
    let told = c.in-Ok.ensures.mended (c.copy_open.ensures.reads.clean clean) is_open at in
    let kept = c.in-Err-copy_open.ensures.copies clean told.1.is_open (mended c.args.changes).state told.1.at in
    record { told = inr (inr (failure_of c.in-Err-copy_open.fault, refl)); stops = λ honest blank. kept.0.stops honest blank }

pub returns-in-Err-copy_open-clause-untouched : goal.returns-in-Err-copy_open-clause-untouched
returns-in-Err-copy_open-clause-untouched g c same = c.in-Err-copy_open.ensures.untouched (unbegun_behind c.in-Err-copy_open.fault (sym c.state_behind.ensures ∙ same))

pub returns-in-Err-copy_open-clause-clean : goal.returns-in-Err-copy_open-clause-clean
returns-in-Err-copy_open-clause-clean g c clean = c.report.ensures.clean (c.copy_open.ensures.reads.clean clean)

-- what is reported about the new database
pub returns-in-Ok-copy_open-clause-holds : goal.returns-in-Ok-copy_open-clause-holds
returns-in-Ok-copy_open-clause-holds g c =
    ((string_bytes c.in-Ok.text, refl), λ honest blank. let it = c.in-Ok-copy_open.ensures.made honest blank in (it.0, it.2))

pub returns-in-Err-copy_open-clause-holds : goal.returns-in-Err-copy_open-clause-holds
returns-in-Err-copy_open-clause-holds g c =
    let old = state g.N.Store c.args.new.now in
    let new = state g.N.Store c.copy_open.new.copy in
    let fault = c.in-Err-copy_open.fault in
    subst (λ left. HoldsMended left (failed (failure_of fault)) old new) (sym c.state_behind.ensures) (mended_behind fault old new)
