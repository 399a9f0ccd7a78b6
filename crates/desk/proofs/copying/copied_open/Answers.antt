-- Proof that `copied_open` meets its contract.
use Rattle.std.proofs.Common.{inl, inr, refl, sym, ap, subst, ◌∙◌}
use Rattle.sqlite.specs.Held.{state}
use Rattle.tables.specs.declared.fault.Fault.TheVariants.{Memory, Closed}
use Rattle.tables.specs.Reading.{OnlyReads}
use Rattle.tables.proofs.ReadLemmas.{only_reads_itself}
use Rattle.store.specs.declared.copying.CopyFault.TheVariants as uncopied
use Rattle.desk.specs.Copying.{HoldsCopy, copied_text}
use Rattle.desk.specs.Pages.{failed, failure_of, replied}
use Rattle.desk.specs.declared.lines.Failure.TheVariants.{Office}
use Rattle.desk.proofs.CauseLemmas.{told_fault, told_one}
use Rattle.desk.proofs.CopyingLemmas.{ends_copying, holds_behind, unbegun_behind}
use Rattle.desk.proofs.copying.copied_open.Goals as goal

pub returns-in-Ok-copied_text-clause-copied : goal.returns-in-Ok-copied_text-clause-copied
returns-in-Ok-copied_text-clause-copied g c clean was s at =
    let it = c.in-Ok.ensures.copies clean was s at in
    (inl (ap replied (c.in-Ok-copied_text.ensures ∙ ap copied_text it.0.same.0), refl, λ honest blank. it.0.same.1 honest blank), it.1)

pub returns-in-Ok-copied_text-clause-holds : goal.returns-in-Ok-copied_text-clause-holds
returns-in-Ok-copied_text-clause-holds g c = (c.in-Ok.holdings, ap replied c.in-Ok-copied_text.ensures, λ honest blank. c.in-Ok.ensures.made honest blank)

pub returns-in-Ok-copied_text-clause-closed : goal.returns-in-Ok-copied_text-clause-closed
returns-in-Ok-copied_text-clause-closed g c was = absurd (told_one c.copy_open.result c.in-Ok.is (c.copy_open.ensures.closed was).0)

pub returns-in-Err-copied_text-clause-copied : goal.returns-in-Err-copied_text-clause-copied
returns-in-Err-copied_text-clause-copied g c clean was s at =
    let it = c.in-Ok.ensures.copies clean was s at in
    (inr (Office Memory, refl, λ opened blank. inl refl, λ honest blank. it.0.stops honest blank), it.1)

pub returns-in-Err-copied_text-clause-holds : goal.returns-in-Err-copied_text-clause-holds
returns-in-Err-copied_text-clause-holds g c = (Office Memory, refl, λ honest blank. c.copy_open.ensures.whole honest blank)

pub returns-in-Err-copied_text-clause-closed : goal.returns-in-Err-copied_text-clause-closed
returns-in-Err-copied_text-clause-closed g c was = absurd (told_one c.copy_open.result c.in-Ok.is (c.copy_open.ensures.closed was).0)

pub returns-in-Err-clause-copied : goal.returns-in-Err-clause-copied
returns-in-Err-clause-copied g c clean was s at =
    let it = c.in-Err.ensures.copies clean was s at in
    let old = state g.S.Store c.args.office.now.held in
    let new = state g.S.Store c.copy_open.new.self.held in
    (inr (failure_of c.in-Err.fault, refl, λ opened blank. ends_copying c.in-Err.fault old new (c.in-Err.ensures.cause clean was s at opened blank), λ honest blank. it.0.stops honest blank), it.1)

pub returns-in-Err-clause-holds : goal.returns-in-Err-clause-holds
returns-in-Err-clause-holds g c =
    let copy_old = state g.T.Store c.args.copy.now in
    let copy_new = state g.T.Store c.copy_open.new.copy in
    let kept = holds_behind c.in-Err.fault copy_old copy_new
    (λ unbegun. subst (λ conn. OnlyReads copy_old (state g.T.Store conn)) (sym (c.in-Err.ensures.untouched unbegun)) (only_reads_itself copy_old))
    (λ honest blank. c.copy_open.ensures.whole honest blank) in
    subst (λ known. HoldsCopy known (failed (failure_of c.in-Err.fault)) copy_old copy_new) (sym c.state_behind.ensures) kept

pub returns-in-Err-clause-untouched : goal.returns-in-Err-clause-untouched
returns-in-Err-clause-untouched g c same = c.in-Err.ensures.untouched (unbegun_behind c.in-Err.fault (sym c.state_behind.ensures ∙ same))

pub returns-in-Err-clause-closed : goal.returns-in-Err-clause-closed
returns-in-Err-clause-closed g c was =
    let told = c.copy_open.ensures.closed was in
    (ap (λ why. failed (failure_of why)) (told_fault c.in-Err.fault (uncopied.Office Closed) c.copy_open.result c.in-Err.is told.0), told.1)
