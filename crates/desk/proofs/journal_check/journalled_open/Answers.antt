-- Proof that `journalled_open` meets its contract.
use Rattle.std.proofs.Common.{inr, ap, refl, subst}
use Rattle.register.specs.Offices.{OfficeState}
use Rattle.tables.specs.declared.fault.Fault.TheVariants.{Closed}
use Rattle.desk.specs.Journals.{IsJournalTold}
use Rattle.desk.specs.Pages.{failed, page_of}
use Rattle.desk.specs.declared.lines.Failure.TheVariants.{Office}
use Rattle.desk.proofs.CauseLemmas.{told_fault, told_one}
use Rattle.desk.proofs.journal_check.journalled_open.Goals as goal

-- the rows that were read are those of a state
pub journal_of-requires : goal.journal_of-requires
journal_of-requires g c = c.in-Ok.ensures.rise

pub returns-in-Ok-clause-told : goal.returns-in-Ok-clause-told
returns-in-Ok-clause-told g c clean was s at =
    let it = c.in-Ok.ensures.kept clean was s at in
    ((λ also blank. subst (λ (x : OfficeState). IsJournalTold x (page_of c.journal_of.result.0)) it.0 (c.journal_of.ensures also blank)), it.2)

pub returns-in-Ok-clause-closed : goal.returns-in-Ok-clause-closed
returns-in-Ok-clause-closed g c was = absurd (told_one c.rows_open.result c.in-Ok.is (c.rows_open.ensures.closed was).0)

pub returns-in-Err-clause-told : goal.returns-in-Err-clause-told
returns-in-Err-clause-told g c clean was s at =
    let it = c.in-Err.ensures.kept clean was s at in
    ((λ also blank. inr (inr (c.in-Err.fault, refl, it.1))), it.2)

pub returns-in-Err-clause-closed : goal.returns-in-Err-clause-closed
returns-in-Err-clause-closed g c was =
    let told = c.rows_open.ensures.closed was in
    (ap (λ why. failed (Office why)) (told_fault c.in-Err.fault Closed c.rows_open.result c.in-Err.is told.0), told.1)
