-- Proof that `journal_open` meets its contract.
use Rattle.desk.specs.Pages.{page_of}
use Rattle.desk.proofs.journal_check.journal_open.Goals as goal

pub returns-clause-journalled : goal.returns-clause-journalled
returns-clause-journalled g c =
    let told = c.tell.ensures in
    let made = c.journalled_open-outcome.ensures in
    record {
      page = page_of c.journalled_open-outcome.result.0;
      cut = told.0;
      shown = told.1;
      is = ((λ clean was s at. (made.told clean was s at).0), (λ was. (made.closed was).0));
    }

pub returns-clause-stays : goal.returns-clause-stays
returns-clause-stays g c clean was s at = (c.journalled_open-outcome.ensures.told clean was s at).1

pub returns-clause-closed : goal.returns-clause-closed
returns-clause-closed g c was = (c.journalled_open-outcome.ensures.closed was).1
