-- Proof that `journal_office` meets its contract.
use Rattle.desk.specs.Pages.{page_of}
use Rattle.desk.proofs.journal_check.journal_office.Goals as goal

pub returns-clause-journalled : goal.returns-clause-journalled
returns-clause-journalled g c =
    let told = c.tell.ensures in
    record {
      page = page_of c.journalled-outcome.result.0;
      cut = told.0;
      shown = told.1;
      is = λ clean. c.journalled-outcome.ensures.told clean;
    }
