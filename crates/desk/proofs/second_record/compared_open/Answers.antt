-- Proof that `compared_open` meets its contract.
use Rattle.std.proofs.Common.{inr, refl, subst}
use Rattle.register.specs.Offices.{OfficeState}
use Rattle.desk.specs.Pages.{page_of}
use Rattle.desk.specs.Seconds.{IsCompared}
use Rattle.desk.proofs.second_record.compared_open.Goals as goal

-- the rows that were read are those of a state
pub compared-requires : goal.compared-requires
compared-requires g c = c.in-Ok.ensures.rise

pub returns-in-Ok-clause-told : goal.returns-in-Ok-clause-told
returns-in-Ok-clause-told g c clean was s at same other blank also =
    let it = c.in-Ok.ensures.kept clean was s at in
    subst (λ (x : OfficeState). IsCompared x c.args.path.now c.args.requests.items (page_of c.compared.result.0)) it.0 (c.compared.ensures same other blank also)

pub returns-in-Ok-clause-stays : goal.returns-in-Ok-clause-stays
returns-in-Ok-clause-stays g c clean was s at = (c.in-Ok.ensures.kept clean was s at).2

pub returns-in-Err-clause-told : goal.returns-in-Err-clause-told
returns-in-Err-clause-told g c clean was s at same other blank also =
    let it = c.in-Err.ensures.kept clean was s at in
    inr (inr (c.in-Err.fault, refl, it.1))

pub returns-in-Err-clause-stays : goal.returns-in-Err-clause-stays
returns-in-Err-clause-stays g c clean was s at = (c.in-Err.ensures.kept clean was s at).2
