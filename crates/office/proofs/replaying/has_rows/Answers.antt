-- Proof that `has_rows` meets its contract.
use Rattle.std.proofs.Common.{sym, ◌∙◌, true≢false}
use Rattle.office.proofs.replaying.has_rows.Goals as goal

-- the rows that were read are those of the state, and were compared with these
pub returns-in-Ok-clause-same : goal.returns-in-Ok-clause-same
returns-in-Ok-clause-same g c clean s at has = sym (c.in-Ok.ensures.kept clean s at) ∙ c.are_same.ensures.same has

pub returns-in-Ok-clause-other : goal.returns-in-Ok-clause-other
returns-in-Ok-clause-other g c clean s at lacks is = true≢false (sym (c.are_same.ensures.whole (c.in-Ok.ensures.kept clean s at ∙ is)) ∙ lacks)

pub returns-in-Ok-clause-clean : goal.returns-in-Ok-clause-clean
returns-in-Ok-clause-clean g c clean = c.read_office.ensures.reads.clean clean

pub returns-in-Err-clause-clean : goal.returns-in-Err-clause-clean
returns-in-Err-clause-clean g c clean = c.read_office.ensures.reads.clean clean
