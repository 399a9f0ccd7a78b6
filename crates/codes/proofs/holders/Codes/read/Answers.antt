-- Why `read` keeps its promise.
use Rattle.codes.proofs.ApartLemmas.{read_apart}
use Rattle.codes.proofs.holders.Codes.read.Goals as goal

pub returns-clause-apart : goal.returns-clause-apart
returns-clause-apart c = read_apart _ _ _ _ c.in_ok-credentials_by.ensures c.in_ok-office_by.ensures
