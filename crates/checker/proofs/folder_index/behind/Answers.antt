-- Proof that `behind` meets its contract.
use Rattle.std.proofs.Common.{rules}
use Rattle.checker.proofs.IndexPlaces.{behind_none, behind_some}
use Rattle.checker.proofs.folder_index.behind.Goals as goal

pub returns : goal.returns
returns c = search (rules, behind_none, behind_some)
