-- Proof that `first_stages` meets its contract.
use Rattle.std.proofs.Common.{false}
use Rattle.checker.proofs.FolderLemmas.{all_shown}
use Rattle.checker.proofs.folder_wards.first_stages.Goals as goal

pub returns-then-all-done : goal.returns-then-all-done
returns-then-all-done c = all_shown false c.args.all.now
