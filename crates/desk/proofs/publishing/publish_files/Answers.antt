-- Proof that `publish_files` meets its contract: the files are put into the folder, and then it becomes public.
use Rattle.desk.proofs.PublishLemmas.{fails_on, puts_end, puts_fail}
use Rattle.desk.proofs.publishing.publish_files.Goals as goal

pub returns-in_err-put_files-clause-err : goal.returns-in_err-put_files-clause-err
returns-in_err-put_files-clause-err g c = fails_on _ _ _ _ c.from_residual.ensures.1 c.in_err-put_files.ensures.err

pub returns-clause-ok : goal.returns-clause-ok
returns-clause-ok g c = puts_end c.publish.result _ _ _ _ c.in_ok-put_files.ensures.ok c.publish.ensures.ok

pub returns-clause-err : goal.returns-clause-err
returns-clause-err g c = puts_fail c.publish.result _ _ _ _ c.in_ok-put_files.ensures.ok c.publish.ensures.err
