-- Proof that `put_files` meets its contract: one file after another is put into the folder.
use Rattle.std.proofs.Common.{[], ◌∷◌, ◌++◌, arith, refl, subst}
use Rattle.publication.specs.Files.{file_entry}
use Rattle.desk.specs.Publications.{PutsFiles}
use Rattle.desk.proofs.PublishLemmas.{fails_on, files_all, files_more, puts_more, puts_none, puts_stopped}
use Rattle.desk.proofs.publishing.put_files.Goals as goal

pub loop-file-init : goal.loop-file-init
loop-file-init g c = ([], puts_none (g.F.PublicFolder.held c.args.folder.now), refl)

pub loop-file-preserved : goal.loop-file-preserved
loop-file-preserved g c =
    let so_far = c.loop-file.invariant in
    let put = rw (c.as_str.ensures.value, c.as_str-in-loop-file.ensures.value) at c.in_ok-put.ensures.ok in (
      so_far.0 ++ file_entry c.file-item.result ∷ [],
      puts_more _ _ _ so_far.0 _ _ so_far.1 put,
      files_more file_entry c.args.files.now c.loop-file.file-index c.file-item.result so_far.0 c.loop-file-test.true c.file-item.is so_far.2,
    )

pub returns-in_err-put-clause-err : goal.returns-in_err-put-clause-err
returns-in_err-put-clause-err g c = fails_on _ _ _ _ c.from_residual.ensures.1 (puts_stopped _ _ _ _ _ c.loop-file.invariant.1 c.in_err-put.ensures.err)

pub returns-clause-ok : goal.returns-clause-ok
returns-clause-ok g c =
    let so_far = c.loop-file.invariant in
    subst (PutsFiles (g.F.PublicFolder.held c.args.folder.now) (g.F.PublicFolder.held c.loop-file.folder))
    (files_all file_entry c.args.files.now c.loop-file.file-index so_far.0 (omega (arith, c.loop-file-test.false)) so_far.2) so_far.1
