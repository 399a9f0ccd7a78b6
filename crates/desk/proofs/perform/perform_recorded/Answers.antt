-- Proof that `perform_recorded` meets its contract.
use Rattle.desk.proofs.RecordedLemmas.{init_recorded, migrate_recorded}
use Rattle.desk.proofs.perform.perform_recorded.Goals as goal

pub returns-in-Init : goal.returns-in-Init
returns-in-Init g c =
    let told = c.make_office.ensures in
    record {
      headline = record {
        page = told.page;
        cut = told.cut;
        shown = told.shown;
        is = λ clean. rw c.in-Init.is (init_recorded (g.R.Recorder.records c.args.recorder.now) (g.R.Recorder.found c.args.recorder.now)
            (g.R.Recorder.failed c.args.recorder.now) (g.F.Folder.held c.args.folder.now) told.cut told.page _ _ _ (told.is clean (g.F.Folder.held c.args.folder.now)));
      };
    }

pub returns-in-Migrate : goal.returns-in-Migrate
returns-in-Migrate g c =
    let told = c.migrate_office.ensures in
    record {
      headline = record {
        page = told.page;
        cut = told.cut;
        shown = told.shown;
        is = λ clean. rw c.in-Migrate.is (migrate_recorded (g.R.Recorder.records c.args.recorder.now) (g.R.Recorder.found c.args.recorder.now)
            (g.R.Recorder.failed c.args.recorder.now) (g.F.Folder.held c.args.folder.now) told.cut told.page _ _ _ (told.is clean (g.F.Folder.held c.args.folder.now)));
      };
    }

pub returns-in-InOffice : goal.returns-in-InOffice
returns-in-InOffice g c =
    let told = c.in_office.ensures in
    record { headline = record { page = told.page; cut = told.cut; shown = told.shown; is = λ clean. rw c.in-InOffice.is (told.is clean) } }
