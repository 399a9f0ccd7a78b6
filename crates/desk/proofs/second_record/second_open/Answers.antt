-- Proof that `second_open` meets its contract.
use Rattle.std.proofs.Common.{inl, inr}
use Rattle.sqlite.specs.Held.{state}
use Rattle.tables.proofs.ReadLemmas.{only_reads_itself}
use Rattle.desk.specs.Pages.{page_of}
use Rattle.desk.proofs.SecondLemmas.{at_path, file_told}
use Rattle.desk.proofs.second_record.second_open.Goals as goal

-- the file was read
pub returns-in-Ok-clause-told : goal.returns-in-Ok-clause-told
returns-in-Ok-clause-told g c =
    let told = c.second_in.ensures.told in
    record {
      page = told.page;
      cut = told.cut;
      shown = told.shown;
      is = λ clean was s at same other blank also.
          at_path (g.F.Folder.held c.args.folder.now) s c.args.path.now _ told.page c.open.ensures
          (file_told s c.args.path.now _ c.in-Ok.bytes.items told.page c.in-Ok.ensures.read (rw c.deref.ensures.value at (told.is clean was s at same other blank also)));
    }

-- it couldn't be read
pub returns-in-Err-clause-told : goal.returns-in-Err-clause-told
returns-in-Err-clause-told g c =
    let told = c.tell.ensures in
    let page = page_of c.in-Err.outcome in
    record {
      page = page;
      cut = told.0;
      shown = told.1;
      is = λ clean was s at same other blank also. at_path (g.F.Folder.held c.args.folder.now) s c.args.path.now _ page c.open.ensures (inr (inr (inl c.in-Err.ensures.unread)));
    }

pub returns-in-Err-clause-stays : goal.returns-in-Err-clause-stays
returns-in-Err-clause-stays g c clean was s at = inl (record { is_open = was; at = at })

pub returns-in-Err-clause-reads : goal.returns-in-Err-clause-reads
returns-in-Err-clause-reads g c = only_reads_itself (state g.S.Store c.args.office.now.held)
