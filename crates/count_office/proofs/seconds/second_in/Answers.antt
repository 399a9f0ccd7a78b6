-- Proof that `second_in` meets its contract: whatever the folder has at the path is a file.
use Rattle.std.proofs.Common.{◌≡◌, ◌⊎◌, List, ℕ, inl, inr}
use Rattle.register.specs.Offices.{OfficeState}
use Rattle.tables.specs.declared.fault.Fault.TheVariants.{Memory}
use Rattle.desk.specs.Folders.{File}
use Rattle.desk.specs.Pages.{Page, failed}
use Rattle.desk.specs.Seconds.{IsSecondPage, IsSecondTold}
use Rattle.desk.specs.declared.lines.Failure.TheVariants.{Office}
use Rattle.count_office.proofs.seconds.second_in.Goals as goal

second_page : (IsThere : File → Type 0) (s : OfficeState) (path : List ℕ) (page : Page)
    → ((file : File) × IsThere file × IsSecondTold s path file page) ⊎ (page ≡ failed (Office Memory)) → IsSecondPage s path page
second_page IsThere s path page (inl (file, at, told)) = inl (file, told)
second_page IsThere s path page (inr failing) = inr (Office Memory, failing)

pub returns-clause-told : goal.returns-clause-told
returns-clause-told g c =
    let told = c.second_served.ensures.told in
    record { page = told.page; cut = told.cut; shown = told.shown; is = λ clean was s at. second_page _ s c.args.path.now told.page (told.is clean was s at) }
