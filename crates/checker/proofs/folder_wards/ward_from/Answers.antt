-- Proof that `ward_from` meets its contract.
use Rattle.std.proofs.Common.{refl}
use Rattle.checker.proofs.FolderLemmas.{office_shows}
use Rattle.checker.specs.Values.{ballots_of}
use Rattle.sheet.specs.Entries.{shown}
use Rattle.std.specs.Prelude.{option_copied}
use Rattle.checker.proofs.folder_wards.ward_from.Goals as goal

pub returns-clause-only : goal.returns-clause-only
returns-clause-only c = λ ward is read declared sheet_is.
    office_shows (ballots_of c.args.told.now) ward (shown c.ward_in.result) c.args.told.now.bundles c.deref-3.result.now c.args.progress.is_declared (option_copied c.args.progress.sheet) _ is read
    c.ward_in.ensures.is refl c.deref-3.ensures.value declared sheet_is c.counted_ward.ensures.only
