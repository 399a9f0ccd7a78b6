-- Proof that `report` meets its contract.
use Rattle.std.proofs.Common.{map, string_bytes}
use Rattle.mending.specs.Mending.{mended}
use Rattle.desk.proofs.MendLemmas.{text_told}
use Rattle.desk.proofs.mended_office.report.Goals as goal

pub returns-in-Ok-text_of-clause-mended : goal.returns-in-Ok-text_of-clause-mended
returns-in-Ok-text_of-clause-mended g c clean is_open at =
    let point = c.in-Ok.ensures.mended (c.wards_of.ensures.reads.clean clean) (is_open, at) in
    let lines = c.in_ok-after.ensures.read clean point.1.0 (mended c.args.changes).state point.1.1 in (
      text_told (map string_bytes c.args.before.now) (map string_bytes c.in_ok-after.after.items) (mended c.args.changes) c.in-Ok.mended (string_bytes c.in-Ok-text_of.text)
          point.0 lines.0 (rw c.deref.ensures.value at c.in-Ok-text_of.ensures),
      lines.1,
    )

pub returns-in-Ok-text_of-clause-clean : goal.returns-in-Ok-text_of-clause-clean
returns-in-Ok-text_of-clause-clean g c clean = c.mend.ensures.sound (c.wards_of.ensures.reads.clean clean)
