-- Proof that `write_papers_table` meets its contract.
use Rattle.sheet.proofs.page.write_papers_table.Goals as goal

pub returns : goal.returns
returns g c =
    rw (
      c.from.ensures,
      c.from-2.ensures,
      c.quota.ensures.is,
      c.from-3.ensures,
      c.from-4.ensures,
      c.from-5.ensures,
      c.from-6.ensures,
      c.from-7.ensures,
      c.rejected_in_all-rejected.ensures.is,
      c.from-8.ensures,
    ) at c.write_line.ensures
