-- Proof that `perform_with_record` meets its contract once the record was opened: it hadn't failed.
use Rattle.std.proofs.Common.{inr}
use Rattle.count_office.proofs.second_order.perform_with_record.Goals as goal

pub returns : goal.returns
returns g c =
    let told = c.perform_recorded.ensures.headline in
    inr (
      c.open_record-conn.result.1,
      c.new-record.result,
      c.perform_recorded.new.recorder,
      told.cut,
      told.page,
      c.open_record-conn.ensures.reads,
      c.new-record.ensures.unfailed,
      λ clean. told.is clean,
    )
