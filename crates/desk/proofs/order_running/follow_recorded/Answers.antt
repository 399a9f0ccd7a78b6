-- Proof that `follow_recorded` meets its contract.
use Rattle.std.proofs.Common.{false, inl, refl}
use Rattle.desk.proofs.order_running.follow_recorded.Goals as goal

pub returns-in-Run-clause-did : goal.returns-in-Run-clause-did
returns-in-Run-clause-did g c =
    let told = c.run.ensures.ran in
    record {
      page = told.page;
      cut = told.cut;
      shown = told.shown;
      is = λ clean is_open s at. let it = told.is clean is_open s at in (it.0, it.1, rw c.in-Run.is (inl (_, false, (refl, refl), it.2)), it.3);
    }

pub returns-in-Replay-clause-did : goal.returns-in-Replay-clause-did
returns-in-Replay-clause-did g c =
    let told = c.replay.ensures.ran in
    record {
      page = told.page;
      cut = told.cut;
      shown = told.shown;
      is = λ clean is_open s at. let it = told.is clean is_open s at in (it.0, it.1, rw c.in-Replay.is it.2, it.3);
    }
