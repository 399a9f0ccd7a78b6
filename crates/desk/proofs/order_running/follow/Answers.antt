-- Proof that `follow` meets its contract.
use Rattle.desk.proofs.order_running.follow.Goals as goal

pub returns-clause-did : goal.returns-clause-did
returns-clause-did g c =
    let told = c.follow_recorded.ensures.did in
    record {
      page = told.page;
      cut = told.cut;
      shown = told.shown;
      is = λ clean is_open s at. let it = told.is clean is_open s at in (it.0, it.1, it.2);
    }
