-- Proof that `begin_steps` meets its contract.
use Rattle.desk.proofs.order_running.begin_steps.Goals as goal

-- the end of the script is left out
pub returns-then-left_out-clause-sent : goal.returns-then-left_out-clause-sent
returns-then-left_out-clause-sent g c =
    let told = c.run_part.ensures.sent in
    record {
      page = told.page;
      cut = told.cut;
      shown = told.shown;
      is = λ clean is_open s at. let it = told.is clean is_open s at in (it.0, it.1, rw c.if-left_out.true it.2, it.3);
    }

-- the whole script is read
pub returns-else-left_out-clause-sent : goal.returns-else-left_out-clause-sent
returns-else-left_out-clause-sent g c =
    let told = c.run_steps.ensures.sent in
    record {
      page = told.page;
      cut = told.cut;
      shown = told.shown;
      is = λ clean is_open s at. let it = told.is clean is_open s at in (it.0, it.1, rw c.if-left_out.false it.2, it.3);
    }
