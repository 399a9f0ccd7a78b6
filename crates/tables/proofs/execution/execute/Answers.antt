-- Proof that `execute` meets its contract.
use Rattle.std.proofs.Common.{Ok, Err, ap}
use Rattle.sqlite.specs.Held.{state}
use Rattle.tables.proofs.ContentsLemmas.{keeps}
use Rattle.tables.proofs.execution.execute.Goals as goal

pub returns-in-Ok : goal.returns-in-Ok
returns-in-Ok g c =
    let ran = c.in-Ok.ensures in
    record {
      same_reference = ran.same_reference;
      runs = λ clean inside. (c.in-Ok.field-0, ran.runs clean inside);
      keeps = λ clean. keeps _ _ (state g.S.Store c.args.tx.now.conn.now) (state g.S.Store c.execute.new.self.conn.now) (Ok c.in-Ok.field-0) (ran.runs clean)
          (λ h. ap (state g.S.Store) (ran.ended h).1);
      survives = ran.survives;
      told = tt;
    }

pub returns-in-Err : goal.returns-in-Err
returns-in-Err g c =
    let ran = c.in-Err.ensures in
    record {
      same_reference = ran.same_reference;
      runs = λ clean inside. tt;
      keeps = λ clean. keeps _ _ (state g.S.Store c.args.tx.now.conn.now) (state g.S.Store c.execute.new.self.conn.now) (Err c.in-Err.e) (ran.runs clean) (λ h. ap (state g.S.Store) (ran.ended h).1);
      survives = ran.survives;
      told = (c.in-Err.e, c.fault_of.ensures.value, ran.runs);
    }
