-- Proof that `make_office` meets its contract.
use Rattle.std.proofs.Common.{◌≡◌, inl, inr, refl, ap, subst, sym}
use Rattle.sqlite.specs.State.{HasCleanDisk}
use Rattle.sqlite.specs.Held.{state}
use Rattle.register.specs.Offices.{empty_office}
use Rattle.tables.specs.Reading.{OnlyReads}
use Rattle.tables.proofs.ReadLemmas.{only_reads_itself}
use Rattle.store.specs.StateTables.{IsAt, LeavesState}
use Rattle.desk.specs.Pages.{failed, page_of}
use Rattle.desk.specs.declared.lines.Failure.TheVariants.{Office}
use Rattle.desk.specs.declared.lines.LineOutcome.TheVariants.{Ready}
use Rattle.desk.specs.declared.orders.Task.TheVariants.{Init}
use Rattle.desk.proofs.KeptLemmas.{blank_told, has_tables, performed, rests_leaves, table_rests, untouched, wrong_same}
use Rattle.desk.proofs.perform.make_office.Goals as goal

pub returns-in-Ok : goal.returns-in-Ok
returns-in-Ok g c =
    let told = c.tell.ensures in
    record {
      page = page_of Ready;
      cut = told.0;
      shown = told.1;
      is = λ clean folder.
          let made = subst (λ conn. HasCleanDisk (state g.S.Store conn)) c.into_connection.ensures clean in
          record {
            in_office = λ db rests s left. absurd (c.in-Ok.ensures.taken (has_tables s db (state g.S.Store c.args.conn) rests left));
            elsewhere = record {
              made = λ blank. inl (refl, subst (λ conn. IsAt empty_office (state g.S.Store conn)) (sym c.into_connection.ensures) (c.in-Ok.ensures.made made blank).at);
              taken = λ db rests there. absurd (c.in-Ok.ensures.taken (table_rests db (state g.S.Store c.args.conn) rests there));
            };
          };
    }

pub returns-in-Err : goal.returns-in-Err
returns-in-Err g c =
    let told = c.tell-in-Err.ensures in
    let st = state g.S.Store c.args.conn in
    let page = failed (Office c.in-Err.fault) in
    record {
      page = page;
      cut = told.0;
      shown = told.1;
      is = λ clean folder. record {
        in_office = λ db rests s left.
            let wrong = c.in-Err.ensures.wrong (has_tables s db st rests left) rests.outside in
            let here = rests_leaves s db st (λ trees is_open may. g.met.S.Store.settled c.args.conn.store trees is_open may) rests left in
            let leaves = subst (λ conn. LeavesState (state g.S.Store conn) (λ x. x ≡ s)) (sym (wrong_same c.in-Err.fault wrong c.in-Err.ensures.told)) here in
            performed folder s Init told.0 _ _ page c.tell-in-Err.result st (state g.S.Store c.in-Err.conn) told.1
            (untouched _ s told.0 page (state g.S.Store c.in-Err.conn) (ap (λ fault. failed (Office fault)) wrong) leaves);
        elsewhere = record {
          made = λ blank. inr (c.in-Err.fault, refl, (blank_told st c.in-Err.fault blank c.in-Err.ensures.told, c.in-Err.ensures.stops clean blank));
          taken = λ db rests there.
              let wrong = c.in-Err.ensures.wrong (table_rests db st rests there) rests.outside in
              (ap (λ fault. failed (Office fault)) wrong, subst (λ conn. OnlyReads st (state g.S.Store conn)) (sym (wrong_same c.in-Err.fault wrong c.in-Err.ensures.told)) (only_reads_itself st));
        };
      };
    }
