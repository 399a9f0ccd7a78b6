-- Proof that `read_office` meets its contract.
use Rattle.std.proofs.Common.{rules}
use Rattle.sqlite.specs.Held.{state}
use Rattle.rowcheck.specs.States.{state_of}
use Rattle.store.proofs.CopyLemmas.{read_left}
use Rattle.store.proofs.ReopenLemmas.{at_left, left_failed, left_ours}
use Rattle.store.proofs.whole.read_office.Goals as goal

pub returns-in-Ok : goal.returns-in-Ok
returns-in-Ok g c =
    let x = state_of c.in-Ok.rows in
    let old = state g.S.Store c.args.conn.now in
    let read = c.in-Ok.ensures in
    record {
      is = read.judged.0;
      tabulates = read.judged.1;
      found = λ clean db ours rests. (read.holds clean db ours rests).0;
      left = λ clean db rests s left. read_left s x db left (read.holds clean db (left_ours s db left) rests).0;
      kept = λ clean s at.
          let was = at_left s old at (c.checked_rows.ensures.reads.was_open clean (read.opens clean)) in
          read_left s x old.now was.1 (read.holds clean old.now (left_ours s old.now was.1) was.0).0;
      told = λ clean db ours rests. tt;
      fails = λ clean db ours rests. tt;
      cause = λ clean db rests s left. tt;
      reads = c.checked_rows.ensures.reads;
      inside = search rules;
      outside = λ was. c.checked_rows.ensures.outside;
    }

pub returns-in-Err : goal.returns-in-Err
returns-in-Err g c =
    let read = c.in-Err.ensures in
    record {
      is = tt;
      tabulates = tt;
      found = λ clean db ours rests. tt;
      left = λ clean db rests s left. tt;
      kept = λ clean s at. tt;
      told = λ clean db ours rests. read.told clean db ours rests;
      fails = λ clean db ours rests. read.fails clean db ours rests;
      cause = λ clean db rests s left.
          let ours = left_ours s db left in
          left_failed s db (state g.S.Store c.args.conn.now) (state g.S.Store c.checked_rows.new.conn) c.in-Err.fault left (read.told clean db ours rests) (read.fails clean db ours rests);
      reads = c.checked_rows.ensures.reads;
      inside = search rules;
      outside = λ was. c.checked_rows.ensures.outside;
    }
