-- Proof that `copy` meets its contract.
use Rattle.std.proofs.Common.{◌≡◌, inl, ap, ◌∙◌, subst, rules}
use Rattle.sqlite.specs.Held.{state}
use Rattle.register.specs.Offices.{OfficeState}
use Rattle.rowcheck.specs.States.{state_of, tabulated}
use Rattle.store.specs.Copies.{LeavesNoneOrAll, holdings_of}
use Rattle.store.specs.StateTables.{IsAt}
use Rattle.store.proofs.ReopenLemmas.{at_left, left_ours, left_told, left_failed}
use Rattle.store.proofs.CopyLemmas.{copy_is_at, copy_stops, copy_whole, read_left}
use Rattle.store.proofs.copying.copy.Goals as goal

pub returns-in-Ok-commit_copy : goal.returns-in-Ok-commit_copy
returns-in-Ok-commit_copy g c =
    let x = state_of c.in-Ok.rows in
    let t = tabulated c.in-Ok.rows in
    let old = state g.S.Store c.args.conn.now in
    let blank = state g.T.Store c.args.copy.now in
    let full = state g.T.Store c.commit_copy.new.copy in
    let read = c.in-Ok.ensures in
    let made = c.in-Ok-commit_copy.ensures in
    record {
      copied = λ clean db ours rests. (
        x,
        (read.holds clean db ours rests).0,
        c.holdings_of.ensures,
        λ honest new. copy_is_at x t full read.judged (λ trees is_open may. g.met.T.Store.settled c.commit_copy.new.copy.store trees is_open may) (made.done honest tt new),
      );
      same = λ clean db rests s left.
          let is : x ≡ s = read_left s x db left (read.holds clean db (left_ours s db left) rests).0 in (
            c.holdings_of.ensures ∙ ap holdings_of is,
            λ honest new. subst (λ (y : OfficeState). IsAt y full) is
                (copy_is_at x t full read.judged (λ trees is_open may. g.met.T.Store.settled c.commit_copy.new.copy.store trees is_open may) (made.done honest tt new)),
          );
      stops = λ clean honest db rests s left new.
          let found = read.holds clean db (left_ours s db left) rests in
          subst (λ (y : OfficeState). LeavesNoneOrAll y blank full) (read_left s x db left found.0) (copy_stops x t blank full found.1 honest (c.commit_copy.ensures.survives tt new));
      kept = λ clean s at.
          let was = at_left s old at (c.checked_rows.ensures.reads.was_open clean (read.opens clean)) in
          let found = read.holds clean old.now (left_ours s old.now was.1) was.0 in
          let is : x ≡ s = read_left s x old.now was.1 found.0 in
          record {
            same = (
              c.holdings_of.ensures ∙ ap holdings_of is,
              λ honest new. subst (λ (y : OfficeState). IsAt y full) is
                  (copy_is_at x t full read.judged (λ trees is_open may. g.met.T.Store.settled c.commit_copy.new.copy.store trees is_open may) (made.done honest tt new)),
            );
            stops = λ honest new. subst (λ (y : OfficeState). LeavesNoneOrAll y blank full) is (copy_stops x t blank full found.1 honest (c.commit_copy.ensures.survives tt new));
          };
      made = λ honest new. (
        x,
        c.holdings_of.ensures,
        copy_is_at x t full read.judged (λ trees is_open may. g.met.T.Store.settled c.commit_copy.new.copy.store trees is_open may)
            (made.done honest tt new),
      );
      whole = λ honest new. copy_whole x t blank full read.judged honest (c.commit_copy.ensures.survives tt new);
      told = λ clean db ours rests new. tt;
      cause = λ clean db rests s left new. tt;
      reads = c.checked_rows.ensures.reads;
      untouched = tt;
      taken = search rules;
      inside = search rules;
      inside_too = search rules;
      keeps_connection = c.commit_copy.ensures.keeps_connection;
      clean = c.commit_copy.ensures.clean;
      outside = λ was. c.checked_rows.ensures.outside;
      outside_too = λ was. c.commit_copy.ensures.outside;
    }

pub returns-in-Ok : goal.returns-in-Ok
returns-in-Ok g c =
    let x = state_of c.in-Ok.rows in
    let t = tabulated c.in-Ok.rows in
    let old = state g.S.Store c.args.conn.now in
    let blank = state g.T.Store c.args.copy.now in
    let full = state g.T.Store c.commit_copy.new.copy in
    let read = c.in-Ok.ensures in
    record {
      copied = λ clean db ours rests. tt;
      same = λ clean db rests s left. tt;
      stops = λ clean honest db rests s left new.
          let found = read.holds clean db (left_ours s db left) rests in
          subst (λ (y : OfficeState). LeavesNoneOrAll y blank full) (read_left s x db left found.0) (copy_stops x t blank full found.1 honest (c.commit_copy.ensures.survives tt new));
      kept = λ clean s at.
          let was = at_left s old at (c.checked_rows.ensures.reads.was_open clean (read.opens clean)) in
          let found = read.holds clean old.now (left_ours s old.now was.1) was.0 in
          record {
            same = tt;
            stops = λ honest new. subst (λ (y : OfficeState). LeavesNoneOrAll y blank full) (read_left s x old.now was.1 found.0)
                (copy_stops x t blank full found.1 honest (c.commit_copy.ensures.survives tt new));
          };
      made = λ honest new. tt;
      whole = λ honest new. copy_whole x t blank full read.judged honest (c.commit_copy.ensures.survives tt new);
      told = λ clean db ours rests new. (search rules, (x, (read.holds clean db ours rests).0));
      cause = search rules;
      reads = c.checked_rows.ensures.reads;
      untouched = search rules;
      taken = search rules;
      inside = search rules;
      inside_too = search rules;
      keeps_connection = c.commit_copy.ensures.keeps_connection;
      clean = c.commit_copy.ensures.clean;
      outside = λ was. c.checked_rows.ensures.outside;
      outside_too = λ was. c.commit_copy.ensures.outside;
    }

pub returns : goal.returns
returns g c =
    let read = c.in-Err.ensures in
    record {
      copied = λ clean db ours rests. tt;
      same = λ clean db rests s left. tt;
      stops = search rules;
      kept = λ clean s at. record { same = tt; stops = λ honest new trees may. inl may };
      made = λ honest new. tt;
      whole = search rules;
      told = λ clean db ours rests new. (read.told clean db ours rests, read.fails clean db ours rests);
      cause = λ clean db rests s left new.
          let ours = left_ours s db left in
          left_failed s db (state g.S.Store c.args.conn.now) (state g.S.Store c.checked_rows.new.conn) c.in-Err.fault left (read.told clean db ours rests) (read.fails clean db ours rests);
      reads = c.checked_rows.ensures.reads;
      untouched = search rules;
      taken = search rules;
      inside = search rules;
      inside_too = search rules;
      keeps_connection = search rules;
      clean = λ honest. honest;
      outside = λ was. c.checked_rows.ensures.outside;
      outside_too = λ was. was;
    }
