-- Proof that `journalled` meets its contract.
use Rattle.std.proofs.Common.{inl, inr, refl, subst}
use Rattle.sqlite.specs.Held.{state}
use Rattle.register.specs.Machine.{after}
use Rattle.register.specs.Offices.{OfficeState, empty_office}
use Rattle.rowcheck.specs.States.{state_of}
use Rattle.desk.specs.Journals.{IsJournalTold}
use Rattle.desk.specs.Pages.{page_of}
use Rattle.desk.proofs.KeptLemmas.{read_leaves}
use Rattle.desk.proofs.journal_check.journalled.Goals as goal

-- the rows that were read are those of a state
pub journal_of-requires : goal.journal_of-requires
journal_of-requires g c = c.in-Ok.ensures.is.rise

pub returns-in-Ok-clause-told : goal.returns-in-Ok-clause-told
returns-in-Ok-clause-told g c clean =
    let old = state g.S.Store c.args.conn.now in
    let new = state g.S.Store c.rows.new.conn in
    record {
      in_office = λ db rests s left blank also.
          subst (λ (x : OfficeState). IsJournalTold x (page_of c.journal_of.result.0)) (c.in-Ok.ensures.left clean db rests s left) (c.journal_of.ensures also blank);
      elsewhere = λ db ours rests none. absurd (none (state_of c.in-Ok.rows) (c.in-Ok.ensures.found clean db ours rests));
      reads = c.rows.ensures.reads;
      leaves = λ db rests earlier left.
          read_leaves (after empty_office earlier) db old new (λ trees is_open may. g.met.S.Store.settled c.args.conn.now.store trees is_open may) c.rows.ensures.reads clean rests left;
    }

pub returns-in-Err-clause-told : goal.returns-in-Err-clause-told
returns-in-Err-clause-told g c clean =
    let old = state g.S.Store c.args.conn.now in
    let new = state g.S.Store c.rows.new.conn in
    record {
      in_office = λ db rests s left blank also.
          inr (inr (c.in-Err.fault, refl, elim (c.in-Err.ensures.cause clean db rests s left) [ inl memory ↦ inl memory | inr store ↦ inr store.0 ]));
      elsewhere = λ db ours rests none. (c.in-Err.fault, refl, (c.in-Err.ensures.told clean db ours rests, c.in-Err.ensures.fails clean db ours rests));
      reads = c.rows.ensures.reads;
      leaves = λ db rests earlier left.
          read_leaves (after empty_office earlier) db old new (λ trees is_open may. g.met.S.Store.settled c.args.conn.now.store trees is_open may) c.rows.ensures.reads clean rests left;
    }
