-- Proof that `copied` meets its contract.
use Rattle.std.proofs.Common.{inl, inr, refl, sym, ap, subst, ◌∙◌}
use Rattle.sqlite.specs.Held.{state}
use Rattle.register.specs.Machine.{after}
use Rattle.register.specs.Offices.{empty_office}
use Rattle.tables.specs.declared.fault.Fault.TheVariants.{Memory}
use Rattle.tables.specs.Reading.{OnlyReads}
use Rattle.tables.proofs.ReadLemmas.{only_reads_itself}
use Rattle.store.specs.declared.copying.CopyFault.TheVariants.{Taken}
use Rattle.desk.specs.Copying.{HoldsCopy, IsNoneCopied, copied_text, state_behind}
use Rattle.desk.specs.Pages.{failed, failure_of, replied}
use Rattle.desk.specs.declared.lines.Failure.TheVariants.{Office}
use Rattle.desk.proofs.CauseLemmas.{told_fault, told_one}
use Rattle.desk.proofs.CopyingLemmas.{ends_copying, holds_behind, none_copied, unbegun_behind}
use Rattle.desk.proofs.KeptLemmas.{read_leaves}
use Rattle.desk.proofs.copying.copied.Goals as goal

pub returns-in-Ok-copied_text-clause-copied : goal.returns-in-Ok-copied_text-clause-copied
returns-in-Ok-copied_text-clause-copied g c clean = record {
  in_office = λ db rests s left blank.
      let it = c.in-Ok.ensures.same clean db rests s left in
      inl (ap replied (c.in-Ok-copied_text.ensures ∙ ap copied_text it.0), refl, λ honest. it.1 honest blank);
  elsewhere = λ db ours rests none blank. let it = c.in-Ok.ensures.copied clean db ours rests in absurd (none it.0 it.1);
  taken = λ outside there. absurd (told_one c.copy.result c.in-Ok.is (c.copy.ensures.taken there outside).0);
  reads = c.copy.ensures.reads;
  leaves = λ db rests earlier left. read_leaves (after empty_office earlier) db (state g.S.Store c.args.conn.now) (state g.S.Store c.copy.new.conn)
      (λ trees is_open may. g.met.S.Store.settled c.args.conn.now.store trees is_open may) c.copy.ensures.reads clean rests left;
}

pub returns-in-Ok-copied_text-clause-holds : goal.returns-in-Ok-copied_text-clause-holds
returns-in-Ok-copied_text-clause-holds g c = (c.in-Ok.holdings, ap replied c.in-Ok-copied_text.ensures, λ honest blank. c.in-Ok.ensures.made honest blank)

pub returns-in-Err-copied_text-clause-holds : goal.returns-in-Err-copied_text-clause-holds
returns-in-Err-copied_text-clause-holds g c = (Office Memory, refl, λ honest blank. c.copy.ensures.whole honest blank)

pub returns-in-Err-clause-holds : goal.returns-in-Err-clause-holds
returns-in-Err-clause-holds g c =
    let copy_old = state g.T.Store c.args.copy.now in
    let copy_new = state g.T.Store c.copy.new.copy in
    let kept = holds_behind c.in-Err.fault copy_old copy_new
    (λ unbegun. subst (λ conn. OnlyReads copy_old (state g.T.Store conn)) (sym (c.in-Err.ensures.untouched unbegun)) (only_reads_itself copy_old))
    (λ honest blank. c.copy.ensures.whole honest blank) in
    subst (λ known. HoldsCopy known (failed (failure_of c.in-Err.fault)) copy_old copy_new) (sym c.state_behind.ensures) kept

pub returns-in-Err-clause-untouched : goal.returns-in-Err-clause-untouched
returns-in-Err-clause-untouched g c same = c.in-Err.ensures.untouched (unbegun_behind c.in-Err.fault (sym c.state_behind.ensures ∙ same))

pub returns-in-Err-copied_text-clause-copied : goal.returns-in-Err-copied_text-clause-copied
returns-in-Err-copied_text-clause-copied g c clean = record {
  in_office = λ db rests s left blank. inr (Office Memory, refl, inl refl, λ honest. c.copy.ensures.stops clean honest db rests s left blank);
  elsewhere = λ db ours rests none blank. let it = c.in-Ok.ensures.copied clean db ours rests in absurd (none it.0 it.1);
  taken = λ outside there. absurd (told_one c.copy.result c.in-Ok.is (c.copy.ensures.taken there outside).0);
  reads = c.copy.ensures.reads;
  leaves = λ db rests earlier left. read_leaves (after empty_office earlier) db (state g.S.Store c.args.conn.now) (state g.S.Store c.copy.new.conn)
      (λ trees is_open may. g.met.S.Store.settled c.args.conn.now.store trees is_open may) c.copy.ensures.reads clean rests left;
}

pub returns-in-Err-clause-copied : goal.returns-in-Err-clause-copied
returns-in-Err-clause-copied g c clean =
    let old = state g.S.Store c.args.conn.now in
    let new = state g.S.Store c.copy.new.conn in
    record {
      in_office = λ db rests s left blank.
          inr (
            failure_of c.in-Err.fault,
            refl,
            ends_copying c.in-Err.fault old new (c.in-Err.ensures.cause clean db rests s left blank),
            λ honest. c.copy.ensures.stops clean honest db rests s left blank,
          );
      elsewhere = λ db ours rests none blank.
          subst (λ known. IsNoneCopied db (failed (failure_of c.in-Err.fault)) known old new) (sym c.state_behind.ensures)
          (none_copied db c.in-Err.fault old new none (c.in-Err.ensures.told clean db ours rests blank));
      taken = λ outside there.
          let same = told_fault c.in-Err.fault Taken c.copy.result c.in-Err.is (c.copy.ensures.taken there outside).0 in
          (ap (λ why. failed (failure_of why)) same, c.state_behind.ensures ∙ ap state_behind same);
      reads = c.copy.ensures.reads;
      leaves = λ db rests earlier left. read_leaves (after empty_office earlier) db old new
          (λ trees is_open may. g.met.S.Store.settled c.args.conn.now.store trees is_open may) c.copy.ensures.reads clean rests left;
    }
