-- Proof that `mend_served` meets its contract if a failure is printed.
use Rattle.std.proofs.Common.{inl, inr, refl}
use Rattle.sqlite.specs.Held.{state}
use Rattle.office.specs.Answers.{WhenOpenAt}
use Rattle.desk.specs.Mends.{IsMendPage}
use Rattle.count_office.proofs.MendLemmas.{mend_failed}
use Rattle.count_office.proofs.mends.mend_served.Goals as goal

pub returns-in-Some-clause-told : goal.returns-in-Some-clause-told
returns-in-Some-clause-told g c =
    mend_failed g.O.Sink.taken g.O.Sink.failed g.E.Sink.taken g.E.Sink.failed
    (λ page. WhenOpenAt (state g.S.Store) c.args.office.now c.args.office.now (λ s. IsMendPage s c.args.asked.now page)) c.in-Some.failure c.args.out.now c.args.err.now
    c.tell_failure.new.err c.tell_failure.result (λ clean was s at. inl (inr (inr (inr (c.in-Some.failure, refl))))) c.tell_failure.ensures

pub returns-in-Some-clause-stays : goal.returns-in-Some-clause-stays
returns-in-Some-clause-stays g c clean was s at = inl (record { is_open = was; at = at })

pub returns-in-Err-clause-told : goal.returns-in-Err-clause-told
returns-in-Err-clause-told g c =
    mend_failed g.O.Sink.taken g.O.Sink.failed g.E.Sink.taken g.E.Sink.failed
    (λ page. WhenOpenAt (state g.S.Store) c.args.office.now c.args.office.now (λ s. IsMendPage s c.args.asked.now page)) c.in-Err.failure c.args.out.now c.args.err.now
    c.tell_failure-in-Err.new.err c.tell_failure-in-Err.result (λ clean was s at. inl (inr (inr (inr (c.in-Err.failure, refl))))) c.tell_failure-in-Err.ensures

pub returns-in-Err-clause-stays : goal.returns-in-Err-clause-stays
returns-in-Err-clause-stays g c clean was s at = inl (record { is_open = was; at = at })

pub returns-clause-told : goal.returns-clause-told
returns-clause-told g c =
    mend_failed g.O.Sink.taken g.O.Sink.failed g.E.Sink.taken g.E.Sink.failed
    (λ page. WhenOpenAt (state g.S.Store) c.args.office.now c.args.office.now (λ s. IsMendPage s c.args.asked.now page)) c.failure_of.result c.args.out.now c.args.err.now
    c.tell_failure-in-Err-open_from.new.err c.tell_failure-in-Err-open_from.result (λ clean was s at. inl (inr (inr (inr (c.failure_of.result, refl)))))
    c.tell_failure-in-Err-open_from.ensures
