-- Proof that `copy_served` meets its contract if a failure is printed.
use Rattle.std.proofs.Common.{inl}
use Rattle.sqlite.specs.Held.{state}
use Rattle.count_office.proofs.CopyLemmas.{failure_told}
use Rattle.count_office.proofs.copies.copy_served.Goals as goal

pub returns-in-Err-clause-told : goal.returns-in-Err-clause-told
returns-in-Err-clause-told g c =
    failure_told g.O.Sink.taken g.O.Sink.failed g.E.Sink.taken g.E.Sink.failed (state g.S.Store) c.args.office.now c.args.office.now c.args.out.now
    c.args.err.now c.tell_failure.new.err c.in-Err.failure c.tell_failure.result
    c.tell_failure.ensures

pub returns-in-Err-clause-stays : goal.returns-in-Err-clause-stays
returns-in-Err-clause-stays g c clean was s at = inl (record { is_open = was; at = at })

pub returns-clause-told : goal.returns-clause-told
returns-clause-told g c =
    failure_told g.O.Sink.taken g.O.Sink.failed g.E.Sink.taken g.E.Sink.failed (state g.S.Store) c.args.office.now c.args.office.now c.args.out.now
    c.args.err.now c.tell_failure-in-Err-open_from.new.err c.failure_of.result c.tell_failure-in-Err-open_from.result
    c.tell_failure-in-Err-open_from.ensures
