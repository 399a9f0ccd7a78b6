-- Proof that `fill_open` meets its contract and may print one more failure: what was printed with status 0 was written whole.
use Rattle.std.proofs.Common.{◌≡◌, arith, inl}
use Rattle.sqlite.specs.Held.{state}
use Rattle.desk.specs.Pages.{outputs_of}
use Rattle.count_office.proofs.CopyLemmas.{closed_told, failure_told, whole_at_zero}
use Rattle.count_office.proofs.copies.fill_open.Goals as goal

pub finish-requires : goal.finish-requires
finish-requires g c = λ zero.
    let told = c.copy_open-status.ensures.copied in
    let outputs = outputs_of g.O.Sink.taken g.O.Sink.failed g.E.Sink.taken g.E.Sink.failed in
    let all = whole_at_zero told.cut (outputs c.args.out.now c.args.err.now) (outputs c.copy_open-status.new.out c.copy_open-status.new.err) told.page c.copy_open-status.result.0 zero told.shown in
    let same : g.E.Sink.failed c.copy_open-status.new.err ≡ g.E.Sink.failed c.args.err.now = all.err_failed in
    let low = c.requires.err in
    omega (arith, same, low)

pub returns-in-Some-clause-told : goal.returns-in-Some-clause-told
returns-in-Some-clause-told g c =
    failure_told g.O.Sink.taken g.O.Sink.failed g.E.Sink.taken g.E.Sink.failed (state g.S.Store) c.args.office.now c.args.office.now c.args.out.now
    c.args.err.now c.tell_failure.new.err c.in-Some.failure c.tell_failure.result
    c.tell_failure.ensures

pub returns-in-Some-clause-stays : goal.returns-in-Some-clause-stays
returns-in-Some-clause-stays g c clean was s at = inl (record { is_open = was; at = at })

pub returns-clause-told : goal.returns-clause-told
returns-clause-told g c =
    let made = c.copy_open-status in
    closed_told g.O.Sink.taken g.O.Sink.failed g.E.Sink.taken g.E.Sink.failed (state g.S.Store) c.args.office.now made.new.office made.result.1 _ _
    c.args.out.now made.new.out c.args.err.now made.new.err c.finish.new.err made.result.0 c.finish.result made.ensures.copied c.finish.ensures.other c.finish.ensures.whole

pub returns-clause-clean : goal.returns-clause-clean
returns-clause-clean g c clean = c.copy_open-status.ensures.reads.clean clean
