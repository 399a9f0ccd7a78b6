-- Proof that `publish_for_order` meets its contract.
use Rattle.std.proofs.Common.{inl, inr, refl}
use Rattle.desk.specs.Pages.{failed}
use Rattle.desk.specs.declared.lines.Failure.TheVariants.{CopyFailed}
use Rattle.desk.proofs.PageLemmas.{error_shown}
use Rattle.server.proofs.order_response.publish_for_order.Goals as goal

pub returns-in-None-clause-told : goal.returns-in-None-clause-told
returns-in-None-clause-told g c =
    let shows = error_shown g.O.Sink.taken g.O.Sink.failed g.E.Sink.taken g.E.Sink.failed c.args.out.now c.args.err.now c.tell_failure.new.err
    (failed CopyFailed) c.tell_failure.result refl c.tell_failure.ensures in
    record {
      page = failed CopyFailed;
      cut = shows.0;
      shown = shows.1;
      is = λ clean is_open s at. (inr (CopyFailed, refl, tt), inl (record { is_open = is_open; at = at }));
    }

pub returns-in-Some-clause-told : goal.returns-in-Some-clause-told
returns-in-Some-clause-told g c =
    let told = c.publish.ensures.told in
    record { page = told.page; cut = told.cut; shown = told.shown; is = λ clean is_open s at. (told.is clean is_open s at, c.publish.ensures.stays clean is_open s at) }
