-- Proof that `tell_record` meets its contract: the text is printed like a help text.
use Rattle.std.proofs.Common.{Bool, inl, inr, refl, subst}
use Rattle.std.specs.Prelude.{string_bytes}
use Rattle.tables.specs.declared.fault.Fault.TheVariants.{Memory}
use Rattle.desk.specs.Pages.{failed, printed}
use Rattle.desk.specs.declared.lines.Failure.TheVariants.{Office}
use Rattle.desk.proofs.PageLemmas.{error_shown}
use Rattle.server.specs.ServedOrders.{IsRecordText}
use Rattle.server.proofs.order_response.tell_record.Goals as goal

pub returns-in-Ok : goal.returns-in-Ok
returns-in-Ok g c =
    let shows = c.tell_words.ensures in
    let text = string_bytes c.in-Ok.text in
    let holds = subst (λ (has : Bool). IsRecordText (g.A.ServedFile.described c.args.order.now.served_file.now) has text) c.has_failed.ensures.value c.in-Ok.ensures in
    record { page = printed text; cut = shows.0; shown = shows.1; is = inl (text, holds, refl) }

pub returns-in-Err : goal.returns-in-Err
returns-in-Err g c =
    let page = failed (Office Memory) in
    let told = error_shown g.O.Sink.taken g.O.Sink.failed g.E.Sink.taken g.E.Sink.failed c.args.out.now c.args.err.now c.tell_failure.new.err page c.tell_failure.result refl c.tell_failure.ensures in
    record { page = page; cut = told.0; shown = told.1; is = inr refl }
