-- Proof that the failure to publish is printed.
use Rattle.std.proofs.Common.{inr, refl}
use Rattle.desk.specs.Pages.{failed}
use Rattle.desk.specs.declared.lines.Failure.TheVariants.{CopyFailed}
use Rattle.desk.proofs.PageLemmas.{error_shown}
use Rattle.store_tests.proofs.steps.UnaidedServedFile.publish.Goals as goal

pub returns-clause-told : goal.returns-clause-told
returns-clause-told g c =
    let page = failed CopyFailed in
    let told = error_shown g.O.Sink.taken g.O.Sink.failed g.E.Sink.taken g.E.Sink.failed c.args._out.now c.args.err.now c.tell_failure.new.err page c.tell_failure.result refl c.tell_failure.ensures in
    record { page = page; cut = told.0; shown = told.1; is = λ clean was s at. inr (CopyFailed, refl, tt) }
