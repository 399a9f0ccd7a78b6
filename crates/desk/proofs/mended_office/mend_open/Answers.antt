-- Proof that `mend_open` meets its contract.
use Rattle.sqlite.specs.Held.{state}
use Rattle.desk.specs.Pages.{outputs_of, page_of}
use Rattle.desk.proofs.MendLemmas.{whole_mended}
use Rattle.desk.proofs.TellingLemmas.{shown_zero}
use Rattle.desk.proofs.mended_office.mend_open.Goals as goal

pub returns-clause-made : goal.returns-clause-made
returns-clause-made g c =
    let told = c.tell.ensures in
    record {
      page = page_of c.mended_open-outcome.result.0;
      cut = told.0;
      shown = told.1;
      is = (c.mended_open-outcome.ensures.holds, λ clean was s at. c.mended_open-outcome.ensures.made clean was s at);
    }

pub returns-clause-complete : goal.returns-clause-complete
returns-clause-complete g c zero =
    let outputs = outputs_of g.O.Sink.taken g.O.Sink.failed g.E.Sink.taken g.E.Sink.failed in
    let page = page_of c.mended_open-outcome.result.0 in
    let none = (shown_zero c.tell.ensures.0 (outputs c.args.out.now c.args.err.now) (outputs c.tell.new.out c.tell.new.err) page c.tell.result c.tell.ensures.1 zero).1 in
    whole_mended c.mended_open-outcome.result.1 page (state g.N.Store c.args.new.now) (state g.N.Store c.mended_open-outcome.new.new) none c.mended_open-outcome.ensures.holds
